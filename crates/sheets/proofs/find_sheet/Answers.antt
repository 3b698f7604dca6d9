-- `find_sheet` meets its contract: an index below the count has its record within the bytes. Assumes nothing.
use mathlib.Core.Path.{sym, ◌∙◌}
use borrow.Author.Tests.{lt-ltb, le-ltb}
use Rattle.sheets.specs.Sheets.{lookup_of}
use Rattle.sheets.proofs.find_sheet.Goals as goal

pub returns-then-sheets-i : goal.returns-then-sheets-i
unfolding lookup_of
returns-then-sheets-i c = rw (le-ltb _ _ c.if-sheets-i.true)

pub returns-then-not-record_within : goal.returns-then-not-record_within
unfolding lookup_of
returns-then-not-record_within c =
    rw (lt-ltb _ _ c.if-sheets-i.false, ← c.sheet_at-record.ensures, sym c.record_within.ensures ∙ c.if-not-record_within.true)

pub returns : goal.returns
unfolding lookup_of
returns c =
    rw (c.sheet_of.ensures, lt-ltb _ _ c.if-sheets-i.false, ← c.sheet_at-record.ensures, sym c.record_within.ensures ∙ c.if-not-record_within.false)
