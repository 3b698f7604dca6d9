-- `format::header::well_formed` meets its contract: there is no header, or the tests are those of its words. Assumes nothing.
use borrow.Author.Tests.{le-leb, lt-leb}
use Rattle.format.specs.Header.{well_formed}
use Rattle.format.proofs.header.well_formed.Goals as goal

pub returns-then-file-lt16 : goal.returns-then-file-lt16
unfolding well_formed
returns-then-file-lt16 c = rw (lt-leb 16 _ c.if-file-lt16.true)

pub returns : goal.returns
unfolding well_formed
returns c =
    rw (le-leb 16 _ c.if-file-lt16.false, c.u32_at-2.ensures, c.u32_at.ensures, c.u32_at-events.ensures, c.u32_at-sheets.ensures)
