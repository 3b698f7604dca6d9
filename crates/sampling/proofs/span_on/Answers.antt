-- `span_on` meets its contract: the checks in their order, and what they leave is what the search asks. Assumes nothing.
use mathlib.Core.Path.{◌≡◌, sym, ◌∙◌}
use mathlib.Core.Bool.{true}
use borrow.Author.Rules.{rules}
use mir.Facts.{to_z-of_z}
use mir.Syntax.{w32, w64}
use mir.Val.{SFits}
use Rattle.curve.specs.Limits.{within}
use Rattle.curve.proofs.Within.{range}
use Rattle.reference.specs.Search.{span_of}
use Rattle.sampling.specs.Sample.{air_of, input_within}
use Rattle.sampling.proofs.Span.{setting_is}
use Rattle.sampling.specs.Span.{spanned_on}
use Rattle.sampling.proofs.Within.{input_ok}
use Rattle.sampling.proofs.span_on.Goals as goal
use Rattle.sampling.proofs.span_on.Goals.{After-span_setting, After-from, Else-not-input_within, Else-not-within}

-- ---- what is known after each check that is passed
input_at : (c : Else-not-input_within) → input_within c.args.at ≡ true
input_at c = sym c.input_within.ensures ∙ c.if-not-input_within.false

cylinder_at : (c : Else-not-within) → within 1 3000000000 c.args.cylinder ≡ true
cylinder_at c = sym c.within.ensures ∙ c.if-not-within.false

raw_is : (c : After-from) → c.from.result ≡ c.args.at.raw
raw_is c =
    let f : SFits w32 c.args.at.raw = search rules in
    simp to_z-of_z at c.from.ensures

pub returns-then-not-input_within : goal.returns-then-not-input_within
unfolding spanned_on
returns-then-not-input_within c = rw (sym c.input_within.ensures ∙ c.if-not-input_within.true)

pub returns-then-not-within : goal.returns-then-not-within
unfolding spanned_on
returns-then-not-within c = rw (input_at (goal.at.returns-then-not-within c).Else-not-input_within, sym c.within.ensures ∙ c.if-not-within.true)

pub span_setting-requires : goal.span_setting-requires
span_setting-requires c =
    let i = input_ok c.args.at (input_at (goal.at.span_setting-requires c).Else-not-input_within) in
    let r = range 1 3000000000 c.args.cylinder (cylinder_at (goal.at.span_setting-requires c).Else-not-within) in
    let fq = c.ranges.q in
    let fw : SFits w64 c.from.result = search rules in
    simp to_z-of_z (c.requires.0, rw c.air_of.ensures i.air, rw (raw_is (goal.at.span_setting-requires c).After-from) i.raw, c.requires.1, r.0, r.1)

found_is : (c : After-span_setting) → c.span_setting.result ≡ span_of c.args.s c.args.at.raw c.args.q c.args.cylinder (air_of c.args.at)
found_is c =
    let fq = c.ranges.q in
    let fw : SFits w64 c.from.result = search rules in
    let f : SFits w32 c.args.at.raw = search rules in
    let raw : c.from.result ≡ c.args.at.raw = simp to_z-of_z at c.from.ensures in
    rw (raw, c.air_of.ensures) at (simp to_z-of_z at c.span_setting.ensures)

pub returns : goal.returns
unfolding spanned_on
returns c =
    rw (input_at (goal.at.returns c).Else-not-input_within, cylinder_at (goal.at.returns c).Else-not-within, ← found_is (goal.at.returns c).After-span_setting)
    (c.ok_or.ensures.value ∙ setting_is _)
