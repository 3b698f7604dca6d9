-- `span_setting` meets its contract: at or below the zero no span serves; else one search tells whether 499,999 does, and one
-- finds the span. Assumes nothing.
use mathlib.Core.Path.{◌≡◌, sym, ◌∙◌}
use mathlib.Core.Bool.{Bool}
use Prim.Native.Nat.{ℕ}
use borrow.Author.Rules.{rules}
use mir.Facts.{to_z-of_z}
use mir.Syntax.{w64}
use mir.Val.{SFits}
use lib.IntN.{ℤ, pos, ◌-ℤ◌}
use Rattle.rounding.proofs.Tests.{lt_true, false_le}
use Rattle.curve.specs.declared.Sheet.{Sheet}
use Rattle.curve.specs.declared.Air.{Air}
use Rattle.reference.specs.Search.{serves, reading_under, span_of}
use Rattle.reference.proofs.Least.{least_none, least_one}
use Rattle.reference.proofs.Serving.{never_serves}
use Rattle.reference.proofs.span_setting.Goals as goal
use Rattle.reference.proofs.span_setting.Goals.{After-difference, After-is_some}

-- the test of a span
abbrev test : Sheet → ℤ → ℤ → ℕ → Air → ℕ → Bool
test s raw q cylinder a span = serves cylinder (reading_under s raw q a span)

difference_is : (c : After-difference) → c.difference.result ≡ c.args.raw -ℤ c.args.q
difference_is c =
    let fr = c.ranges.raw in
    let fq = c.ranges.q in
    simp to_z-of_z at c.difference.ensures

pub returns-then-difference-lt1 : goal.returns-then-difference-lt1
unfolding span_of
returns-then-difference-lt1 c =
    let p = c.args in
    let fd : SFits w64 c.difference.result = search rules in
    let d = p.raw -ℤ p.q in
    let below = rw (difference_is (goal.at.returns-then-difference-lt1 c).After-difference) at (simp to_z-of_z at c.if-difference-lt1.true) in
    let never = never_serves p.s p.a c.requires.0 c.requires.1 p.raw p.q p.cylinder c.requires.4 (false_le (pos 1) d (lt_true d (pos 1) below)) in
    rw (never 499999) (sym (least_none (test p.s p.raw p.q p.cylinder p.a) 500000 1500001 (λ j l h. never j)))

-- what the search over 499,999 alone says
lower : (c : After-is_some) → test c.args.s c.args.raw c.args.q c.args.cylinder c.args.a 499999 ≡ c.is_some.result
lower c =
    let fr = c.ranges.raw in
    let fq = c.ranges.q in
    sym (rw (c.is_some.ensures, simp to_z-of_z at c.search.ensures) (least_one (test c.args.s c.args.raw c.args.q c.args.cylinder c.args.a) 499999))

pub returns-then-is_some : goal.returns-then-is_some
unfolding span_of
returns-then-is_some c = rw (lower (goal.at.returns-then-is_some c).After-is_some ∙ c.if-is_some.true)

pub returns : goal.returns
unfolding span_of
returns c =
    let fr = c.ranges.raw in
    let fq = c.ranges.q in
    rw (lower (goal.at.returns c).After-is_some ∙ c.if-is_some.false) (simp to_z-of_z at c.search-2.ensures)
