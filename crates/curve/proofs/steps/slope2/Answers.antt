-- `slope2` meets its contract: product and sum fit. Assumes nothing.
use mathlib.Core.Path.{◌≡◌, ◌∙◌}
use native.Mathlib.Omega.{arith}
use borrow.Author.Rules.{rules}
use mir.Facts.{to_z-of_z}
use mir.Syntax.{w64}
use mir.Val.{SFits}
use lib.IntN.{pos, ◌*ℤ◌}
use Rattle.rounding.specs.Near.{nearest}
use Rattle.curve.specs.Curve.{slope2_of}
use Rattle.curve.proofs.Sizes.{share2_size}
use Rattle.curve.proofs.steps.slope2.Goals as goal
use Rattle.curve.proofs.steps.slope2.Goals.{After-near_scaled}

share_is : (c : After-near_scaled) → c.near_scaled.result ≡ nearest (c.args.z *ℤ pos c.args.s.a3) 10000000
share_is c = let fz = c.ranges.z in simp to_z-of_z at c.near_scaled.ensures

pub sum-requires : goal.sum-requires
sum-requires c =
    let fp : SFits w64 c.positive.result = search rules in
    let fn : SFits w64 c.near_scaled.result = search rules in
    let size = share2_size c.args.s c.requires.0 c.args.z c.requires.1 in
    simp to_z-of_z (rw (c.positive.ensures, share_is (goal.at.sum-requires c).After-near_scaled) (omega (arith, c.requires.0.a2_high)))

pub returns : goal.returns
unfolding slope2_of
returns c =
    let fp : SFits w64 c.positive.result = search rules in
    let fn : SFits w64 c.near_scaled.result = search rules in
    let r : SFits w64 c.sum.result = search rules in
    to_z-of_z r ∙ rw (c.positive.ensures, share_is (goal.at.returns c).After-near_scaled) at (simp to_z-of_z at c.sum.ensures)
