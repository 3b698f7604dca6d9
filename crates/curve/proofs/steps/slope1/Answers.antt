-- `slope1` meets its contract: product and sum fit. Assumes nothing.
use mathlib.Core.Path.{◌≡◌, ◌∙◌}
use native.Mathlib.Omega.{arith}
use borrow.Author.Rules.{rules}
use mir.Facts.{to_z-of_z}
use mir.Syntax.{w64}
use mir.Val.{SFits}
use lib.IntN.{◌*ℤ◌}
use Rattle.rounding.specs.Near.{nearest}
use Rattle.rounding.proofs.Integers.{prod}
use Rattle.curve.specs.Curve.{slope2_of, slope1_of}
use Rattle.curve.proofs.Sizes.{slope2_size, share1_size}
use Rattle.curve.proofs.steps.slope1.Goals as goal
use Rattle.curve.proofs.steps.slope1.Goals.{After-near_product, After-slope2}

slope2_is : (c : After-slope2) → c.slope2.result ≡ slope2_of c.args.s c.args.z
slope2_is c = let fz = c.ranges.z in simp to_z-of_z at c.slope2.ensures

share_is : (c : After-near_product) → let p = c.args in
    c.near_product.result ≡ nearest (p.z *ℤ slope2_of p.s p.z) 10000000
share_is c =
    let fz = c.ranges.z in
    let f2 : SFits w64 c.slope2.result = search rules in
    rw (slope2_is c.before) at (simp to_z-of_z at c.near_product.ensures)

pub near_product-requires : goal.near_product-requires
near_product-requires c =
    let fz = c.ranges.z in
    let f2 : SFits w64 c.slope2.result = search rules in
    simp to_z-of_z (rw (slope2_is (goal.at.near_product-requires c).After-slope2) (omega (arith, prod 100000000 200000000 c.requires.1 (slope2_size c.args.s c.requires.0 c.args.z c.requires.1))))

pub sum-requires : goal.sum-requires
sum-requires c =
    let fp : SFits w64 c.positive.result = search rules in
    let fn : SFits w64 c.near_product.result = search rules in
    let size = share1_size c.args.s c.requires.0 c.args.z c.requires.1 in
    simp to_z-of_z (rw (c.positive.ensures, share_is (goal.at.sum-requires c).After-near_product) (omega (arith, c.requires.0.a1_high)))

pub returns : goal.returns
unfolding slope1_of
returns c =
    let fp : SFits w64 c.positive.result = search rules in
    let fn : SFits w64 c.near_product.result = search rules in
    let r : SFits w64 c.sum.result = search rules in
    to_z-of_z r ∙ rw (c.positive.ensures, share_is (goal.at.returns c).After-near_product) at (simp to_z-of_z at c.sum.ensures)
