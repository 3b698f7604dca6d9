-- `cubic` meets its contract: the product fits. Assumes nothing.
use mathlib.Core.Path.{◌≡◌, ◌∙◌}
use native.Mathlib.Omega.{arith}
use borrow.Author.Rules.{rules}
use mir.Facts.{to_z-of_z}
use mir.Syntax.{w64}
use mir.Val.{SFits}
use Rattle.rounding.proofs.Integers.{prod}
use Rattle.curve.specs.Curve.{slope1_of, cubic_of}
use Rattle.curve.proofs.Sizes.{slope1_size}
use Rattle.curve.proofs.steps.cubic.Goals as goal
use Rattle.curve.proofs.steps.cubic.Goals.{After-slope1}

slope1_is : (c : After-slope1) → c.slope1.result ≡ slope1_of c.args.s c.args.z
slope1_is c = let fz = c.ranges.z in simp to_z-of_z at c.slope1.ensures

pub near_product-requires : goal.near_product-requires
near_product-requires c =
    let fz = c.ranges.z in
    let f1 : SFits w64 c.slope1.result = search rules in
    simp to_z-of_z (rw (slope1_is (goal.at.near_product-requires c).After-slope1) (omega (arith, prod 100000000 3000000000 c.requires.1 (slope1_size c.args.s c.requires.0 c.args.z c.requires.1))))

pub returns : goal.returns
unfolding cubic_of
returns c =
    let fz = c.ranges.z in
    let f1 : SFits w64 c.slope1.result = search rules in
    let r : SFits w64 c.near_product.result = search rules in
    to_z-of_z r ∙ rw (slope1_is (goal.at.returns c).After-slope1) at (simp to_z-of_z at c.near_product.ensures)
