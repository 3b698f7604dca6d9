-- `wet` meets its contract: each step is within the limits of the next. Assumes nothing.
use mathlib.Core.Path.{◌≡◌, ◌∙◌}
use borrow.Author.Rules.{rules}
use mir.Facts.{to_z-of_z}
use mir.Syntax.{w64}
use mir.Val.{SFits}
use Rattle.curve.specs.Curve.{curve_of, moist_of, wet_of}
use Rattle.curve.proofs.Sizes.{curve_size, moist_size}
use Rattle.curve.proofs.steps.wet.Goals as goal
use Rattle.curve.proofs.steps.wet.Goals.{After-curve, After-moist}

curve_is : (c : After-curve) → c.curve.result ≡ curve_of c.args.s c.args.v c.args.z
curve_is c = let fv = c.ranges.v in let fz = c.ranges.z in simp to_z-of_z at c.curve.ensures

moist_is : (c : After-moist) → c.moist.result ≡ moist_of (curve_of c.args.s c.args.v c.args.z) c.args.a
moist_is c = let ff : SFits w64 c.curve.result = search rules in rw (curve_is c.before) at (simp to_z-of_z at c.moist.ensures)

pub moist-requires : goal.moist-requires
moist-requires c =
    let ff : SFits w64 c.curve.result = search rules in
    simp to_z-of_z (rw (curve_is (goal.at.moist-requires c).After-curve) (curve_size c.args.s c.requires.0 c.args.z c.requires.1 c.args.v), c.requires.2)

pub warm-requires : goal.warm-requires
warm-requires c =
    let fg : SFits w64 c.moist.result = search rules in
    let f = curve_size c.args.s c.requires.0 c.args.z c.requires.1 c.args.v in
    simp to_z-of_z (c.requires.0, rw (moist_is (goal.at.warm-requires c).After-moist) (moist_size 10000000000 (curve_of c.args.s c.args.v c.args.z) c.args.a c.requires.2 f), c.requires.2)

pub returns : goal.returns
unfolding wet_of
returns c =
    let fg : SFits w64 c.moist.result = search rules in
    let r : SFits w64 c.warm.result = search rules in
    to_z-of_z r ∙ rw (moist_is (goal.at.returns c).After-moist) at (simp to_z-of_z at c.warm.ensures)
