-- `straight` meets its contract: the product fits. Assumes nothing.
use mathlib.Core.Path.{◌∙◌}
use borrow.Author.Rules.{rules}
use mir.Facts.{to_z-of_z}
use mir.Syntax.{w64}
use mir.Val.{SFits}
use Rattle.curve.specs.Curve.{straight_of}
use Rattle.curve.proofs.steps.straight.Goals as goal

pub returns : goal.returns
unfolding straight_of
returns c =
    let fz = c.ranges.z in
    let r : SFits w64 c.near_scaled.result = search rules in
    to_z-of_z r ∙ (simp to_z-of_z at c.near_scaled.ensures)
