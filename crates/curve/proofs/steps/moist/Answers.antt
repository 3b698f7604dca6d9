-- `moist` meets its contract: the product fits, and P is above 0. Assumes nothing.
use mathlib.Core.Path.{◌∙◌}
use borrow.Author.Rules.{rules}
use mir.Facts.{to_z-of_z}
use mir.Syntax.{w64}
use mir.Val.{SFits}
use Rattle.curve.specs.Curve.{moist_of}
use Rattle.curve.proofs.steps.moist.Goals as goal

pub returns : goal.returns
unfolding moist_of
returns c =
    let ff = c.ranges.f in
    let r : SFits w64 c.near_scaled.result = search rules in
    to_z-of_z r ∙ rw c.broadening.ensures at (simp to_z-of_z at c.near_scaled.ensures)
