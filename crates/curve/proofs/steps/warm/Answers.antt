-- `warm` meets its contract: the product fits, and T0 is above 0. Assumes nothing.
use mathlib.Core.Path.{◌∙◌}
use borrow.Author.Rules.{rules}
use mir.Facts.{to_z-of_z}
use mir.Syntax.{w64}
use mir.Val.{SFits}
use Rattle.curve.specs.Curve.{warm_of}
use Rattle.curve.proofs.steps.warm.Goals as goal

pub returns : goal.returns
unfolding warm_of
returns c =
    let fg = c.ranges.g in
    let r : SFits w64 c.near_scaled.result = search rules in
    to_z-of_z r ∙ (simp to_z-of_z at c.near_scaled.ensures)
