-- `dry` meets its contract: the product fits, and e is below P. Assumes nothing.
use mathlib.Core.Path.{◌∙◌}
use borrow.Author.Rules.{rules}
use mir.Facts.{to_z-of_z}
use mir.Syntax.{w64}
use mir.Val.{SFits}
use Rattle.curve.specs.Curve.{dry_of}
use Rattle.curve.proofs.steps.dry.Goals as goal

pub returns : goal.returns
unfolding dry_of
returns c =
    let fc = c.ranges.c in
    let r : SFits w64 c.near_scaled.result = search rules in
    to_z-of_z r ∙ (simp to_z-of_z at c.near_scaled.ensures)
