-- `figures::sign_of` meets its contract, by the sign. Assumes nothing.
use mathlib.Core.Path.{sym}
use mir.Facts.{to_z-of_z}
use Rattle.figures.proofs.Columns.{minus_byte, space_byte}
use Rattle.figures.proofs.sign_of.Goals as goal

pub returns-then-x-lt0 : goal.returns-then-x-lt0
returns-then-x-lt0 c =
    let f = c.ranges.x in
    sym (minus_byte _ (simp to_z-of_z at c.if-x-lt0.true))

pub returns-else-x-lt0 : goal.returns-else-x-lt0
returns-else-x-lt0 c =
    let f = c.ranges.x in
    sym (space_byte _ (simp to_z-of_z at c.if-x-lt0.false))
