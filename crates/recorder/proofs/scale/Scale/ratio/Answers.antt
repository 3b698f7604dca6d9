-- `ratio` meets its contract: the differences are small, and the second is not 0. Assumes nothing.
use Rattle.std.proofs.Common.{◌∙◌, arith, rules}
use Rattle.std.proofs.lemmas.Int.{ints}
use mir.Facts.{to_z-of_z}
use lib.IntN.{◌-ℤ◌}
use mir.Syntax.{w64}
use mir.Val.{SFits}
use Rattle.recorder.specs.Recorder.{ratio_of}
use Rattle.recorder.proofs.scale.Scale.ratio.Goals as goal

pub returns : goal.returns
unfolding ratio_of
returns c =
    let x = c.ranges.x in
    let x0 : SFits w64 c.args.self.x0 = search rules in
    let xf : SFits w64 c.args.self.xf = search rules in
    let difference : SFits w64 (c.args.x -ℤ c.args.self.x0) = grind (arith, ints) in
    let r : SFits w64 c.near_scaled.result = search rules in
    let d = simp to_z-of_z at c.abs_diff.ensures in
    to_z-of_z r ∙ rw d at (simp to_z-of_z at c.near_scaled.ensures)
