-- `code` meets its contract: std's clamp is the rule's. Assumes nothing.
use Rattle.std.proofs.Common.{◌≡◌, ap, ◌∙◌, rules}
use mir.Facts.{to_z-of_z}
use Rattle.std.specs.Int.{int_max, int_min}
use mir.Syntax.{w64}
use mir.Val.{SFits}
use Rattle.recorder.specs.declared.ChannelKind.TheVariants.{Voltage, Current}
use Rattle.recorder.specs.Recorder.{lowest_of, highest_of, held_of, ratio_of}
use Rattle.recorder.proofs.Codes.{clamped, ordered}
use Rattle.recorder.proofs.scale.Scale.code.Goals as goal

pub returns-in-Voltage : goal.returns-in-Voltage
returns-in-Voltage c =
    let x = c.ranges.x in
    let r : SFits w64 c.ratio.result = search rules in
    let s : SFits w64 c.clamp.result = search rules in
    let v : c.clamp.result ≡ int_max (lowest_of Voltage) (int_min c.ratio.result (highest_of Voltage)) = simp to_z-of_z at c.clamp.ensures.value in
    let q : c.ratio.result ≡ ratio_of 2048 c.args.x c.args.self.x0 c.args.self.xf = simp to_z-of_z at c.ratio.ensures in
    rw c.in-Voltage.is (to_z-of_z s ∙ v ∙ clamped _ _ _ (ordered Voltage) ∙ ap (held_of (lowest_of Voltage) (highest_of Voltage)) q)

pub returns-in-Current : goal.returns-in-Current
returns-in-Current c =
    let x = c.ranges.x in
    let r : SFits w64 c.ratio-in-Current.result = search rules in
    let s : SFits w64 c.clamp-in-Current.result = search rules in
    let v : c.clamp-in-Current.result ≡ int_max (lowest_of Current) (int_min c.ratio-in-Current.result (highest_of Current)) = simp to_z-of_z at c.clamp-in-Current.ensures.value in
    let q : c.ratio-in-Current.result ≡ ratio_of 4096 c.args.x c.args.self.x0 c.args.self.xf = simp to_z-of_z at c.ratio-in-Current.ensures in
    rw c.in-Current.is (to_z-of_z s ∙ v ∙ clamped _ _ _ (ordered Current) ∙ ap (held_of (lowest_of Current) (highest_of Current)) q)
