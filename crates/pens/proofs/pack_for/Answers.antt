-- `pack_for` meets its contract, for a byte that names no kind and for one that does. Assumes nothing.
use Rattle.std.proofs.Common.{◌∙◌, None, Some}
use mir.Facts.{to_z-of_z}
use Rattle.recorder.specs.Recorder.{pack_of}
use Rattle.pens.specs.Pens.{pack_for}
use Rattle.pens.proofs.ByKind.{by_kind}
use Rattle.pens.proofs.pack_for.Goals as goal

pub returns-in_err-named : goal.returns-in_err-named
unfolding pack_for
returns-in_err-named c =
    c.from_residual.ensures
    ∙ by_kind c.args.kind None (λ k. pack_of k c.args.x c.args.x0 c.args.xf c.args.channel) None (c.in_err-named.ensures.value ∙ c.try_from.ensures)

pub returns : goal.returns
unfolding pack_for
returns c =
    let f = c.ranges.x in let g = c.ranges.x0 in let h = c.ranges.xf in
    (simp to_z-of_z at c.pack.ensures)
    ∙ by_kind c.args.kind (Some c.in_ok-named.named) (λ k. pack_of k c.args.x c.args.x0 c.args.xf c.args.channel) None (c.in_ok-named.ensures.value ∙ c.try_from.ensures)
