-- `unpack_for` meets its contract: what is done for the kind that a byte names. Assumes nothing.
use Rattle.std.proofs.Common.{◌≡◌, ◌∙◌, None, Some, arith}
use Rattle.std.proofs.lemmas.Grind.{common_steps}
use Rattle.std.specs.Option.{option_map_or}
use Rattle.recorder.specs.Recorder.{unpack_of}
use Rattle.pens.specs.Pens.{unpack_for}
use Rattle.pens.proofs.ByKind.{by_kind}
use Rattle.pens.proofs.unpack_for.Goals as goal

pub returns : goal.returns
unfolding unpack_for
returns c =
    let mapped : c.map.result ≡ option_map_or (λ k. Some (unpack_of k c.args.word)) c.ok.result None = grind (arith, common_steps) in
    mapped ∙ by_kind c.args.kind c.ok.result (λ k. Some (unpack_of k c.args.word)) None (c.ok.ensures.value ∙ c.try_from.ensures)
