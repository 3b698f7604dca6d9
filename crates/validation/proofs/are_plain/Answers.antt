-- `validation::are_plain` meets its contract: the records are the chunks of its chain. Assumes nothing.
use Rattle.std.proofs.Common.{rules, tests, ◌∙◌}
use Rattle.std.proofs.lemmas.Iterator.Search.{all_from_yields_List}
use Rattle.layout.specs.Records.{sheet_of, sheet_at}
use Rattle.contents.specs.Contents.{is_plain}
use Rattle.validation.proofs.Pieces.{chunks_yield, all_said}
use Rattle.validation.proofs.are_plain.Goals as goal

pub returns : goal.returns
returns c =
    let h = all_from_yields_List (λ piece. is_plain (sheet_at piece 0)) _ _ c.all.result c.all.ensures.ran (chunks_yield c.chunks_exact.ensures.size) (λ x b q k. search (rules, tests)) in
    rw c.chunks_exact.ensures.rest at h ∙ all_said is_plain sheet_of c.args.sheets.now
