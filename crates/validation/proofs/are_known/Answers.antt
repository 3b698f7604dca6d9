-- `validation::are_known` meets its contract: the records are the chunks of its chain. Assumes nothing.
use Rattle.std.proofs.Common.{rules, tests, ◌∙◌, ◌/◌, length}
use Rattle.std.proofs.lemmas.Iterator.Search.{all_from_yields_List}
use Rattle.layout.specs.Records.{event_of, event_at}
use Rattle.format.proofs.File.{records_map}
use Rattle.entries.specs.Entries.{entry_of}
use Rattle.contents.specs.Contents.{is_known}
use Rattle.validation.proofs.Pieces.{chunks_yield, all_said}
use Rattle.validation.proofs.are_known.Goals as goal

pub returns : goal.returns
returns c =
    let h = all_from_yields_List (λ piece. is_known (entry_of (event_at piece 0))) _ _ c.all.result c.all.ensures.ran (chunks_yield c.chunks_exact.ensures.size) (λ x b q k. search (rules, tests)) in
    rw c.chunks_exact.ensures.rest at h ∙ all_said is_known (λ piece. entry_of (event_of piece)) c.args.events.now ∙ rw (records_map event_of entry_of c.args.events.now 0 (length c.args.events.now / 24))
