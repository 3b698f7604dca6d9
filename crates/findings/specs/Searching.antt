-- The engine without a store, as document 01 has it: each sample against a reference searches, and nothing is stored. Its other rules are
-- those of the engine with one. Assumes nothing.
use Rattle.std.specs.Prelude.{ℕ, List, [], ◌∷◌}
use Rattle.sampling.specs.declared.Measurement.{Measurement}
use Rattle.rules.specs.declared.State.{State}
use Rattle.rules.specs.declared.Entry.{Entry}
use Rattle.rules.specs.declared.Answer.{Answer}
use Rattle.rules.specs.declared.Stepped.{Stepped}
use Rattle.events.specs.Sample.{sampled_of, searched_for}
use Rattle.events.specs.Events.{sample_by, rules_by}

-- a sample with what a search finds for it; what is stored is not looked at, and stays as it is
abbrev pub searching_sample : State → Measurement → Stepped
searching_sample st at = sample_by st (sampled_of st at (searched_for st at))

abbrev pub searching_rules : List ℕ → State → Entry → Stepped
searching_rules sheets st entry = rules_by searching_sample sheets st entry

-- its answers to a list, and the state that the list leaves; each event gets the state that the last one left
abbrev pub searching_answers : List ℕ → State → List Entry → List Answer
searching_answers sheets st [] = []
searching_answers sheets st (entry ∷ entries) =
    (searching_rules sheets st entry).answer ∷ searching_answers sheets (searching_rules sheets st entry).state entries

abbrev pub searching_leaves : List ℕ → State → List Entry → State
searching_leaves sheets st [] = st
searching_leaves sheets st (entry ∷ entries) = searching_leaves sheets (searching_rules sheets st entry).state entries
