-- R-10, short charts, over events: an integration that kind 10 starts closes at its 6,000th counted reading; kind 7 keeps 600,000. Assumes nothing.
use Rattle.std.specs.Prelude.{ℕ, ◌<◌, true, List, [], ◌∷◌, ◌++◌, map, ◌≡◌, ℤ, length}
use Rattle.counting.specs.declared.Chart.{Chart}
use Rattle.counting.specs.declared.Integration.{Integration}
use Rattle.counting.specs.Integration.{empty_tally}
use Rattle.counting.specs.Charts.{tallied_all}
use Rattle.sampling.specs.declared.Measurement.{Measurement}
use Rattle.rules.specs.declared.State.{State}
use Rattle.rules.specs.declared.Event.{Event}
use Rattle.rules.specs.declared.Entry.{Entry}
use Rattle.rules.specs.Answer.{x_of, accepted}
use Rattle.engine.specs.Step.{step_of}
use Rattle.engine.specs.Transcript.{Line, transcript, leaves}

-- samples as entries, and an event with samples after it
abbrev pub samples_of : List Measurement → List Entry
samples_of ats = map (λ (at : Measurement). Entry.Known (Event.Sample at)) ats

abbrev pub start_then : Event → List Measurement → List Entry
start_then event ats = Entry.Known event ∷ samples_of ats

-- every answer of a transcript is an accepted one
abbrev pub AllAccepted : List Line → Type 0
AllAccepted [] = Unit
AllAccepted (l ∷ ls) = (accepted l.answer ≡ true) × AllAccepted ls

-- the wet values, x, that the samples after an event are answered with
abbrev pub wets_after : List ℕ → State → Event → List Measurement → List ℤ
wets_after sheets st event ats =
    map (λ (l : Line). x_of l.answer) (transcript sheets (step_of sheets st (Entry.Known event)).state (samples_of ats))

-- of an event that starts an integration for a chart, at a state; it and the samples after it are all accepted
pub record ChartCloses (sheets : List ℕ) (st : State) (event : Event) (chart : Chart) (limit : ℕ) : Type 0 where
  -- while these are fewer than the limit, the integration runs, and has counted the wet value of each
  pub runs : (ats : List Measurement) → AllAccepted (transcript sheets st (start_then event ats)) → length ats < limit
      → (leaves sheets st (start_then event ats)).integration ≡ Integration.Running chart (tallied_all empty_tally (wets_after sheets st event ats))
  -- as many of them close it, the last one being counted; whatever samples come then, accepted or refused, it stays as it is
  pub closes : (ats more : List Measurement) → AllAccepted (transcript sheets st (start_then event ats)) → length ats ≡ limit
      → (leaves sheets st (start_then event ats ++ samples_of more)).integration ≡ Integration.Closed (tallied_all empty_tally (wets_after sheets st event ats))

-- at every record, under every list of sheets
pub record ShortCharts (sheets : List ℕ) (st : State) : Type 0 where
  pub long : ChartCloses sheets st Event.Start Chart.Long 600000
  pub short : ChartCloses sheets st Event.StartShort Chart.Short 6000
