-- What accepted samples make of an integration that a start began: it counts their wet values, and closes at its limit (`ShortCharts`). Assumes nothing.
use Rattle.std.specs.Prelude.{Ok, Err}
use Prim.Native.Nat.{ℕ}
use native.Mathlib.Omega.{arith}
use mathlib.Core.Bool.{Bool, true, false, cond}
use mathlib.Core.List.{List, [], ◌∷◌, map, append-nil}
use mathlib.Core.Path.{◌≡◌, refl, sym, ap, subst, ◌∙◌}
use lib.Dec.{T}
use lib.IntN.{ℤ}
use lib.ListN.{length, length-map}
use Rattle.counting.specs.declared.Chart.{Chart}
use Rattle.counting.specs.declared.Tally.{Tally}
use Rattle.counting.specs.declared.Integration.{Integration}
use Rattle.counting.specs.Integration.{integration_limit, started, counted_of}
use Rattle.counting.specs.Charts.{counted_all}
use Rattle.counting.proofs.Charts.{closes_at}
use Rattle.sampling.specs.declared.Measurement.{Measurement}
use Rattle.sampling.specs.Sample.{Sampled}
use Rattle.store.specs.Store.{finding_in}
use Rattle.rules.specs.declared.State.{State}
use Rattle.rules.specs.declared.Event.{Event}
use Rattle.rules.specs.declared.Entry.{Entry}
use Rattle.rules.specs.declared.Stepped.{Stepped}
use Rattle.rules.specs.Answer.{x_of, accepted}
use Rattle.rules.specs.Rules.{refused}
use Rattle.rules.specs.Limits.{workable}
use Rattle.events.specs.Sample.{storing, sampled_of}
use Rattle.events.specs.Events.{sample_answer, sample_after, sample_rule}
use Rattle.refusals.proofs.Listed.{not_0}
use Rattle.engine.specs.Step.{step_of}
use Rattle.engine.specs.Transcript.{Line, transcript, leaves}
use Rattle.engine.specs.Laws.{Begins}
use Rattle.engine.specs.Charts.{samples_of, start_then, AllAccepted, wets_after, ChartCloses, ShortCharts}
use Rattle.engine.proofs.Transcript.{leaves_append, transcript_length}
use Rattle.engine.proofs.Laws.{by_rules, worked, starts_alike}

-- what a sample makes of an integration
counts : (i : Integration) (x : Sampled) → accepted (sample_answer x) ≡ true → sample_after i x ≡ counted_of i (x_of (sample_answer x))
counts i (Ok v) h = refl
counts i (Err why) h = absurd (subst T (sym h ∙ not_0 why) tt)

stays : (t : Tally) (x : Sampled) → sample_after (Integration.Closed t) x ≡ Integration.Closed t
stays t (Ok v) = refl
stays t (Err why) = refl

module _ (sheets : List ℕ) where
  abbrev stepped : State → Measurement → Stepped
  stepped st at = step_of sheets st (Entry.Known (Event.Sample at))

  -- one sample
  counted : (st : State) (at : Measurement) → accepted (stepped st at).answer ≡ true
      → (stepped st at).state.integration ≡ counted_of st.integration (x_of (stepped st at).answer)
  counted st at k =
      let e = by_rules sheets st (Entry.Known (Event.Sample at)) (worked sheets st (Entry.Known (Event.Sample at)) k) in
      rw e (counts st.integration (sampled_of (storing st at) at (finding_in (storing st at).stored)) (rw e at k))

  closed : (st : State) (at : Measurement) {t : Tally} → st.integration ≡ Integration.Closed t → (stepped st at).state.integration ≡ Integration.Closed t
  unfolding step_of
  closed st at {t} e = go (workable st)
    where
      go : (w : Bool) → (cond w (sample_rule st at) (refused st 1)).state.integration ≡ Integration.Closed t
      go true =
          let x = sampled_of (storing st at) at (finding_in (storing st at).stored) in
          ap (λ (i : Integration). sample_after i x) e ∙ stays t x
      go false = e

  -- some samples, one after the other
  abbrev wets : State → List Measurement → List ℤ
  wets st ats = map (λ (l : Line). x_of l.answer) (transcript sheets st (samples_of ats))

  all_counted : (st : State) (ats : List Measurement) → AllAccepted (transcript sheets st (samples_of ats))
      → (leaves sheets st (samples_of ats)).integration ≡ counted_all st.integration (wets st ats)
  all_counted st [] h = refl
  all_counted st (at ∷ ats) h =
      all_counted (stepped st at).state ats h.1 ∙ ap (λ (i : Integration). counted_all i (wets (stepped st at).state ats)) (counted st at h.0)

  still_closed : (st : State) (ats : List Measurement) {t : Tally} → st.integration ≡ Integration.Closed t → (leaves sheets st (samples_of ats)).integration ≡ Integration.Closed t
  still_closed st [] e = e
  still_closed st (at ∷ ats) e = still_closed (stepped st at).state ats (closed st at e)

  wets_length : (st : State) (ats : List Measurement) → length (wets st ats) ≡ length ats
  wets_length st ats = length-map (transcript sheets st (samples_of ats)) _ ∙ transcript_length sheets st (samples_of ats) ∙ length-map ats _

  -- after a start
  module _ (st : State) (event : Event) (chart : Chart) (b : Begins sheets st event chart) where
    charted : (ats : List Measurement) → AllAccepted (transcript sheets st (start_then event ats))
        → (leaves sheets st (start_then event ats)).integration ≡ counted_all (started chart) (wets_after sheets st event ats)
    charted ats h =
        all_counted (step_of sheets st (Entry.Known event)).state ats h.1
        ∙ ap (λ (s : State). counted_all s.integration (wets_after sheets st event ats)) (b.begun h.0)

    chart_closes : ChartCloses sheets st event chart (integration_limit chart)
    chart_closes =
        let next = (step_of sheets st (Entry.Known event)).state in
        record {
          runs = λ ats h l. charted ats h ∙ (closes_at chart).runs (wets_after sheets st event ats) (omega (arith, wets_length next ats));
          closes = λ ats more h l.
              rw (leaves_append sheets st (start_then event ats) (samples_of more))
              (still_closed (leaves sheets st (start_then event ats)) more
              (charted ats h ∙ rw (append-nil (wets_after sheets st event ats)) at ((closes_at chart).closes (wets_after sheets st event ats) [] (wets_length next ats ∙ l))));
        }

pub short_charts : (sheets : List ℕ) (st : State) → ShortCharts sheets st
short_charts sheets st =
    let s = starts_alike sheets st in
    record { long = chart_closes sheets st Event.Start Chart.Long s.long; short = chart_closes sheets st Event.StartShort Chart.Short s.short }
