-- The starred cases hold: what the searches find is taken from the crates below, the rest is computed. Assumes nothing.
use Rattle.std.specs.Prelude.{None, Option, Some, ℕ}
use mathlib.Core.List.{[], ◌∷◌}
use mathlib.Core.Path.{◌≡◌, refl, sym, ap, subst, ◌∙◌}
use native.Mathlib.Omega.{arith}
use lib.IntN.{ℤ, pos, ◌+ℤ◌, ◌-ℤ◌, ◌*ℤ◌}
use Rattle.rounding.specs.Near.{nearest}
use Rattle.rounding.proofs.Difference.{is_nat, is_add, is_minus, is_scale, is_parts, is_eq}
use Rattle.curve.specs.Limits.{air_within}
use Rattle.curve.specs.Curve.{reduced_of, slope2_of, slope1_of, cubic_of, straight_of, moist_of, warm_of, wet_of, dry_of}
use Rattle.curve.specs.Absolute.{absolute_of}
use Rattle.curve.specs.Bench.{bench_air}
use Rattle.curve.proofs.Bench.{starred_readings}
use Rattle.reference.specs.Signal.{signal_of, against_of}
use Rattle.reference.specs.Search.{reference_refusal, span_refusal, reference_of}
use Rattle.reference.specs.Bench.{small_sheet}
use Rattle.reference.proofs.Bench.{starred_references}
use Rattle.rules.specs.declared.State.{State}
use Rattle.counting.specs.declared.Chart.{Chart}
use Rattle.counting.specs.declared.Integration.{Integration}
use Rattle.rules.specs.declared.Answer.{Answer}
use Rattle.rules.specs.declared.Stepped.{Stepped}
use Rattle.counting.specs.Integration.{started, counted_of, tally_area}
use Rattle.sampling.specs.Sample.{sampled_on}
use Rattle.store.specs.Store.{Stored}
use Rattle.store.specs.Store.{stored_on}
use Rattle.sampling.specs.Span.{setting_of, spanned_on}
use Rattle.rules.specs.Rules.{answered, span_by}
use Rattle.events.specs.Sample.{sampled_of}
use Rattle.events.specs.Events.{with_integration, sample_read, area_answer, rules}
use Rattle.engine.specs.Bench.{bench_state, reference_state, small_state, found_there, counted_once, measuring, sample, start, area, Answers, after, StarredCases}

-- twice the sum X without the first, X, less nothing, where n − 1 is 0
one : (x : ℤ) → ((pos 0 +ℤ x) -ℤ x) *ℤ pos 2 -ℤ (x +ℤ x) *ℤ pos 0 ≡ pos 0
one x =
    let X = is_parts x in
    is_eq (is_minus (is_scale 2 (is_minus (is_add (is_nat 0) X) X)) (is_scale 0 (is_add X X))) (is_nat 0) (omega arith)

-- against the reference, whatever the integration, with this stored
abbrev counting : Stored → Integration → State
counting x i = with_integration (reference_state x) i

abbrev there : Stored
there = found_there (Some 40000000)

-- a sample stores what the crate below says was found, unless it is stored already; then it is read with it, and counted
module _ (i : Integration) where
  low_first : rules [] (counting None i) (sample (pos 0)) ≡ answered (Answer.Reading 40000000 (pos 1000000000) (pos 1000000000)) (counting there (counted_of i (pos 1000000000)))
  unfolding stored_on sampled_of sampled_on air_within absolute_of signal_of against_of nearest reduced_of slope2_of slope1_of cubic_of moist_of warm_of wet_of dry_of
  low_first = rw starred_references.reference

  high_first : rules [] (counting None i) (sample (pos 10000000)) ≡ answered (Answer.Reading 40000000 (pos 1388160000) (pos 1388160000)) (counting there (counted_of i (pos 1388160000)))
  unfolding stored_on sampled_of sampled_on air_within absolute_of signal_of against_of nearest reduced_of slope2_of slope1_of cubic_of moist_of warm_of wet_of dry_of
  high_first = rw starred_references.reference

  low : rules [] (counting there i) (sample (pos 0)) ≡ answered (Answer.Reading 40000000 (pos 1000000000) (pos 1000000000)) (counting there (counted_of i (pos 1000000000)))
  unfolding stored_on sampled_of sampled_on air_within absolute_of signal_of against_of nearest reduced_of slope2_of slope1_of cubic_of moist_of warm_of wet_of dry_of
  low = refl

  high : rules [] (counting there i) (sample (pos 10000000)) ≡ answered (Answer.Reading 40000000 (pos 1388160000) (pos 1388160000)) (counting there (counted_of i (pos 1388160000)))
  unfolding stored_on sampled_of sampled_on air_within absolute_of signal_of against_of nearest reduced_of slope2_of slope1_of cubic_of moist_of warm_of wet_of dry_of
  high = refl

-- what is counted after a start and the first reading
abbrev counted_1 : Integration
counted_1 = counted_of (started Chart.Long) (pos 1000000000)

-- the state after a start and the three readings; the second sample is any that is read as wet, and counted
three_state : (raw wet : ℤ)
    → rules [] (counting there counted_1) (sample raw) ≡ answered (Answer.Reading 40000000 wet wet) (counting there (counted_of counted_1 wet))
    → after (reference_state None) (start ∷ sample (pos 0) ∷ sample raw ∷ sample (pos 0) ∷ []) ≡ counting there (counted_of (counted_of counted_1 wet) (pos 1000000000))
three_state raw wet e =
    ap (λ (x : Stepped). after x.state (sample raw ∷ sample (pos 0) ∷ [])) (low_first (started Chart.Long))
    ∙ ap (λ (x : Stepped). after x.state (sample (pos 0) ∷ [])) e
    ∙ ap (λ (x : Stepped). x.state) (low (counted_of counted_1 wet))

-- refusal 9 is for nothing found
nothing : (f : Option ℕ) → reference_refusal f ≡ 9 → f ≡ None
nothing (Some r) e = absurd (omega arith)
nothing None e = refl

-- a span setting that is refused with 5 found nothing
unspanned : (f : Option ℕ) → span_refusal f ≡ 5 → f ≡ None
unspanned (Some n) e = absurd (omega arith)
unspanned None e = refl

-- a span on the bench sheet, by what was found
abbrev spanned : Option ℕ → Stepped
spanned f = span_by bench_state (setting_of f)

pub starred_cases : StarredCases
unfolding stored_on sampled_of sampled_on spanned_on area_answer tally_area air_within absolute_of signal_of against_of nearest reduced_of slope2_of slope1_of cubic_of straight_of moist_of warm_of wet_of dry_of
starred_cases =
    record {
      readings = starred_readings;
      references = starred_references;
      v_0 = refl;
      v_1 = refl;
      v_minus_1 = refl;
      v_minus_2000000 = refl;
      v_minus_2000001 = refl;
      v_39999999 = refl;
      v_40000000 = refl;
      p_81040 = refl;
      t_30411 = refl;
      e_2000 = refl;
      e_10001 = refl;
      e_10000 = (refl, refl);
      reference = refl;
      raw_0 = low_first Integration.Idle;
      raw_10000000 = high_first Integration.Idle;
      raw_minus = rw starred_references.reference;
      stored_30000000 = refl;
      k_10000000 = ap (λ (f : Option ℕ). sample_read (small_state (found_there f)) (measuring (pos 0) 101300 29815 0)) (nothing (reference_of small_sheet 1000000000 bench_air) starred_references.k_10000000);
      span_800000 = ap spanned starred_references.span_800000;
      span_2000000 = ap spanned starred_references.span_2000000;
      span_beyond = ap spanned (unspanned _ starred_references.span_beyond);
      span_500000 = ap spanned starred_references.span_500000;
      span_below = ap spanned (unspanned _ starred_references.span_below);
      three_readings = subst (λ (st : State). Answers st area (Answer.Area 3 (pos 776320000))) (sym (three_state (pos 10000000) (pos 1388160000) (high counted_1))) refl;
      flat_line = subst (λ (st : State). Answers st area (Answer.Area 3 (pos 0))) (sym (three_state (pos 0) (pos 1000000000) (low counted_1))) refl;
      one_sample = refl;
      one_reading = λ x. ap (λ (y : ℤ). answered (Answer.Area 1 y) (counted_once x)) (one x);
    }
