-- The ground of a sample beside what the engine makes of it: one is named exactly where the sample is refused with 8, and it speaks of the signal
-- that is read. Assumes nothing.
use Rattle.refusals.specs.declared.Refusal.{Refusal}
use Rattle.refusals.specs.Numbers.{refusal_number}
use mathlib.Core.Bool.{Bool, true, false, cond}
use mathlib.Core.List.{List}
use mathlib.Core.Path.{◌≡◌, refl, sym, ap, subst}
use Prim.Native.Nat.{ℕ, ◌≤◌}
use native.Mathlib.Omega.{arith}
use borrow.Author.Tests.{eqb-true}
use lib.Dec.{T, eqb}
use lib.IntN.{ℤ, nat_abs}
use Rattle.std.specs.Prelude.{None, is_some, Err, Ok, Option, Some}
use Rattle.curve.specs.declared.Sheet.{Sheet}
use Rattle.curve.specs.declared.Air.{Air}
use Rattle.curve.specs.Reading.{Reading}
use Rattle.curve.specs.declared.OutOfRange.{OutOfRange}
use Rattle.curve.specs.Absolute.{reading_refusal}
use Rattle.reference.specs.Search.{found_value}
use Rattle.reference.specs.Signal.{signal_of}
use Rattle.sampling.specs.declared.Mode.{Mode}
use Rattle.sampling.specs.declared.Measurement.{Measurement}
use Rattle.sampling.specs.Sample.{Sampled}
use Rattle.sampling.specs.Sample.{air_of, sampled_refusal, checked_on, finding_refusal, answered_signal, reading_on, values_of, read_of, sampled_on}
use Rattle.sampling.proofs.Inversion.{RefusedOn, by_6, by_9, by_7, by_8, Told, told}
use Rattle.store.specs.Store.{finding_in}
use Rattle.store.proofs.Keeping.{stored_size}
use Rattle.rules.specs.declared.State.{State}
use Rattle.rules.specs.declared.Event.{Event}
use Rattle.rules.specs.declared.Entry.{Entry}
use Rattle.rules.specs.Answer.{refusal_of}
use Rattle.rules.specs.Rules.{refused}
use Rattle.rules.specs.Limits.{loaded_within, workable}
use Rattle.rules.proofs.Workable.{work}
use Rattle.events.specs.Sample.{storing, sampled_under, sampled_of}
use Rattle.events.specs.Events.{sample_answer, sample_rule}
use Rattle.events.proofs.Stored.{storing_within}
use Rattle.engine.specs.Step.{step_of}
use Rattle.grounds.specs.Grounds.{first_ground, ground_at, signal_on, ground_on, ground_under, finding_for, ground_of}
use Rattle.grounds.specs.Promises.{Passed, signal_at}
use Rattle.grounds.proofs.Signals.{named_at, passed_at, not_low}

-- ---- under a sheet
values_refusal : (r : ℕ) (a : Air) (x : Reading) → sampled_refusal (values_of r a x) ≡ reading_refusal x
values_refusal r a (Ok c) = refl
values_refusal r a (Err OutOfRange.BelowZero) = refl
values_refusal r a (Err OutOfRange.OverRange) = refl

module _ (s : Sheet) (q : ℤ) (span : ℕ) (at : Measurement) where
  abbrev signal : Mode → Option ℕ → ℤ
  signal mode f = signal_on s q span mode at f

  -- once check 6 is passed and something was found
  reading : (mode : Mode) (f : Option ℕ)
      → is_some (ground_at s (signal mode f) (air_of at)) ≡ eqb (sampled_refusal (values_of (answered_signal mode f) (air_of at) (reading_on s q span mode at f))) 8
  reading mode f = rw (values_refusal (answered_signal mode f) (air_of at) (reading_on s q span mode at f)) (named_at s (signal mode f) (air_of at))

  found : (mode : Mode) (f : Option ℕ)
      → is_some (cond (eqb (finding_refusal mode f) 0) (ground_at s (signal mode f) (air_of at)) None)
      ≡ eqb (sampled_refusal (read_of s mode (signal_of at.raw q span) (air_of at) f)) 8
  found Mode.Absolute f = reading Mode.Absolute f
  found (Mode.Against gas) (Some r) = reading (Mode.Against gas) (Some r)
  found (Mode.Against gas) None = refl

  named_on : (mode : Mode) (f : Option ℕ) → is_some (ground_on s q span mode at f) ≡ eqb (sampled_refusal (sampled_on s q span mode at f)) 8
  unfolding ground_on sampled_on
  named_on mode f = go (checked_on mode at)
    where
      go : (t : Bool)
          → is_some (cond t (cond (eqb (finding_refusal mode f) 0) (ground_at s (signal mode f) (air_of at)) None) None)
          ≡ eqb (sampled_refusal (cond t (read_of s mode (signal_of at.raw q span) (air_of at) f) (Err Refusal.BadInput))) 8
      go true = found mode f
      go false = refl

  passed_on : (mode : Mode) (f : Option ℕ) → Passed s (signal mode f) (air_of at) (ground_on s q span mode at f)
  unfolding ground_on
  passed_on mode f = go (checked_on mode at) (eqb (finding_refusal mode f) 0)
    where
      go : (t u : Bool) → Passed s (signal mode f) (air_of at) (cond t (cond u (ground_at s (signal mode f) (air_of at)) None) None)
      go false u = tt
      go true false = tt
      go true true = passed_at s (signal mode f) (air_of at)

  -- a sample that is refused with 8 has passed all other checks, and its ground is the first that holds of its signal
  pub record OverOn (mode : Mode) (f : Option ℕ) : Type 0 where
    pub checked : checked_on mode at ≡ true
    pub finding : finding_refusal mode f ≡ 0
    pub reading : reading_on s q span mode at f ≡ (Err OutOfRange.OverRange)

  pub over_on : {mode : Mode} {f : Option ℕ} → sampled_on s q span mode at f ≡ Err Refusal.OverRange → OverOn mode f
  over_on {mode} {f} e = go (subst (Told s q span at mode f) e (told s q span at mode f))
    where
      -- another refusal has another number
      other : {why : Refusal} → Refusal.OverRange ≡ why → refusal_number why ≡ 8
      other e = sym (ap refusal_number e)

      go : RefusedOn s q span mode at f Refusal.OverRange → OverOn mode f
      go (by_6 n c) = let k = other n in absurd (omega arith)
      go (by_9 n c x) = let k = other n in absurd (omega arith)
      go (by_7 n c x r) = let k = other n in absurd (omega arith)
      go (by_8 n c x r) = record { checked = c; finding = x; reading = r }

  pub first_on : {mode : Mode} {f : Option ℕ} → OverOn mode f → ground_on s q span mode at f ≡ first_ground s (signal mode f) (air_of at)
  unfolding ground_on
  first_on x = rw (x.checked, x.finding, not_low s _ (air_of at) x.reading)

-- ---- at a state
answer_refusal : (x : Sampled) → refusal_of (sample_answer x) ≡ sampled_refusal x
answer_refusal (Ok v) = refl
answer_refusal (Err why) = refl

abbrev sampled : Measurement → Entry
sampled at = Entry.Known (Event.Sample at)

module _ (st : State) (at : Measurement) where
  -- what the sample gives with the finding that it goes by
  abbrev given : Sampled
  given = sampled_of st at (finding_for st at)

  named_under : is_some (ground_under st.loaded st.q st.s st.mode at (finding_for st at)) ≡ eqb (sampled_refusal given) 8
  unfolding sampled_of
  named_under = go st.loaded
    where
      go : (l : Option Sheet)
          → is_some (ground_under l st.q st.s st.mode at (finding_for st at)) ≡ eqb (sampled_refusal (sampled_under l st.q st.s st.mode at (finding_for st at))) 8
      go None = refl
      go (Some s) = named_on s st.q st.s at st.mode (finding_for st at)

  pub named_sample : (sheets : List ℕ) → is_some (ground_of st at) ≡ eqb (refusal_of (step_of sheets st (sampled at)).answer) 8
  unfolding ground_of step_of sampled_of
  named_sample sheets = go (workable st)
    where
      go : (w : Bool)
          → is_some (cond w (ground_under st.loaded st.q st.s st.mode at (finding_for st at)) None)
          ≡ eqb (refusal_of (cond w (sample_rule st at) (refused st 1)).answer) 8
      go true = rw (answer_refusal given) named_under
      go false = refl

  passed_under : {l : Option Sheet} {s : Sheet} (f : Option ℕ) → l ≡ Some s
      → Passed s (signal_on s st.q st.s st.mode at f) (air_of at) (ground_under l st.q st.s st.mode at f)
  passed_under {s = s} f e = rw e (passed_on s st.q st.s at st.mode f)

  pub passed_sample : (s : Sheet) → st.loaded ≡ Some s → Passed s (signal_at s st at) (air_of at) (ground_of st at)
  unfolding ground_of
  passed_sample s e = go (workable st)
    where
      go : (w : Bool)
          → Passed s (signal_at s st at) (air_of at) (cond w (ground_under st.loaded st.q st.s st.mode at (finding_for st at)) None)
      go true = passed_under (finding_for st at) e
      go false = tt

-- ---- a sample that a step answered with 8
eight : (why : Refusal) → refusal_number why ≡ 8 → why ≡ Refusal.OverRange
eight Refusal.NoSheet e = absurd (omega arith)
eight Refusal.BadSheet e = absurd (omega arith)
eight Refusal.BadZero e = absurd (omega arith)
eight Refusal.BadCylinder e = absurd (omega arith)
eight Refusal.NoSpan e = absurd (omega arith)
eight Refusal.BadInput e = absurd (omega arith)
eight Refusal.BelowZero e = absurd (omega arith)
eight Refusal.OverRange e = refl
eight Refusal.NoReference e = absurd (omega arith)
eight Refusal.NotNow e = absurd (omega arith)
eight Refusal.Malformed e = absurd (omega arith)

refused_8 : (x : Sampled) → eqb (refusal_of (sample_answer x)) 8 ≡ true → x ≡ Err Refusal.OverRange
refused_8 x h = go x (eqb-true _ 8 (rw (answer_refusal x) at h))
  where
    go : (y : Sampled) → sampled_refusal y ≡ 8 → y ≡ Err Refusal.OverRange
    go (Ok v) e = absurd (omega arith)
    go (Err why) e = ap Err (eight why e)

-- what it tells of the state that the step leaves: what is set there is within its limits; with the finding that stands stored there the sample is
-- refused with 8 too, and that finding is within its limits; and its ground there is the one at the state before
pub record Over (st : State) (at : Measurement) (after : State) : Type 0 where
  pub loaded : loaded_within after.loaded ≡ true
  pub q : nat_abs after.q ≤ 20000000
  pub s : after.s ≤ 2000000
  pub refuses : sampled_of after at (finding_in after.stored) ≡ Err Refusal.OverRange
  pub finding : found_value (finding_in after.stored) ≤ 150000000
  pub ground : ground_under after.loaded after.q after.s after.mode at (finding_in after.stored) ≡ ground_of st at

pub over : (sheets : List ℕ) (st : State) (at : Measurement) → eqb (refusal_of (step_of sheets st (sampled at)).answer) 8 ≡ true
    → Over st at (step_of sheets st (sampled at)).state
unfolding ground_of step_of sampled_of
over sheets st at = go (workable st) refl
  where
    go : (w : Bool) → workable st ≡ w → eqb (refusal_of (cond w (sample_rule st at) (refused st 1)).answer) 8 ≡ true
        → Over st at (cond w (sample_rule st at) (refused st 1)).state
    go true e h =
        let o = work st e in
        record {
          loaded = o.loaded;
          q = o.q;
          s = o.s;
          refuses = refused_8 (given st at) h;
          finding = stored_size (storing st at).stored (storing_within st at o.stored);
          ground = rw e;
        }
    go false e h = absurd (subst T (sym h) tt)

-- under the sheet of a state
pub over_under : (st : State) {s : Sheet} (at : Measurement) (f : Option ℕ) → st.loaded ≡ Some s → sampled_of st at f ≡ Err Refusal.OverRange
    → OverOn s st.q st.s at st.mode f
unfolding sampled_of
over_under st {s} at f e x = over_on s st.q st.s at (rw e at x)
