-- What an accepted sample tells, and what a refused one does: the laws by which proofs about samples take the definition apart. Assumes
-- nothing.
use Rattle.std.specs.Prelude.{Err, None, Ok, Option, Some}
use mathlib.Core.Bool.{Bool, true, false, cond}
use mathlib.Core.Path.{◌≡◌, refl}
use Prim.Native.Nat.{ℕ, ◌≤◌}
use native.Mathlib.Omega.{arith}
use lib.IntN.{ℤ}
use Rattle.curve.specs.declared.Sheet.{Sheet}
use Rattle.curve.specs.Reading.{Reading}
use Rattle.curve.specs.declared.OutOfRange.{OutOfRange}
use Rattle.curve.specs.Curve.{dry_of}
use Rattle.curve.proofs.Within.{both}
use Rattle.reference.specs.Signal.{signal_of}
use Rattle.sampling.specs.declared.Mode.{Mode}
use Rattle.sampling.specs.declared.Measurement.{Measurement}
use Rattle.refusals.specs.declared.Refusal.{Refusal}
use Rattle.refusals.specs.Numbers.{refusal_number}
use Rattle.sampling.specs.Sample.{Sampled, air_of, input_within, vapour_within, checked_on, finding_refusal, answered_signal, reading_on, values_of, read_of, sampled_on}

-- an accepted sample: every check is passed, and R, the wet and the dry value are those of the finding and the reading
pub record AcceptedOn (s : Sheet) (q : ℤ) (span : ℕ) (mode : Mode) (at : Measurement) (f : Option ℕ) (r : ℕ) (wet dry : ℤ) : Type 0 where
  pub input : input_within at ≡ true
  pub vapour : vapour_within mode (air_of at) ≡ true
  pub finding : finding_refusal mode f ≡ 0
  pub signal_is : r ≡ answered_signal mode f
  pub wet_is : reading_on s q span mode at f ≡ Ok wet
  pub dry_is : dry ≡ dry_of wet (air_of at)

-- a refused sample: check 6 fails, or nothing was found, or the reading is refused
pub data RefusedOn (s : Sheet) (q : ℤ) (span : ℕ) (mode : Mode) (at : Measurement) (f : Option ℕ) (why : Refusal) : Type 0 where
  by_6 : why ≡ Refusal.BadInput → checked_on mode at ≡ false → RefusedOn s q span mode at f why
  by_9 : why ≡ Refusal.NoReference → checked_on mode at ≡ true → finding_refusal mode f ≡ 9 → RefusedOn s q span mode at f why
  by_7 : why ≡ Refusal.BelowZero → checked_on mode at ≡ true → finding_refusal mode f ≡ 0 → reading_on s q span mode at f ≡ Err OutOfRange.BelowZero
      → RefusedOn s q span mode at f why
  by_8 : why ≡ Refusal.OverRange → checked_on mode at ≡ true → finding_refusal mode f ≡ 0 → reading_on s q span mode at f ≡ Err OutOfRange.OverRange
      → RefusedOn s q span mode at f why

module _ (s : Sheet) (q : ℤ) (span : ℕ) (at : Measurement) where
  abbrev pub Told : Mode → Option ℕ → Sampled → Type 0
  Told mode f (Ok v) = AcceptedOn s q span mode at f v.r v.wet v.dry
  Told mode f (Err why) = RefusedOn s q span mode at f why

  of_reading : (mode : Mode) (f : Option ℕ) → checked_on mode at ≡ true → finding_refusal mode f ≡ 0 → (x : Reading) → reading_on s q span mode at f ≡ x
      → Told mode f (values_of (answered_signal mode f) (air_of at) x)
  of_reading mode f c n (Ok wet) e =
      let w = both (input_within at) (vapour_within mode (air_of at)) c in
      record { input = w.0; vapour = w.1; finding = n; signal_is = refl; wet_is = e; dry_is = refl }
  of_reading mode f c n (Err OutOfRange.BelowZero) e = by_7 refl c n e
  of_reading mode f c n (Err OutOfRange.OverRange) e = by_8 refl c n e

  of_finding : (mode : Mode) (f : Option ℕ) → checked_on mode at ≡ true → Told mode f (read_of s mode (signal_of at.raw q span) (air_of at) f)
  of_finding Mode.Absolute f c = of_reading Mode.Absolute f c refl (reading_on s q span Mode.Absolute at f) refl
  of_finding (Mode.Against gas) (Some r) c =
      of_reading (Mode.Against gas) (Some r) c refl (reading_on s q span (Mode.Against gas) at (Some r)) refl
  of_finding (Mode.Against gas) None c = by_9 refl c refl

  of_check : (mode : Mode) (f : Option ℕ) (t : Bool) → checked_on mode at ≡ t
      → Told mode f (cond t (read_of s mode (signal_of at.raw q span) (air_of at) f) (Err Refusal.BadInput))
  of_check mode f true c = of_finding mode f c
  of_check mode f false c = by_6 refl c

  pub told : (mode : Mode) (f : Option ℕ) → Told mode f (sampled_on s q span mode at f)
  unfolding sampled_on
  told mode f = of_check mode f (checked_on mode at) refl

-- and these are all that an accepted sample asks
pub given : {s : Sheet} {q : ℤ} {span : ℕ} {mode : Mode} {at : Measurement} {f : Option ℕ} {r : ℕ} {wet dry : ℤ}
    → AcceptedOn s q span mode at f r wet dry → sampled_on s q span mode at f ≡ Ok (record { r = r; wet = wet; dry = dry })
unfolding sampled_on
given x = rw (x.input, x.vapour, x.finding, x.wet_is, x.signal_is, x.dry_is)

-- a refusal has a number of the list
pub refused_number : {s : Sheet} {q : ℤ} {span : ℕ} {mode : Mode} {at : Measurement} {f : Option ℕ} {why : Refusal}
    → RefusedOn s q span mode at f why → (6 ≤ refusal_number why) × (refusal_number why ≤ 9)
refused_number (by_6 e c) = rw e (omega arith, omega arith)
refused_number (by_9 e c n) = rw e (omega arith, omega arith)
refused_number (by_7 e c n r) = rw e (omega arith, omega arith)
refused_number (by_8 e c n r) = rw e (omega arith, omega arith)
