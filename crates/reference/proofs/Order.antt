-- A higher raw signal never reads lower: each step from raw to the reading keeps the order. Assumes nothing.
use Prim.Native.Nat.{ℕ}
use native.Mathlib.Omega.{arith}
use lib.IntN.{ℤ, neg_ℤ}
use lib.Signed.{◌≤ℤ◌, ≤ℤ_refl}
use Rattle.rounding.proofs.Integers.{+ℤ-mono, scale_mono}
use Rattle.rounding.proofs.Nearest.{near_mono}
use Rattle.curve.proofs.Order.{absolute_mono}
use Rattle.reference.specs.Signal.{signal_of}
use Rattle.reference.specs.Order.{RawRises}
use Rattle.reference.proofs.Against.{against_mono}

signal_mono : (q : ℤ) (span : ℕ) {raw other : ℤ} → raw ≤ℤ other → signal_of raw q span ≤ℤ signal_of other q span
unfolding signal_of
signal_mono q span h = near_mono 1000000 (omega arith) (scale_mono span (+ℤ-mono h (≤ℤ_refl (neg_ℤ q))))

pub raw_rises : RawRises
raw_rises s a okS okA q span =
    record {
      signal = signal_mono q span;
      against = λ r l h. against_mono r s.k l h;
      reading = λ h. absolute_mono s a okS okA _ _ (signal_mono q span h);
      reading_against = λ r l h. absolute_mono s a okS okA _ _ (against_mono r s.k l (signal_mono q span h));
    }
