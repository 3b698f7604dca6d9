-- Readings that never fall, as the signal's do: above one over range none serves, and below one too low none does. Assumes
-- nothing.
use Rattle.std.specs.Prelude.{Err, Ok}
use mathlib.Core.Path.{◌≡◌, refl, sym, subst}
use mathlib.Core.Bool.{false}
use Prim.Native.Nat.{ℕ, ◌≤◌}
use native.Mathlib.Omega.{arith}
use lib.IntN.{ℤ, pos, ◌-ℤ◌}
use lib.Signed.{le_z, ◌≤ℤ◌, ◌<ℤ◌, ≤ℤ_refl}
use borrow.Author.Tests.{lt-leb}
use Rattle.rounding.proofs.Integers.{≤ℤ-trans, ≤ℤ-<ℤ-trans, *ℤ-mono, pos_mono, nonnegative, nonnegative_scale, nonpositive, nonpositive_scale}
use Rattle.rounding.proofs.Nearest.{near_mono, near_nonnegative, near_nonpositive}
use Rattle.rounding.proofs.Tests.{le_false, false_le}
use Rattle.curve.specs.Reading.{Reading}
use Rattle.curve.specs.declared.OutOfRange.TheVariants.{BelowZero, OverRange}
use Rattle.curve.proofs.Accepted.{not_value, value_same, over_range}
use Rattle.curve.specs.declared.Sheet.{Sheet}
use Rattle.curve.specs.declared.Air.{Air}
use Rattle.curve.specs.Limits.{SheetOk, AirOk}
use Rattle.curve.specs.Order.{NotAbove, from_below, values, to_over}
use Rattle.curve.proofs.Order.{absolute_mono, absolute_zero}
use Rattle.reference.specs.declared.Sought.{Sought}
use Rattle.reference.specs.declared.Sought.TheVariants.{Signal, Span}
use Rattle.reference.specs.Signal.{signal_of}
use Rattle.reference.specs.Search.{serves, reading_under}
use Rattle.reference.specs.Sought.{SoughtOk, sought_reading}

-- readings that never fall
abbrev pub Rising : (ℕ → Reading) → Type 0
Rising g = (v w : ℕ) → v ≤ w → NotAbove (g v) (g w)

-- after a reading that is over range comes none that serves
over_below : {q r : Reading} (cylinder : ℕ) → NotAbove q r → q ≡ Err OverRange → serves cylinder r ≡ false
over_below cylinder from_below e = absurd (no e)
  where
    no : ◌≡◌ {A = Reading} (Err BelowZero) (Err OverRange) → ⊥
    no e = let z : ◌≡◌ {A = ℕ} 0 1 = cc in omega arith
over_below cylinder (values {c} l) e = absurd (no c e)
  where
    no : (c : ℤ) → ◌≡◌ {A = Reading} (Ok c) (Err OverRange) → ⊥
    no c e = let z : ◌≡◌ {A = ℕ} 0 1 = cc in omega arith
over_below cylinder to_over e = refl

-- before an accepted reading that is below the cylinder comes none that serves
low_above : {q r : Reading} (cylinder : ℕ) {c : ℤ} → NotAbove q r → r ≡ Ok c → le_z (pos cylinder) c ≡ false → serves cylinder q ≡ false
low_above cylinder from_below e l = refl
low_above cylinder {c} (values {c = b} {d} h) e l =
    false_le (pos cylinder) b (≤ℤ-<ℤ-trans h (subst (λ (x : ℤ). x <ℤ pos cylinder) (sym (value_same e)) (le_false (pos cylinder) c l)))
low_above cylinder {c} to_over e l = absurd (not_value (Err OverRange) c e refl)

module _ (g : ℕ → Reading) (rises : Rising g) (cylinder : ℕ) where
  -- above a signal over range none serves
  pub none_above : (m : ℕ) → g m ≡ Err OverRange → (j : ℕ) → m ≤ j → serves cylinder (g j) ≡ false
  none_above m e j l = over_below cylinder (rises m j l) e

  -- below a signal that reads too low none serves
  pub none_below : (m : ℕ) {c : ℤ} → g m ≡ Ok c → le_z (pos cylinder) c ≡ false → (j : ℕ) → j ≤ m → serves cylinder (g j) ≡ false
  none_below m e low j l = low_above cylinder (rises j m l) e low

-- ---- what a search runs over
pub sought_less : (u : Sought) (n m : ℕ) → SoughtOk u n → m ≤ n → SoughtOk u m
sought_less Signal n m h l = omega arith
sought_less (Span raw q) n m h l = (h.0, h.1, h.2, omega (arith, h.3))

-- a larger span never lowers the signal of raw above the zero
signal_rises : (raw q : ℤ) {v w : ℕ} → pos 1 ≤ℤ (raw -ℤ q) → v ≤ w → signal_of raw q v ≤ℤ signal_of raw q w
unfolding signal_of
signal_rises raw q {v} {w} h l =
    let low = ≤ℤ-trans (nonnegative 1) h in
    near_mono 1000000 (omega arith) (*ℤ-mono low (nonnegative v) (≤ℤ_refl (raw -ℤ q)) (pos_mono l))

signal_from_0 : (raw q : ℤ) (v : ℕ) → pos 1 ≤ℤ (raw -ℤ q) → pos 0 ≤ℤ signal_of raw q v
unfolding signal_of
signal_from_0 raw q v h = near_nonnegative 1000000 (omega arith) (nonnegative_scale v (≤ℤ-trans (nonnegative 1) h))

module _ (s : Sheet) (a : Air) where
  pub sought_rises : SheetOk s → AirOk a → (u : Sought) (n : ℕ) → SoughtOk u n → Rising (sought_reading s a u)
  sought_rises okS okA Signal n h v w l = absolute_mono s a okS okA _ _ (pos_mono l)
  sought_rises okS okA (Span raw q) n h v w l = absolute_mono s a okS okA _ _ (signal_rises raw q h.2 l)

  -- a reading that is no value is over range
  pub sought_over : (u : Sought) (n : ℕ) → SoughtOk u n → (v : ℕ) {r : Reading} → r ≡ sought_reading s a u v → ((c : ℤ) → r ≡ Ok c → ⊥)
      → sought_reading s a u v ≡ Err OverRange
  sought_over Signal n h v e t = over_range s (pos v) a (nonnegative v) e t
  sought_over (Span raw q) n h v e t = over_range s (signal_of raw q v) a (signal_from_0 raw q v h.2) e t

-- ---- raw at or below the zero: no span serves, for a cylinder of 1 or more
pub never_serves : (s : Sheet) (a : Air) → SheetOk s → AirOk a → (raw q : ℤ) (cylinder : ℕ) → 1 ≤ cylinder → le_z (pos 1) (raw -ℤ q) ≡ false
    → (span : ℕ) → serves cylinder (reading_under s raw q a span) ≡ false
unfolding signal_of
never_serves s a okS okA raw q cylinder h e span =
    let d = raw -ℤ q in
    let high = near_nonpositive 1000000 (omega arith) (nonpositive_scale span (nonpositive (le_false (pos 1) d e))) in
    low_above cylinder (absolute_mono s a okS okA _ _ high) (absolute_zero s a okS okA) (lt-leb cylinder 0 h)
