-- The two facts that others need of a reference signal R: at R the reading is accepted and at least the cylinder, and at
-- R − 1, if R is above 0, it is accepted and below the cylinder. Assumes nothing.
use Rattle.std.specs.Prelude.{Err, None, Ok, Some}
use mathlib.Core.Path.{◌≡◌, refl, sym, subst}
use mathlib.Core.Bool.{Bool, true, false, cond}
use Prim.Native.Nat.{ℕ, suc, ◌≤◌, ◌<◌}
use native.Mathlib.Omega.{arith}
use lib.Dec.{T}
use lib.IntN.{ℤ, pos}
use lib.Signed.{◌≤ℤ◌, ◌<ℤ◌}
use Rattle.rounding.proofs.Integers.{nonnegative}
use Rattle.rounding.proofs.Tests.{le_true, le_false}
use Rattle.curve.specs.declared.Sheet.{Sheet}
use Rattle.curve.specs.declared.Air.{Air}
use Rattle.curve.specs.Reading.{Reading}
use Rattle.curve.specs.declared.OutOfRange.TheVariants.{BelowZero, OverRange}
use Rattle.curve.specs.Limits.{SheetOk, AirOk}
use Rattle.curve.specs.Absolute.{absolute_of}
use Rattle.curve.proofs.Accepted.{not_value, not_below_zero}
use Rattle.curve.specs.Order.{NotAbove, from_below, values, to_over}
use Rattle.reference.specs.declared.Sought.TheVariants.{Signal}
use Rattle.reference.specs.Search.{least, serves, reference_of, reading_under, span_of}
use Rattle.reference.proofs.Least.{First, least_first}
use Rattle.reference.proofs.Serving.{sought_rises}

-- an accepted reading r at least the cylinder; and one below it
pub record Reaches (cylinder : ℕ) (r : Reading) : Type 0 where
  pub c : ℤ
  pub value : r ≡ Ok c
  pub high : pos cylinder ≤ℤ c

pub record FallsShort (cylinder : ℕ) (r : Reading) : Type 0 where
  pub c : ℤ
  pub value : r ≡ Ok c
  pub low : c <ℤ pos cylinder

reaches : (cylinder : ℕ) (r : Reading) → serves cylinder r ≡ true → Reaches cylinder r
reaches cylinder (Ok c) e = record { c = c; value = refl; high = le_true (pos cylinder) c e }
reaches cylinder (Err BelowZero) e = absurd (subst T (sym e) tt)
reaches cylinder (Err OverRange) e = absurd (subst T (sym e) tt)

falls_short : (cylinder : ℕ) {q r : Reading} → NotAbove q r → {c : ℤ} → r ≡ Ok c → (q ≡ Err BelowZero → ⊥) → serves cylinder q ≡ false → FallsShort cylinder q
falls_short cylinder from_below e below off = absurd (below refl)
falls_short cylinder (values {c} h) e below off = record { c = c; value = refl; low = le_false (pos cylinder) c off }
falls_short cylinder to_over {c} e below off = absurd (not_value (Err OverRange) c e refl)

module _ (s : Sheet) (a : Air) (cylinder : ℕ) where
  first : (r : ℕ) → reference_of s cylinder a ≡ Some r → First (λ (v : ℕ). serves cylinder (absolute_of s (pos v) a)) 0 r × (r < 150000001)
  unfolding reference_of
  first r e = least_first (λ (v : ℕ). serves cylinder (absolute_of s (pos v) a)) 0 150000001 r e

  pub reference_range : (r : ℕ) → reference_of s cylinder a ≡ Some r → r ≤ 150000000
  reference_range r e = omega (arith, (first r e).1)

  pub at_reference : (r : ℕ) → reference_of s cylinder a ≡ Some r → Reaches cylinder (absolute_of s (pos r) a)
  at_reference r e = reaches cylinder (absolute_of s (pos r) a) (first r e).0.here

  pub below_reference : SheetOk s → AirOk a → (v : ℕ) → reference_of s cylinder a ≡ Some (suc v) → FallsShort cylinder (absolute_of s (pos v) a)
  below_reference okS okA v e =
      falls_short cylinder (sought_rises s a okS okA Signal 0 (omega arith) v (suc v) (omega arith)) (at_reference (suc v) e).value
      (not_below_zero s (pos v) a (nonnegative v)) ((first (suc v) e).0.before v (omega arith) (omega arith))

-- ---- a span setting lies in its range
pub span_range : (s : Sheet) (raw q : ℤ) (cylinder : ℕ) (a : Air) (span : ℕ) → span_of s raw q cylinder a ≡ Some span → (500000 ≤ span) × (span ≤ 2000000)
unfolding span_of
span_range s raw q cylinder a span e = go (serves cylinder (reading_under s raw q a 499999)) e
  where
    none : None ≡ Some span → ⊥
    none p = let z : ◌≡◌ {A = ℕ} 0 1 = cc in omega arith

    go : (t : Bool) → cond t None (least (λ (n : ℕ). serves cylinder (reading_under s raw q a n)) 500000 1500001) ≡ Some span
        → (500000 ≤ span) × (span ≤ 2000000)
    go true p = absurd (none p)
    go false p = let w = least_first (λ (n : ℕ). serves cylinder (reading_under s raw q a n)) 500000 1500001 span p in (w.0.low, omega (arith, w.1))
