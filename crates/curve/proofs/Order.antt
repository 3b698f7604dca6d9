-- The reading never falls as the signal rises, refusals with 7 and 8 included: each rounded step keeps the order. Assumes nothing.
use Rattle.std.specs.Prelude.{Ok}
use mathlib.Core.Path.{◌≡◌, refl, sym, subst}
use mathlib.Core.Bool.{Bool, true, false, cond}
use Prim.Native.Nat.{ℕ, ◌*◌}
use native.Mathlib.Omega.{arith}
use lib.Dec.{T}
use lib.IntN.{ℤ, pos, zero-*ℤ}
use lib.Signed.{lt_z, le_z, ◌≤ℤ◌, ≤ℤ_refl, <ℤ-≤ℤ_trans, clash_ℤ}
use Rattle.rounding.proofs.Integers.{≤ℤ-trans, <ℤ-≤ℤ, +ℤ-mono, *ℤ-mono, scale_mono, nonnegative_add, nonnegative_mul, nonnegative_scale, nonpositive_scale}
use borrow.Author.Tests.{lt-leb}
use Rattle.rounding.proofs.Nearest.{near_mono, near_nonnegative, near_nonpositive, near_zero}
use Rattle.rounding.proofs.Tests.{lt_true, lt_false, le_true, true_lt, true_le, false_lt}
use Rattle.curve.specs.declared.Sheet.{Sheet}
use Rattle.curve.specs.declared.Air.{Air}
use Rattle.curve.specs.Reading.{Reading}
use Rattle.curve.specs.Limits.{SheetOk, AirOk}
use Rattle.curve.specs.Curve.{broadening_of, reduced_of, slope2_of, slope1_of, cubic_of, straight_of, signal_negative, curve_of, moist_of, warm_of, wet_of}
use Rattle.curve.specs.Absolute.{lowest_signal, signal_low, unless_over, absolute_of}
use Rattle.curve.specs.Order.{NotAbove, from_below, values, to_over, ReadingRises}
use Rattle.curve.proofs.Seam.{above_0, reduced_nonnegative, reduced_nonpositive}

-- ---- the steps
-- z never falls as V rises
pub reduced_mono : (a : Air) → AirOk a → {v w : ℤ} → v ≤ℤ w → reduced_of v a ≤ℤ reduced_of w a
unfolding reduced_of
reduced_mono a ok h = near_mono (broadening_of a) (above_0 a ok) (scale_mono 10130000 h)

module _ (s : Sheet) {z : ℤ} (low : pos 0 ≤ℤ z) where
  slope2_nonnegative : pos 0 ≤ℤ slope2_of s z
  unfolding slope2_of
  slope2_nonnegative = nonnegative_add s.a2 (near_nonnegative 10000000 (omega arith) (nonnegative_scale s.a3 low))

  slope1_nonnegative : pos 0 ≤ℤ slope1_of s z
  unfolding slope1_of
  slope1_nonnegative = nonnegative_add s.a1 (near_nonnegative 10000000 (omega arith) (nonnegative_mul low slope2_nonnegative))

  module _ {w : ℤ} (h : z ≤ℤ w) where
    slope2_mono : slope2_of s z ≤ℤ slope2_of s w
    unfolding slope2_of
    slope2_mono = +ℤ-mono (≤ℤ_refl (pos s.a2)) (near_mono 10000000 (omega arith) (scale_mono s.a3 h))

    slope1_mono : slope1_of s z ≤ℤ slope1_of s w
    unfolding slope1_of
    slope1_mono = +ℤ-mono (≤ℤ_refl (pos s.a1)) (near_mono 10000000 (omega arith) (*ℤ-mono low slope2_nonnegative h slope2_mono))

    cubic_mono : cubic_of s z ≤ℤ cubic_of s w
    unfolding cubic_of
    cubic_mono = near_mono 10000000 (omega arith) (*ℤ-mono low slope1_nonnegative h slope1_mono)

  cubic_nonnegative : pos 0 ≤ℤ cubic_of s z
  unfolding cubic_of
  cubic_nonnegative = near_nonnegative 10000000 (omega arith) (nonnegative_mul low slope1_nonnegative)

module _ (s : Sheet) {z : ℤ} where
  straight_nonpositive : z ≤ℤ pos 0 → straight_of s z ≤ℤ pos 0
  unfolding straight_of
  straight_nonpositive h = near_nonpositive 10000000 (omega arith) (nonpositive_scale s.a1 h)

  straight_mono : {w : ℤ} → z ≤ℤ w → straight_of s z ≤ℤ straight_of s w
  unfolding straight_of
  straight_mono h = near_mono 10000000 (omega arith) (scale_mono s.a1 h)

-- f never falls as V rises: the line ends at 0, where the cubic begins
curve_mono : (s : Sheet) (a : Air) → AirOk a → {v w : ℤ} → v ≤ℤ w → curve_of s v (reduced_of v a) ≤ℤ curve_of s w (reduced_of w a)
curve_mono s a ok {v} {w} h = by_signs (signal_negative v) (signal_negative w) refl refl
  where
    below : (u : ℤ) → signal_negative u ≡ true → reduced_of u a ≤ℤ pos 0
    below u e = reduced_nonpositive a ok (<ℤ-≤ℤ (lt_true u (pos 0) e))

    from_0 : (u : ℤ) → signal_negative u ≡ false → pos 0 ≤ℤ reduced_of u a
    from_0 u e = reduced_nonnegative a ok (lt_false u (pos 0) e)

    by_signs : (t u : Bool) → signal_negative v ≡ t → signal_negative w ≡ u
        → cond t (straight_of s (reduced_of v a)) (cubic_of s (reduced_of v a)) ≤ℤ cond u (straight_of s (reduced_of w a)) (cubic_of s (reduced_of w a))
    by_signs true true e f = straight_mono s (reduced_mono a ok h)
    by_signs true false e f = ≤ℤ-trans (straight_nonpositive s (below v e)) (cubic_nonnegative s (from_0 w f))
    by_signs false true e f = absurd (clash_ℤ (lt_true w (pos 0) f) (≤ℤ-trans (lt_false v (pos 0) e) h))
    by_signs false false e f = cubic_mono s (from_0 v e) (reduced_mono a ok h)

-- c never falls as V rises
pub wet_mono : (s : Sheet) (a : Air) → SheetOk s → AirOk a → {v w : ℤ} → v ≤ℤ w → wet_of s v (reduced_of v a) a ≤ℤ wet_of s w (reduced_of w a) a
unfolding wet_of warm_of moist_of
wet_mono s a okS okA h =
    near_mono s.t0 (omega (arith, okS.t0_low))
    (scale_mono a.t (near_mono (100 * a.p) (omega (arith, okA.p_low)) (scale_mono (broadening_of a) (curve_mono s a okA h))))

-- ---- the reading at 0
module _ (s : Sheet) (a : Air) (okS : SheetOk s) (okA : AirOk a) where
  reduced_zero : reduced_of (pos 0) a ≡ pos 0
  unfolding reduced_of
  reduced_zero = near_zero (broadening_of a) (above_0 a okA)

  wet_zero : wet_of s (pos 0) (pos 0) a ≡ pos 0
  unfolding wet_of warm_of moist_of cubic_of
  wet_zero =
      rw (zero-*ℤ, near_zero 10000000 (omega arith), zero-*ℤ, near_zero (100 * a.p) (omega (arith, okA.p_low)), zero-*ℤ)
      (near_zero s.t0 (omega (arith, okS.t0_low)))

  pub absolute_zero : absolute_of s (pos 0) a ≡ Ok (pos 0)
  unfolding absolute_of
  absolute_zero = rw (reduced_zero, wet_zero, lt-leb s.k 0 (omega (arith, okS.k_low)))

-- ---- the reading

above_mono : (n : ℕ) {a b : ℤ} → a ≤ℤ b → lt_z (pos n) a ≡ true → lt_z (pos n) b ≡ true
above_mono n {a} {b} h e = true_lt (pos n) b (<ℤ-≤ℤ_trans (lt_true (pos n) a e) h)

at_least_mono : (n : ℕ) {a b : ℤ} → a ≤ℤ b → le_z (pos n) a ≡ true → le_z (pos n) b ≡ true
at_least_mono n {a} {b} h e = true_le (pos n) b (≤ℤ-trans (le_true (pos n) a e) h)

unless_mono : (x y : Bool) {q r : Reading} → (x ≡ true → y ≡ true) → NotAbove q r → NotAbove (unless_over x q) (unless_over y r)
unless_mono x true f h = to_over
unless_mono false false f h = h
unless_mono true false f h = absurd (subst T (sym (f refl)) tt)

pub absolute_mono : ReadingRises
unfolding absolute_of
absolute_mono s a okS okA v w h = by_limit (signal_low v) refl
  where
    by_limit : (t : Bool) → signal_low v ≡ t → NotAbove (absolute_of s v a) (absolute_of s w a)
    by_limit true e = rw e from_below
    by_limit false e =
        let z = reduced_mono a okA h in
        let c = wet_mono s a okS okA h in
        rw (e, false_lt w lowest_signal (≤ℤ-trans (lt_false v lowest_signal e) h))
        (unless_mono _ _ (above_mono 150000000 h)
        (unless_mono _ _ (at_least_mono s.k h)
        (unless_mono _ _ (above_mono 100000000 z)
        (unless_mono _ _ (above_mono 3000000000 c)
        (values c)))))
