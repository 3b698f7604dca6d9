-- The seam of R-1, where the line meets the cubic. The reduced signal has the signal's sign, and f is one expression on both sides:
-- z h1 / 10^7 with h1 taken at z, or at 0 where z is below 0. Assumes nothing.
use mathlib.Core.Path.{◌≡◌, refl, sym, ap, ◌∙◌}
use mathlib.Core.Bool.{Bool, true, false, cond}
use Prim.Native.Nat.{ℕ, ◌+◌, ◌*◌, ◌≤◌, ◌<◌}
use native.Mathlib.Nat.{lt_of_mul-lt-mul_left}
use native.Mathlib.Omega.{arith}
use lib.IntN.{ℤ, pos, ◌+ℤ◌, ◌*ℤ◌, zero-*ℤ}
use lib.Signed.{lt_z, ◌≤ℤ◌, ◌<ℤ◌}
use Rattle.rounding.specs.Near.{nearest}
use Rattle.rounding.proofs.Difference.{is_nat, is_scale, is_parts, is_lt, of_lt, up, down}
use Rattle.rounding.proofs.Integers.{<ℤ-≤ℤ, raised, raised_from_0, raised_to_0, nonnegative_scale, nonpositive_scale}
use Rattle.rounding.proofs.Nearest.{near_half, half_sides, near_nonnegative, near_nonpositive, near_zero}
use Rattle.rounding.proofs.Tests.{lt_true, lt_false, true_lt, false_lt}
use Rattle.curve.specs.declared.Sheet.{Sheet}
use Rattle.curve.specs.declared.Air.{Air}
use Rattle.curve.specs.Limits.{AirOk}
use Rattle.curve.specs.Curve.{broadening_of, reduced_of, slope2_of, slope1_of, cubic_of, straight_of, signal_negative, curve_of}
use Rattle.curve.specs.Order.{SameSign}
use Rattle.curve.proofs.Sizes.{broadening_high}

-- ---- z has the sign of V
module _ (a : Air) (ok : AirOk a) where
  pub above_0 : 0 < broadening_of a
  above_0 = omega (arith, ok.p_low)

  pub reduced_nonnegative : {v : ℤ} → pos 0 ≤ℤ v → pos 0 ≤ℤ reduced_of v a
  unfolding reduced_of
  reduced_nonnegative h = near_nonnegative (broadening_of a) above_0 (nonnegative_scale 10130000 h)

  pub reduced_nonpositive : {v : ℤ} → v ≤ℤ pos 0 → reduced_of v a ≤ℤ pos 0
  unfolding reduced_of
  reduced_nonpositive h = near_nonpositive (broadening_of a) above_0 (nonpositive_scale 10130000 h)

  -- and is never 0 for another V, since D is less than twice 10,130,000
  strictly : (x y p n D : ℕ) → D ≤ 12155500 → p < n → 2 * (x * D) + 2 * (n * 10130000) ≤ 2 * (y * D) + 2 * (p * 10130000) + D → x < y
  strictly x y p n D b l g = lt_of_mul-lt-mul_left D (omega arith)

  module _ (v : ℤ) where
    strict_sign : (v <ℤ pos 0 → reduced_of v a <ℤ pos 0) × (pos 0 <ℤ v → pos 0 <ℤ reduced_of v a)
    unfolding reduced_of
    strict_sign =
        let r = reduced_of v a in let R = is_parts r in let A = is_parts v in let D = broadening_of a in let b = broadening_high a ok in
        let l = half_sides (near_half (v *ℤ pos 10130000) D above_0) R (is_scale 10130000 A) in (
          λ h. is_lt R (is_nat 0) (omega (arith, strictly (up r) (down r) (up v) (down v) D b (omega (arith, of_lt A (is_nat 0) h)) l.0)),
          λ h. is_lt (is_nat 0) R (omega (arith, strictly (down r) (up r) (down v) (up v) D b (omega (arith, of_lt (is_nat 0) A h)) l.1)),
        )

    below : (t : Bool) → lt_z v (pos 0) ≡ t → lt_z (reduced_of v a) (pos 0) ≡ lt_z v (pos 0)
    below true e = true_lt (reduced_of v a) (pos 0) (strict_sign.0 (lt_true v (pos 0) e)) ∙ sym e
    below false e = false_lt (reduced_of v a) (pos 0) (reduced_nonnegative (lt_false v (pos 0) e)) ∙ sym e

    above : (t : Bool) → lt_z (pos 0) v ≡ t → lt_z (pos 0) (reduced_of v a) ≡ lt_z (pos 0) v
    above true e = true_lt (pos 0) (reduced_of v a) (strict_sign.1 (lt_true (pos 0) v e)) ∙ sym e
    above false e = false_lt (pos 0) (reduced_of v a) (reduced_nonpositive (lt_false (pos 0) v e)) ∙ sym e

pub same_sign : SameSign
same_sign a ok v = (below a ok v (lt_z v (pos 0)) refl, above a ok v (lt_z (pos 0) v) refl)

-- ---- line and cubic in one
unfoldable pub bent_of : Sheet → ℤ → ℤ
bent_of s z = nearest (z *ℤ slope1_of s (raised z)) 10000000

module _ (s : Sheet) {z : ℤ} where
  straight_bent : z ≤ℤ pos 0 → straight_of s z ≡ bent_of s z
  unfolding straight_of bent_of slope1_of
  straight_bent h = rw (raised_to_0 h, zero-*ℤ (slope2_of s (pos 0)), near_zero 10000000 (omega arith), plus_0)
    where
      plus_0 : pos s.a1 +ℤ pos 0 ≡ pos s.a1
      plus_0 = ap pos (omega arith)

  cubic_bent : pos 0 ≤ℤ z → cubic_of s z ≡ bent_of s z
  unfolding cubic_of bent_of
  cubic_bent h = rw (raised_from_0 h)

pub curve_bent : (s : Sheet) (a : Air) → AirOk a → (v : ℤ) → curve_of s v (reduced_of v a) ≡ bent_of s (reduced_of v a)
curve_bent s a ok v = by_sign (signal_negative v) refl
  where
    by_sign : (t : Bool) → signal_negative v ≡ t → cond t (straight_of s (reduced_of v a)) (cubic_of s (reduced_of v a)) ≡ bent_of s (reduced_of v a)
    by_sign true e = straight_bent s (reduced_nonpositive a ok (<ℤ-≤ℤ (lt_true v (pos 0) e)))
    by_sign false e = cubic_bent s (reduced_nonnegative a ok (lt_false v (pos 0) e))
