-- How large each rounded step can be, so that every product fits a word. Assumes nothing.
use Prim.Native.Nat.{ℕ, ◌+◌, ◌*◌, ◌≤◌, ◌<◌}
use native.Mathlib.Nat.{mul-le-mul_left, mul-le-mul_right}
use native.Mathlib.Omega.{arith}
use mathlib.Core.Bool.{Bool, true, false, cond}
use lib.IntN.{ℤ, pos, nat_abs, ◌*ℤ◌}
use Rattle.rounding.specs.Near.{nearest}
use Rattle.rounding.proofs.Integers.{abs_add, abs_mul, prod}
use Rattle.rounding.proofs.Nearest.{near_size}
use Rattle.curve.specs.declared.Sheet.{Sheet}
use Rattle.curve.specs.declared.Air.{Air}
use Rattle.curve.specs.Limits.{SheetOk, AirOk}
use Rattle.curve.specs.Absolute.{lowest_signal}
use Rattle.curve.specs.Curve.{broadening_of, reduced_of, slope2_of, slope1_of, cubic_of, straight_of, signal_negative, curve_of, moist_of, warm_of, wet_of}

-- a product over d is at most m, from bounds of its factors
ratio_size : (A B m : ℕ) (x y : ℤ) {d : ℕ} → 0 < d → nat_abs x ≤ A → nat_abs y ≤ B → A * B ≤ m * d → nat_abs (nearest (x *ℤ y) d) ≤ m
ratio_size A B m x y h a b l = near_size (x *ℤ y) m h (omega (arith, abs_mul x y, prod A B a b))

module _ (s : Sheet) (ok : SheetOk s) (z : ℤ) (h : nat_abs z ≤ 100000000) where
  pub share2_size : nat_abs (nearest (z *ℤ pos s.a3) 10000000) ≤ 100000000
  share2_size = ratio_size 100000000 10000000 100000000 z (pos s.a3) (omega arith) h ok.a3_high (omega arith)

  pub slope2_size : nat_abs (slope2_of s z) ≤ 200000000
  unfolding slope2_of
  slope2_size = omega (arith, abs_add (pos s.a2) (nearest (z *ℤ pos s.a3) 10000000), share2_size, ok.a2_high)

  pub share1_size : nat_abs (nearest (z *ℤ slope2_of s z) 10000000) ≤ 2000000000
  share1_size = ratio_size 100000000 200000000 2000000000 z (slope2_of s z) (omega arith) h slope2_size (omega arith)

  pub slope1_size : nat_abs (slope1_of s z) ≤ 3000000000
  unfolding slope1_of
  slope1_size = omega (arith, abs_add (pos s.a1) (nearest (z *ℤ slope2_of s z) 10000000), share1_size, ok.a1_high)

  pub cubic_size : nat_abs (cubic_of s z) ≤ 30000000000
  unfolding cubic_of
  cubic_size = ratio_size 100000000 3000000000 30000000000 z (slope1_of s z) (omega arith) h slope1_size (omega arith)

  pub straight_size : nat_abs (straight_of s z) ≤ 30000000000
  unfolding straight_of
  straight_size = ratio_size 100000000 1000000000 30000000000 z (pos s.a1) (omega arith) h ok.a1_high (omega arith)

  pub curve_size : (v : ℤ) → nat_abs (curve_of s v z) ≤ 30000000000
  curve_size v = by_sign (signal_negative v)
    where
      by_sign : (t : Bool) → nat_abs (cond t (straight_of s z) (cubic_of s z)) ≤ 30000000000
      by_sign true = straight_size
      by_sign false = cubic_size

pub broadening_high : (a : Air) → AirOk a → broadening_of a ≤ 12155500
broadening_high a ok = omega (arith, ok.p_high, ok.e_high)

pub moist_size : (m : ℕ) (f : ℤ) (a : Air) → AirOk a → nat_abs f ≤ 3 * m → nat_abs (moist_of f a) ≤ 4 * m
unfolding moist_of
moist_size m f a ok h =
    near_size (f *ℤ pos (broadening_of a)) (4 * m) (omega (arith, ok.p_low))
    (rw (abs_mul f (pos (broadening_of a))) (core (nat_abs f) a.p a.e h ok.e_high))
  where
    core : (n p e : ℕ) → n ≤ 3 * m → 10 * e ≤ p → n * (100 * p + 57 * e) ≤ 4 * m * (100 * p)
    core n p e b k = omega (arith, mul-le-mul_right (100 * p + 57 * e) b, mul-le-mul_left m k)

-- ---- z and the wet value at the lowest signal that is read
pub lowest_z : (a : Air) → AirOk a → nat_abs (reduced_of lowest_signal a) ≤ 4000000
unfolding reduced_of
lowest_z a ok = near_size (lowest_signal *ℤ pos 10130000) 4000000 (omega (arith, ok.p_low)) (omega (arith, ok.p_low))

pub lowest_wet : (s : Sheet) (a : Air) → SheetOk s → AirOk a → nat_abs (wet_of s lowest_signal (reduced_of lowest_signal a) a) ≤ 3000000000
unfolding wet_of warm_of straight_of
lowest_wet s a okS okA =
    let z = reduced_of lowest_signal a in
    let f = ratio_size 4000000 1000000000 600000000 z (pos s.a1) {d = 10000000} (omega arith) (lowest_z a okA) okS.a1_high (omega arith) in
    let g = moist_size 200000000 (straight_of s z) a okA f in
    ratio_size 800000000 32315 3000000000 (moist_of (straight_of s z) a) (pos a.t) (omega (arith, okS.t0_low)) g okA.t_high (omega (arith, okS.t0_low))
