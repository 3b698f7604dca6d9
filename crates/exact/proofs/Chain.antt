-- The chain of errors: how far each rounded step of the absolute reading is from its exact value, where the signal is at most
-- k / 2 from the exact one. Errors up to f are written over D, with kB for 10,130,000 k: z (D + kB) / 2D, h2 (2 D + kB) / 2D,
-- h1 (41,001 D + 30,001 kB) / 2,000 D, f (711,020 D + 600,020 kB) / 2,000 D; then g (37,628 + 50,652 k) / 100 and
-- c 446 + 600 k. Assumes nothing.
use Prim.Native.Nat.{ℕ, ◌+◌, ◌*◌, ◌≤◌, ◌<◌}
use native.Mathlib.Nat.{le_refl, le_trans, mul-le-mul_left}
use native.Mathlib.Omega.{arith}
use lib.IntN.{ℤ, pos, nat_abs}
use Rattle.rounding.proofs.Integers.{<ℤ-≤ℤ, raised, raised_size, nonnegative_scale, nonpositive_scale}
use Rattle.rounding.proofs.Approximation.{Within, within_weaken, within_same, within_size, within_raised, within_add, within_scale, within_near, within_product}
use Rattle.curve.specs.declared.Sheet.{Sheet}
use Rattle.curve.specs.declared.Air.{Air}
use Rattle.curve.specs.Limits.{SheetOk, AirOk}
use Rattle.curve.specs.Curve.{broadening_of, reduced_of, slope2_of, slope1_of, curve_of, moist_of, warm_of, wet_of}
use Rattle.curve.proofs.Seam.{bent_of, curve_bent}
use Rattle.curve.proofs.Sizes.{slope2_size, slope1_size}
use Rattle.exact.specs.Fraction.{Fraction}
use Rattle.exact.specs.Equation.{exact_reduced, exact_curve, exact_moist, exact_wet}
use Rattle.exact.proofs.Horner.{exact_slope2, exact_slope1, raised_fraction, exact_horner, horner}
use Rattle.exact.proofs.Lower.{horner_lower, reduced_lower}

-- c is at most E / S from x
abbrev pub Approx : ℤ → Fraction → ℕ → ℕ → Type 0
Approx c x E S = Within c x.num x.den E S

-- ---- the numbers
z_bound : (D k : ℕ) → (2 * (k * 10130000) + D * 2) * (2 * D) ≤ (D + k * 10130000) * (2 * D * 2)
z_bound D k = omega arith

h2_bound : (D k : ℕ) → (2 * ((D + k * 10130000) * 10000000) + 10000000 * (2 * D)) * (2 * D) ≤ (2 * D + k * 10130000) * (2 * 10000000 * (2 * D))
h2_bound D k = omega arith

h1_bound : (D k : ℕ) → (2 * (200000000 * (D + k * 10130000) + 100000003 * (2 * D + k * 10130000)) + 10000000 * (2 * D)) * (2000 * D)
    ≤ (41001 * D + 30001 * (k * 10130000)) * (2 * 10000000 * (2 * D))
h1_bound D k = omega arith

up_bound : (D k : ℕ) → (D + k * 10130000) * (2000 * D) ≤ (1000 * D + 1000 * (k * 10130000)) * (2 * D)
up_bound D k = omega arith

f_bound : (D k : ℕ)
    → (2 * (3000000000 * (1000 * D + 1000 * (k * 10130000)) + 100000003 * (41001 * D + 30001 * (k * 10130000))) + 10000000 * (2000 * D)) * (2000 * D)
    ≤ (711020 * D + 600020 * (k * 10130000)) * (2 * 10000000 * (2000 * D))
f_bound D k = omega arith

g_bound : (D k p : ℕ) → 10 * D ≤ 1057 * p → 60000 ≤ p
    → (2 * ((711020 * D + 600020 * (k * 10130000)) * D) + 100 * p * (2000 * D)) * 100 ≤ (37628 + 50652 * k) * (2 * (100 * p) * (2000 * D))
g_bound D k p l h = omega (arith, mul-le-mul_left D l, mul-le-mul_left (k * D) h)

c_bound : (k t0 : ℕ) → 27315 ≤ t0 → (2 * ((37628 + 50652 * k) * 32315) + t0 * 100) * 1 ≤ (446 + 600 * k) * (2 * t0 * 100)
c_bound k t0 h = omega (arith, mul-le-mul_left k h)

-- ---- z
module _ (a : Air) (ok : AirOk a) (k : ℕ) {v : ℤ} {x : Fraction} (w : Approx v x k 2) where
  pub z_within : Approx (reduced_of v a) (exact_reduced x a) (broadening_of a + k * 10130000) (2 * broadening_of a)
  unfolding reduced_of exact_reduced
  z_within =
      within_near (within_scale w 10130000 (le_refl 10130000)) (omega (arith, ok.p_low)) (omega arith) (z_bound (broadening_of a) k)

  -- the exact z is at most 3 above 10^8
  pub exact_z_size : k ≤ 2 → nat_abs (reduced_of v a) ≤ 100000000 → nat_abs (exact_reduced x a).num ≤ 100000003 * (exact_reduced x a).den
  exact_z_size few h = within_size z_within 100000000 100000003 (omega (arith, ok.p_low)) h (omega (arith, ok.p_low))

-- ---- the slopes h2 and h1, at an exact z
module _ (s : Sheet) (ok : SheetOk s) (D k : ℕ) (d : 0 < D) {z : ℤ} {y : Fraction} (w : Approx z y (D + k * 10130000) (2 * D))
    (size : nat_abs z ≤ 100000000) (exact_size : nat_abs y.num ≤ 100000003 * y.den) where
  h2_within : Approx (slope2_of s z) (exact_slope2 s y) (2 * D + k * 10130000) (2 * D)
  unfolding slope2_of exact_slope2
  h2_within = within_add (within_near (within_scale w 10000000 ok.a3_high) (omega arith) (omega arith) (h2_bound D k)) (pos s.a2)

  h1_within : Approx (slope1_of s z) (exact_slope1 s y) (41001 * D + 30001 * (k * 10130000)) (2000 * D)
  unfolding slope1_of exact_slope1
  h1_within =
      let p = within_product w h2_within 100000003 200000000 exact_size (slope2_size s ok z size) in
      within_add (within_near p (omega arith) (omega arith) (h1_bound D k)) (pos s.a1)

-- ---- f: the slope is taken at z and y, or at 0 where they are below it, which brings them no further apart
module _ (s : Sheet) (ok : SheetOk s) (D k : ℕ) (d : 0 < D) {z : ℤ} {y : Fraction} (w : Approx z y (D + k * 10130000) (2 * D))
    (size : nat_abs z ≤ 100000000) (exact_size : nat_abs y.num ≤ 100000003 * y.den) where
  f_within : Approx (bent_of s z) (exact_horner s y) (711020 * D + 600020 * (k * 10130000)) (2000 * D)
  unfolding bent_of exact_horner
  f_within =
      let low = le_trans (raised_size z) size in
      let h1 = h1_within s ok D k d {y = raised_fraction y} (within_raised w) low (le_trans (raised_size y.num) exact_size) in
      let u = within_weaken w (1000 * D + 1000 * (k * 10130000)) (2000 * D) (omega arith) (up_bound D k) in
      let p = within_product u h1 100000003 3000000000 exact_size (slope1_size s ok (raised z) low) in
      within_near p (omega arith) (omega arith) (f_bound D k)

-- ---- the whole chain
module _ (s : Sheet) (okS : SheetOk s) (a : Air) (okA : AirOk a) (k : ℕ) {v : ℤ} {x : Fraction} (w : Approx v x k 2) (lower : 0 < x.den)
    (size : nat_abs (reduced_of v a) ≤ 100000000) (exact_size : nat_abs (exact_reduced x a).num ≤ 100000003 * (exact_reduced x a).den) where
  -- line and cubic on both sides, by the sign of v and by that of x
  curve_within : Approx (curve_of s v (reduced_of v a)) (exact_curve s x (exact_reduced x a)) (711020 * broadening_of a + 600020 * (k * 10130000)) (2000 * broadening_of a)
  unfolding exact_reduced
  curve_within =
      let y = exact_reduced x a in
      rw (curve_bent s a okA v)
      (within_same (f_within s okS (broadening_of a) k (omega (arith, okA.p_low)) (z_within a okA k w) size exact_size) (exact_curve s x y).num (exact_curve s x y).den
      (horner_lower s y (reduced_lower a okA x lower)) (horner s x y (λ h. nonpositive_scale 10130000 (<ℤ-≤ℤ h)) (λ h. nonnegative_scale 10130000 h)))

  g_within : Approx (moist_of (curve_of s v (reduced_of v a)) a) (exact_moist (exact_curve s x (exact_reduced x a)) a) (37628 + 50652 * k) 100
  unfolding moist_of
  g_within =
      let D = broadening_of a in
      within_near (within_scale curve_within D (le_refl D)) (omega (arith, okA.p_low)) (omega arith) (g_bound D k a.p (omega (arith, okA.e_high)) okA.p_low)

  pub wet_within : Approx (wet_of s v (reduced_of v a) a) (exact_wet s x a) (446 + 600 * k) 1
  unfolding wet_of warm_of exact_wet
  wet_within =
      within_near (within_scale g_within 32315 okA.t_high) (omega (arith, okS.t0_low)) (omega arith) (c_bound k s.t0 okS.t0_low)
