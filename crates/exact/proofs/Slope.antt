-- Two raw signals d units apart, in the same air under the same zero and span: V differs by at most 2 d + 1 and z by 4 d + 3; where
-- both readings are accepted, their wet values differ by at most 2,400 d + 2,092, against the same reference by at most
-- 2,400 d + 3,292. Both readings are held against one exact value: the signal of the one is at most 2 d further from the exact
-- signal of the other. Assumes nothing.
use Rattle.std.specs.Prelude.{Ok}
use mathlib.Core.Path.{◌≡◌, ap}
use Prim.Native.Nat.{ℕ, ◌+◌, ◌*◌, ◌≤◌, ◌<◌}
use native.Mathlib.Nat.{le_of_mul-le-mul_left, mul-le-mul, mul-le-mul_left}
use native.Mathlib.Omega.{arith}
use lib.IntN.{ℤ, pos, nat_abs, ◌-ℤ◌, ◌*ℤ◌}
use Rattle.rounding.proofs.Difference.{is_eq, is_minus, is_scale, is_parts}
use Rattle.rounding.proofs.Integers.{abs_sub, abs_mul}
use Rattle.rounding.proofs.Nearest.{near_slope}
use Rattle.curve.specs.declared.Sheet.{Sheet}
use Rattle.curve.specs.declared.Air.{Air}
use Rattle.curve.specs.Limits.{SheetOk, AirOk}
use Rattle.curve.specs.Curve.{broadening_of, reduced_of}
use Rattle.curve.specs.Absolute.{absolute_of}
use Rattle.reference.specs.Signal.{signal_of, against_of}
use Rattle.exact.specs.Fraction.{Fraction, LiesWithin}
use Rattle.exact.specs.Signal.{exact_signal}
use Rattle.exact.proofs.Lower.{signal_lower, against_lower}
use Rattle.exact.proofs.Chain.{Approx}
use Rattle.exact.proofs.Signals.{raw_apart, signal_within, moved_within, against_within}
use Rattle.exact.proofs.Distance.{value_distance, exact_size, reading_distance}

-- two whole numbers by their distances from one exact value
between : {b c : ℤ} {m n : ℕ} {x : Fraction} → LiesWithin b m x → LiesWithin c n x → nat_abs (b -ℤ c) ≤ m + n
between {b} {c} {m} {n} {x} g h =
    let d = x.den in let B = is_parts b in let C = is_parts c in let N = is_parts x.num in
    let u = b *ℤ pos d -ℤ x.num in let v = c *ℤ pos d -ℤ x.num in
    let same : (b -ℤ c) *ℤ pos d ≡ u -ℤ v =
    is_eq (is_scale d (is_minus B C)) (is_minus (is_minus (is_scale d B) N) (is_minus (is_scale d C) N)) (omega arith) in
    let t : nat_abs (b -ℤ c) * d ≤ nat_abs u + nat_abs v = omega (arith, abs_mul (b -ℤ c) (pos d), ap nat_abs same, abs_sub u v) in
    le_of_mul-le-mul_left (core (nat_abs (b -ℤ c)) (nat_abs u) (nat_abs v) d t g.distance h.distance) g.lower
  where
    core : (y u v d : ℕ) → y * d ≤ u + v → u ≤ m * d → v ≤ n * d → d * y ≤ d * (m + n)
    core y u v d t p q = omega arith

module _ (s : Sheet) (okS : SheetOk s) (a : Air) (okA : AirOk a) where
  -- of two signals by their distances from one exact signal, the second near to it
  slope : (j k : ℕ) → k ≤ 2 → {u v : ℤ} {x : Fraction} → Approx u x j 2 → Approx v x k 2 → 0 < x.den → (b c : ℤ)
      → absolute_of s u a ≡ Ok b → absolute_of s v a ≡ Ok c → nat_abs (b -ℤ c) ≤ 446 + 600 * j + (446 + 600 * k)
  slope j k few g h l b c p q =
      between (value_distance s okS a okA j g l (exact_size s okS a okA k few h c q) b p) (reading_distance s okS a okA k few h l c q)

  module _ (raw other q : ℤ) (span d : ℕ) (l : span ≤ 2000000) (h : nat_abs (raw -ℤ other) ≤ d) (b c : ℤ) where
    pub absolute_slope : absolute_of s (signal_of raw q span) a ≡ Ok b → absolute_of s (signal_of other q span) a ≡ Ok c → nat_abs (b -ℤ c) ≤ 2400 * d + 2092
    absolute_slope p e =
        omega (arith, slope (1 + 4 * d) 1 (omega arith) (moved_within raw other q span d l h) (signal_within other q span) (signal_lower other q span) b c p e)

    pub against_slope : (r : ℕ) → r < s.k → absolute_of s (against_of (signal_of raw q span) r s.k) a ≡ Ok b
        → absolute_of s (against_of (signal_of other q span) r s.k) a ≡ Ok c → nat_abs (b -ℤ c) ≤ 2400 * d + 3292
    against_slope r m p e =
        let near = against_within (1 + 4 * d) (moved_within raw other q span d l h) r s.k m in
        let own = against_within 1 (signal_within other q span) r s.k m in
        let lower = against_lower (exact_signal other q span) r s.k (signal_lower other q span) (omega arith) in
        omega (arith, slope (1 + 4 * d + 1) 2 (omega arith) near own lower b c p e)

-- ---- what d raw units can change in V and in z, accepted or not
module _ (raw other q : ℤ) (span d : ℕ) (l : span ≤ 2000000) (h : nat_abs (raw -ℤ other) ≤ d) where
  pub signal_slope : nat_abs (signal_of raw q span -ℤ signal_of other q span) ≤ 2 * d + 1
  unfolding signal_of
  signal_slope =
      near_slope ((raw -ℤ q) *ℤ pos span) ((other -ℤ q) *ℤ pos span) 1000000 (2 * d) (omega arith)
      (rw (raw_apart raw other q span, abs_mul (raw -ℤ other) (pos span)) (omega (arith, mul-le-mul h l)))

  pub reduced_slope : (a : Air) → AirOk a → nat_abs (reduced_of (signal_of raw q span) a -ℤ reduced_of (signal_of other q span) a) ≤ 4 * d + 3
  unfolding reduced_of
  reduced_slope a okA =
      let u = signal_of raw q span in let v = signal_of other q span in let U = is_parts u in let W = is_parts v in
      let same : u *ℤ pos 10130000 -ℤ v *ℤ pos 10130000 ≡ (u -ℤ v) *ℤ pos 10130000 =
      is_eq (is_minus (is_scale 10130000 U) (is_scale 10130000 W)) (is_scale 10130000 (is_minus U W)) (omega arith) in
      let z = near_slope (u *ℤ pos 10130000) (v *ℤ pos 10130000) (broadening_of a) (4 * d + 2) (omega (arith, okA.p_low))
      (rw (same, abs_mul (u -ℤ v) (pos 10130000)) (core (nat_abs (u -ℤ v)) (broadening_of a) signal_slope (omega (arith, okA.p_low)))) in
      omega arith
    where
      core : (n D : ℕ) → n ≤ 2 * d + 1 → 6000000 ≤ D → n * 10130000 ≤ (4 * d + 2) * D
      core n D p k = omega (arith, mul-le-mul_left (4 * d + 2) k)
