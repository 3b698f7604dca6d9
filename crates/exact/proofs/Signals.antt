-- How far the signals are from the exact ones: from raw at most 1 / 2, against a reference at most 1. Assumes nothing.
use mathlib.Core.Path.{◌≡◌, ap, subst}
use Prim.Native.Nat.{ℕ, ◌+◌, ◌*◌, ◌-◌, ◌≤◌, ◌<◌}
use native.Mathlib.Nat.{mul-le-mul_right}
use native.Mathlib.Omega.{arith}
use lib.IntN.{ℤ, pos, nat_abs, ◌+ℤ◌, ◌-ℤ◌, ◌*ℤ◌}
use Rattle.rounding.specs.Near.{nearest}
use Rattle.rounding.proofs.Difference.{is_eq, is_nat, is_add, is_minus, is_mul, is_scale, is_parts}
use Rattle.rounding.proofs.Integers.{abs_sub, abs_mul, prod}
use Rattle.rounding.proofs.Nearest.{Half, near_half}
use Rattle.rounding.proofs.Approximation.{within_half, within_moved}
use Rattle.reference.specs.Signal.{signal_of, against_of}
use Rattle.exact.specs.Fraction.{Fraction}
use Rattle.exact.specs.Signal.{exact_signal, exact_against}
use Rattle.exact.proofs.Chain.{Approx}

-- ---- from raw
pub signal_within : (raw q : ℤ) (span : ℕ) → Approx (signal_of raw q span) (exact_signal raw q span) 1 2
unfolding signal_of exact_signal
signal_within raw q span = within_half (near_half ((raw -ℤ q) *ℤ pos span) 1000000 (omega arith))

-- two raw signals apart, in units of the span
pub raw_apart : (raw other q : ℤ) (span : ℕ) → (raw -ℤ q) *ℤ pos span -ℤ (other -ℤ q) *ℤ pos span ≡ (raw -ℤ other) *ℤ pos span
raw_apart raw other q span =
    let R = is_parts raw in let O = is_parts other in let Q = is_parts q in
    is_eq (is_minus (is_scale span (is_minus R Q)) (is_scale span (is_minus O Q))) (is_scale span (is_minus R O)) (omega arith)

-- from the exact signal of another raw, d units away
pub moved_within : (raw other q : ℤ) (span d : ℕ) → span ≤ 2000000 → nat_abs (raw -ℤ other) ≤ d
    → Approx (signal_of raw q span) (exact_signal other q span) (1 + 4 * d) 2
unfolding exact_signal
moved_within raw other q span d l h =
    within_moved (signal_within raw q span) ((other -ℤ q) *ℤ pos span) (4 * d)
    (rw (raw_apart raw other q span, abs_mul (raw -ℤ other) (pos span)) (omega (arith, prod d 2000000 h l)))

-- ---- against a reference. The error of V enters twice, in V and in the share V R / K, and the two partly cancel: with K = R + j
-- one identity takes both together, where a sum of distances would count them apart.
identity : (v n q : ℤ) (d r j : ℕ)
    → ((pos r +ℤ v -ℤ q) *ℤ pos (1 * d * (d * (r + j))) -ℤ ((pos r *ℤ pos d +ℤ n *ℤ pos 1) *ℤ pos (d * (r + j)) -ℤ n *ℤ pos r *ℤ pos (1 * d))) *ℤ pos 2
    ≡ (v *ℤ pos d -ℤ n) *ℤ pos (2 * j * d) -ℤ pos 2 *ℤ (q *ℤ pos (r + j) -ℤ v *ℤ pos r) *ℤ pos (d * d)
identity v n q d r j =
    let A = is_parts v in let N = is_parts n in let Q = is_parts q in
    is_eq (is_scale 2 (is_minus (is_scale (1 * d * (d * (r + j))) (is_minus (is_add (is_nat r) A) Q))
    (is_minus (is_scale (d * (r + j)) (is_add (is_mul (is_nat r) (is_nat d)) (is_scale 1 N))) (is_scale (1 * d) (is_scale r N)))))
    (is_minus (is_scale (2 * j * d) (is_minus (is_scale d A) N))
    (is_scale (d * d) (is_mul (is_nat 2) (is_minus (is_scale (r + j) Q) (is_scale r A))))) (omega arith)

module _ {v : ℤ} {x : Fraction} (k : ℕ) (w : Approx v x k 2) where
  share_within : (r j : ℕ) (q : ℤ) → Half q (v *ℤ pos r) (r + j) → Approx (pos r +ℤ v -ℤ q) (exact_against x r (r + j)) (k + 1) 2
  unfolding exact_against
  share_within r j q h =
      let d = x.den in let n = x.num in
      let u = v *ℤ pos d -ℤ n in let o = pos 2 *ℤ (q *ℤ pos (r + j) -ℤ v *ℤ pos r) in
      let y = (pos r +ℤ v -ℤ q) *ℤ pos (1 * d * (d * (r + j))) -ℤ ((pos r *ℤ pos d +ℤ n *ℤ pos 1) *ℤ pos (d * (r + j)) -ℤ n *ℤ pos r *ℤ pos (1 * d)) in
      let e = ap nat_abs (identity v n q d r j) in let f = abs_sub (u *ℤ pos (2 * j * d)) (o *ℤ pos (d * d)) in
      let t : nat_abs y * 2 ≤ nat_abs u * (2 * j * d) + nat_abs o * (d * d) =
      omega (arith, abs_mul y (pos 2), abs_mul u (pos (2 * j * d)), abs_mul o (pos (d * d))) in
      record { within = core (nat_abs y) (nat_abs u) (nat_abs o) d t w.within h.half }
    where
      core : (y u o d : ℕ) → y * 2 ≤ u * (2 * j * d) + o * (d * d) → u * 2 ≤ k * d → o ≤ r + j → y * 2 ≤ (k + 1) * (1 * d * (d * (r + j)))
      core y u o d t a b = omega (arith, mul-le-mul_right (j * d) a, mul-le-mul_right (d * d) b)

  pub against_within : (r K : ℕ) → r < K → Approx (against_of v r K) (exact_against x r K) (k + 1) 2
  unfolding against_of
  against_within r K l =
      subst (λ (m : ℕ). Approx (pos r +ℤ v -ℤ nearest (v *ℤ pos r) m) (exact_against x r m) (k + 1) 2) gap
      (share_within r (K - r) (nearest (v *ℤ pos r) (r + (K - r))) (near_half (v *ℤ pos r) (r + (K - r)) (omega arith)))
    where
      gap : r + (K - r) ≡ K
      gap = omega arith
