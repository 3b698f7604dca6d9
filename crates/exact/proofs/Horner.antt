-- Document 01's h2, h1 and f with no near, in exact fractions: together they are the same value as a1 Z + a2 Z² + a3 Z³, and with
-- h1 taken at 0 the same as a1 Z. So f = z h1 / 10^7, h1 taken at z or at 0 where z is below 0, is the exact curve on both sides
-- of zero, as `bent_of` is the rounded one. Assumes nothing.
use mathlib.Core.Path.{◌≡◌, refl}
use mathlib.Core.Bool.{Bool, true, false, cond}
use Prim.Native.Nat.{ℕ, ◌*◌}
use native.Mathlib.Omega.{arith}
use lib.IntN.{ℤ, pos, ◌+ℤ◌, ◌*ℤ◌, +ℤ_assoc, *ℤ_comm}
use lib.Signed.{◌≤ℤ◌, ◌<ℤ◌}
use Rattle.rounding.proofs.Difference.{is_eq, is_nat, is_mul, is_scale, is_parts}
use Rattle.rounding.proofs.Integers.{*ℤ-assoc, *ℤ-add, raised, raised_from_0, raised_to_0}
use Rattle.rounding.proofs.Tests.{lt_true, lt_false}
use Rattle.curve.specs.declared.Sheet.{Sheet}
use Rattle.exact.specs.Fraction.{Fraction, times, scaled, over, below_zero, Across}
use Rattle.exact.specs.Equation.{a1_of, a2_of, a3_of, millivolts, polynomial, straight_line, exact_curve}

-- n + x
abbrev pub more : ℕ → Fraction → Fraction
more n x = record { num = pos n *ℤ pos x.den +ℤ x.num; den = x.den }

-- h2: A2 + A3 z / 10^7
unfoldable pub exact_slope2 : Sheet → Fraction → Fraction
exact_slope2 s z = more s.a2 (over (scaled z s.a3) 10000000)

-- h1: A1 + h2 z / 10^7
unfoldable pub exact_slope1 : Sheet → Fraction → Fraction
exact_slope1 s z = more s.a1 (over (times z (exact_slope2 s z)) 10000000)

-- z, or 0 where z is below 0
abbrev pub raised_fraction : Fraction → Fraction
raised_fraction z = record { num = raised z.num; den = z.den }

-- f: z h1 / 10^7
abbrev at_slope : Sheet → Fraction → Fraction → Fraction
at_slope s z y = over (times z (exact_slope1 s y)) 10000000

unfoldable pub exact_horner : Sheet → Fraction → Fraction
exact_horner s z = at_slope s z (raised_fraction z)

-- ---- the identity
*ℤ-left-comm : (x y z : ℤ) → x *ℤ (y *ℤ z) ≡ y *ℤ (x *ℤ z)
*ℤ-left-comm x y z = rw (← *ℤ-assoc x y z, *ℤ_comm x y, *ℤ-assoc y x z)

add-*ℤ : (x y z : ℤ) → (x +ℤ y) *ℤ z ≡ x *ℤ z +ℤ y *ℤ z
add-*ℤ x y z = rw (*ℤ_comm (x +ℤ y) z, *ℤ-add z x y, *ℤ_comm z x, *ℤ_comm z y)

-- n / d for z, b for 10^7 and c for 10^6: the polynomial's terms stand over c (d b), c (d b)² and c (d b)³
law : (n d b c k l m : ℤ)
    → ((k *ℤ n *ℤ (c *ℤ (d *ℤ b *ℤ (d *ℤ b))) +ℤ l *ℤ (n *ℤ n) *ℤ (c *ℤ (d *ℤ b))) *ℤ (c *ℤ (d *ℤ b *ℤ (d *ℤ b) *ℤ (d *ℤ b)))
    +ℤ m *ℤ (n *ℤ n *ℤ n) *ℤ (c *ℤ (d *ℤ b) *ℤ (c *ℤ (d *ℤ b *ℤ (d *ℤ b))))) *ℤ c *ℤ (d *ℤ (d *ℤ (d *ℤ b) *ℤ b) *ℤ b)
    ≡ n *ℤ (k *ℤ (d *ℤ (d *ℤ b) *ℤ b) +ℤ n *ℤ (l *ℤ (d *ℤ b) +ℤ n *ℤ m))
    *ℤ (c *ℤ (d *ℤ b) *ℤ (c *ℤ (d *ℤ b *ℤ (d *ℤ b))) *ℤ (c *ℤ (d *ℤ b *ℤ (d *ℤ b) *ℤ (d *ℤ b))))
law n d b c k l m = simp (*ℤ-add, add-*ℤ, *ℤ-assoc, *ℤ_comm, *ℤ-left-comm, +ℤ_assoc)

cubic_same : (s : Sheet) (z : Fraction) → Across (scaled (polynomial s (millivolts z)) 1000000) (at_slope s z z)
unfolding exact_slope1 exact_slope2
cubic_same s z =
    rw (first, second, third)
    (law z.num (pos z.den) (pos 10000000) (pos 1000000) (pos s.a1) (pos s.a2) (pos s.a3))
  where
    d : ℕ
    d = z.den * 10000000

    m : ℕ
    m = (millivolts z).den

    first : (a1_of s).den * m ≡ 1000000 * d
    first = omega arith

    second : (a2_of s).den * (m * m) ≡ 1000000 * (d * d)
    second = omega arith

    third : (a3_of s).den * (m * m * m) ≡ 1000000 * (d * d * d)
    third = omega arith

straight_same : (s : Sheet) (z : Fraction) → Across (scaled (straight_line s (millivolts z)) 1000000) (at_slope s z (record { num = pos 0; den = z.den }))
unfolding exact_slope1 exact_slope2
straight_same s z =
    let N = is_parts z.num in
    is_eq (is_scale _ (is_scale 1000000 (is_mul (is_nat s.a1) N))) (is_scale _ (is_mul N (is_nat _))) (omega arith)

-- the exact curve at z, which has the sign of the exact signal x
pub horner : (s : Sheet) (x z : Fraction) → (x.num <ℤ pos 0 → z.num ≤ℤ pos 0) → (pos 0 ≤ℤ x.num → pos 0 ≤ℤ z.num) → Across (exact_curve s x z) (exact_horner s z)
unfolding exact_curve exact_horner
horner s x z below from_0 = by_sign (below_zero x) refl
  where
    by_sign : (t : Bool) → below_zero x ≡ t
        → Across (scaled (cond t (straight_line s (millivolts z)) (polynomial s (millivolts z))) 1000000) (at_slope s z (raised_fraction z))
    by_sign true e = rw (raised_to_0 (below (lt_true x.num (pos 0) e))) (straight_same s z)
    by_sign false e = rw (raised_from_0 (from_0 (lt_false x.num (pos 0) e))) (cubic_same s z)
