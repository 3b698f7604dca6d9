-- Against a reference R below K the signal never falls as V rises, by the half step of the share alone. Assumes nothing.
use mathlib.Core.Path.{◌≡◌, subst}
use Prim.Native.Nat.{ℕ, suc, ◌+◌, ◌*◌, ◌-◌, ◌≤◌, ◌<◌}
use native.Mathlib.Nat.{mul-le-mul_right}
use native.Mathlib.Omega.{arith}
use lib.IntN.{ℤ, pos, ◌*ℤ◌}
use lib.Signed.{◌≤ℤ◌, ≤ℤ_refl}
use Rattle.rounding.specs.Near.{nearest}
use Rattle.rounding.proofs.Difference.{is_nat, is_add, is_minus, is_scale, is_parts, is_eq, is_le, of_le, up, down}
use Rattle.rounding.proofs.Nearest.{near_half, half_sides, less}
use Rattle.reference.specs.Signal.{against_of}
use Rattle.reference.proofs.Least.{either}

-- from v to w, d apart, the share grows by d at most: over the naturals, with v = a − b, w = c − e and shares p − q, x − y
core : (a b c e p q x y r k d : ℕ) → r < k → c + b ≡ a + e + suc d
    → 2 * (q * k) + 2 * (a * r) ≤ 2 * (p * k) + 2 * (b * r) + k → 2 * (x * k) + 2 * (e * r) ≤ 2 * (y * k) + 2 * (c * r) + k
    → x + q ≤ p + y + suc d
core a b c e p q x y r k d h g l m =
    less (2 * k) (omega (arith, mul-le-mul_right (suc d) h, eq_scale))
  where
    eq_scale : (c + b) * r ≡ (a + e + suc d) * r
    eq_scale = rw g

pub against_mono : {v w : ℤ} (r k : ℕ) → r < k → v ≤ℤ w → against_of v r k ≤ℤ against_of w r k
unfolding against_of
against_mono {v} {w} r k h l =
    let A = is_parts v in let C = is_parts w in
    let p = nearest (v *ℤ pos r) k in let x = nearest (w *ℤ pos r) k in
    let o = of_le A C l in
    either (up v + down w) (up w + down v)
    (λ g.
    let m = half_sides (near_half (v *ℤ pos r) k (omega arith)) (is_parts p) (is_scale r A) in
    let n = half_sides (near_half (w *ℤ pos r) k (omega arith)) (is_parts x) (is_scale r C) in
    let d = up w + down v - suc (up v + down w) in
    let f = core (up v) (down v) (up w) (down w) (up p) (down p) (up x) (down x) r k d h (omega arith) m.1 n.0 in
    is_le (is_minus (is_add (is_nat r) A) (is_parts p)) (is_minus (is_add (is_nat r) C) (is_parts x)) (omega arith))
    (λ g.
    let e = is_eq A C (omega arith) in
    subst (λ (z : ℤ). against_of v r k ≤ℤ against_of z r k) e (≤ℤ_refl (against_of v r k)))
