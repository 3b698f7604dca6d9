-- A flat line has no area: n equal wet values, and exact values that are all the same. Assumes nothing.
use mathlib.Core.List.{List, ◌∷◌}
use mathlib.Core.Path.{◌≡◌, refl, ap}
use Prim.Native.Nat.{ℕ, zero, suc, ◌*◌, ◌-◌, ◌<◌}
use native.Mathlib.Nat.{mul-pos}
use native.Mathlib.Omega.{arith}
use lib.IntN.{ℤ, pos, negsuc, nat_abs, ◌+ℤ◌, ◌-ℤ◌, ◌*ℤ◌}
use lib.ListN.{length, get_or, replicate, length-replicate, get_or-replicate}
use Rattle.rounding.proofs.Difference.{Is, is_nat, is_shift, is_add, is_minus, is_scale, is_parts, is_eq, up, down}
use Rattle.rounding.proofs.Integers.{abs_mul}
use Rattle.exact.specs.Fraction.{Fraction, whole, plus, minus, scaled, Across, SameValue}
use Rattle.exact.specs.Area.{last_of, sum_of, area_of, exact_sum, exact_area, AllAre, none, more, FlatLine}

-- ---- wet values
others_flat : {A : Type 0} (m : ℕ) (a : A) → suc (length (replicate m a)) - 1 ≡ m
others_flat m a = omega (arith, length-replicate m a)

last_flat : {A : Type 0} (m : ℕ) (a missing : A) → last_of missing (replicate (suc m) a) ≡ a
last_flat m a missing = get_or-replicate (suc m) (suc (length (replicate m a)) - 1) a missing (omega (arith, others_flat m a))

sum_flat : (m : ℕ) (w : ℤ) → Is (sum_of (replicate m w)) (up w * m) (down w * m)
sum_flat zero w = is_shift (up w * 0) (down w * 0) (is_nat 0) (omega arith)
sum_flat (suc m) w = is_shift (up w * suc m) (down w * suc m) (is_add (is_parts w) (sum_flat m w)) (omega arith)

wet_flat : (n : ℕ) (w : ℤ) → area_of (replicate n w) ≡ pos 0
unfolding area_of
wet_flat zero w = refl
wet_flat (suc m) w =
    let W = is_parts w in
    rw (last_flat m w (pos 0), others_flat m w)
    (is_eq (is_minus (is_scale 2 (sum_flat m w)) (is_scale m (is_add W W))) (is_nat 0) (omega arith))

-- ---- exact values that are all x: each of them, and their sum, which is m times x
all_at : {x : Fraction} {xs : List Fraction} → AllAre x xs → (i : ℕ) → i < length xs → SameValue (get_or xs i (whole (pos 0))) x
all_at none i l = absurd (omega arith)
all_at (more h r) zero l = h
all_at (more h r) (suc i) l = all_at r i (omega arith)

all_sum : {x : Fraction} {xs : List Fraction} → AllAre x xs → (0 < (exact_sum xs).den) × Across (exact_sum xs) (scaled x (length xs))
all_sum {x} none = (omega arith, is_eq (is_scale x.den (is_nat 0)) (is_scale 1 (is_scale 0 (is_parts x.num))) (omega arith))
all_sum {x} (more {y} {ys} h r) = let g = all_sum r in (mul-pos h.lower.0 g.0, one_more (length ys) x y (exact_sum ys) h.across g.1)
  where
    one_more : (m : ℕ) (x y s : Fraction) → Across y x → Across s (scaled x m) → Across (plus y s) (scaled x (suc m))
    one_more m x y s hy hs =
        let X = is_parts x.num in let Y = is_parts y.num in let S = is_parts s.num in
        let e : (y.num *ℤ pos s.den +ℤ s.num *ℤ pos y.den) *ℤ pos x.den
        ≡ y.num *ℤ pos x.den *ℤ pos s.den +ℤ s.num *ℤ pos x.den *ℤ pos y.den =
        is_eq (is_scale x.den (is_add (is_scale s.den Y) (is_scale y.den S)))
        (is_add (is_scale s.den (is_scale x.den Y)) (is_scale y.den (is_scale x.den S))) (omega arith) in
        rw (e, hy, hs)
        (is_eq (is_add (is_scale s.den (is_scale y.den X)) (is_scale y.den (is_scale s.den (is_scale m X))))
        (is_scale (y.den * s.den) (is_scale (suc m) X)) (omega arith))

-- what comes to nothing d times, d being above 0, is nothing
no_times : (z : ℤ) (d : ℕ) → 0 < d → z *ℤ pos d ≡ pos 0 → z ≡ pos 0
no_times (pos zero) d l e = refl
no_times (pos (suc k)) d l e = let p : 0 < suc k = omega arith in absurd (omega (arith, abs_mul (pos (suc k)) (pos d), ap nat_abs e, mul-pos p l))
no_times (negsuc k) d l e = let p : 0 < suc k = omega arith in absurd (omega (arith, abs_mul (negsuc k) (pos d), ap nat_abs e, mul-pos p l))

-- twice m times x less m times both ends, which are x
flat_across : (m : ℕ) (x s a b : Fraction) → 0 < x.den → Across s (scaled x m) → Across a x → Across b x
    → (minus (scaled s 2) (scaled (plus a b) m)).num ≡ pos 0
flat_across m x s a b l hs ha hb =
    let X = is_parts x.num in let S = is_parts s.num in let A = is_parts a.num in let B = is_parts b.num in let d = x.den in
    let rest : s.num *ℤ pos 2 *ℤ pos (a.den * b.den) *ℤ pos d ≡ s.num *ℤ pos d *ℤ pos (2 * (a.den * b.den)) =
    is_eq (is_scale d (is_scale (a.den * b.den) (is_scale 2 S))) (is_scale (2 * (a.den * b.den)) (is_scale d S)) (omega arith) in
    let ends : (a.num *ℤ pos b.den +ℤ b.num *ℤ pos a.den) *ℤ pos m *ℤ pos s.den *ℤ pos d
    ≡ (a.num *ℤ pos d *ℤ pos b.den +ℤ b.num *ℤ pos d *ℤ pos a.den) *ℤ pos (m * s.den) =
    is_eq (is_scale d (is_scale s.den (is_scale m (is_add (is_scale b.den A) (is_scale a.den B)))))
    (is_scale (m * s.den) (is_add (is_scale b.den (is_scale d A)) (is_scale a.den (is_scale d B)))) (omega arith) in
    no_times _ d l
    (rw (minus_times _ _ d, rest, ends, hs, ha, hb)
    (is_eq (is_minus (is_scale (2 * (a.den * b.den)) (is_scale s.den (is_scale m X)))
    (is_scale (m * s.den) (is_add (is_scale b.den (is_scale a.den X)) (is_scale a.den (is_scale b.den X))))) (is_nat 0) (omega arith)))
  where
    minus_times : (p q : ℤ) (k : ℕ) → (p -ℤ q) *ℤ pos k ≡ p *ℤ pos k -ℤ q *ℤ pos k
    minus_times p q k =
        let P = is_parts p in let Q = is_parts q in
        is_eq (is_scale k (is_minus P Q)) (is_minus (is_scale k P) (is_scale k Q)) (omega arith)

exact_flat : {x : Fraction} {xs : List Fraction} → AllAre x xs → SameValue (exact_area xs) (whole (pos 0))
unfolding exact_area
exact_flat none = record { lower = (omega arith, omega arith); across = refl }
exact_flat {x} (more {y} {ys} h r) =
    let m = length ys in let g = all_sum r in
    let i : suc m - 1 ≡ m = omega arith in
    let b = all_at (more h r) m (omega arith) in
    let n = flat_across m x (exact_sum ys) y (get_or (y ∷ ys) m (whole (pos 0))) h.lower.1 g.1 h.across b.across in
    rw i
    (record {
      lower = (mul-pos g.0 (mul-pos h.lower.0 b.lower.0), omega arith);
      across = rw n (is_eq (is_scale 1 (is_nat 0)) (is_scale _ (is_nat 0)) (omega arith));
    })

pub flat_line : FlatLine
flat_line = record { wet = wet_flat; exact = exact_flat }
