-- The laws of `nearest`, by which the crates above know it: within half a step, a half away from zero, odd, monotone, exact at multiples,
-- zero at zero, the sign kept, no larger than a whole bound; and what the code computes at each sign. Above this file only computed examples
-- unfold it, for a figure (`Bench.antt` of curve, reference and engine, `Examples.antt` of figures and rows). Assumes nothing.
use mathlib.Core.Path.{◌≡◌, refl, sym, ap, subst, ◌∙◌}
use mathlib.Core.Bool.{true, false}
use mathlib.Core.Logic.{⊎_elim}
use Prim.Native.Nat.{ℕ, suc, ◌+◌, ◌*◌, ◌≤◌, ◌<◌}
use native.Mathlib.Nat.{mul-div-le, lt-div-mul-add, lt_of_mul-lt-mul_left, eq-or-lt_of_le, div-eq_of_lt-le}
use native.Mathlib.Omega.{arith}
use lib.Dec.{T}
use lib.IntN.{ℤ, pos, negsuc, neg_ℤ, nat_abs, ◌-ℤ◌, ◌*ℤ◌}
use lib.Signed.{lt_z, ◌≤ℤ◌}
use Rattle.rounding.specs.Near.{nearest_size, nearest}
use Rattle.rounding.specs.Halves.{distance, IsNearest, AwayFromZero}
use Rattle.rounding.proofs.Difference.{Is, is_shift, is_nat, is_minus, is_mul, is_neg, is_scale, is_parts, is_eq, is_le, of_le, up, down}
use Rattle.rounding.proofs.Difference.{abs_le, of_abs_le}
use Rattle.rounding.proofs.Integers.{pos_mono, abs_neg}
use Rattle.rounding.proofs.Machine.{not_below_0}

-- ---- of a size
-- 2b·size ≤ 2m + b < 2b·size + 2b: the half that goes up
size_law : (m b : ℕ) → 0 < b → (nearest_size m b * (2 * b) ≤ 2 * m + b) × (2 * m + b < nearest_size m b * (2 * b) + 2 * b)
size_law m b h = let l : 2 * m + b < nearest_size m b * (2 * b) + 2 * b = lt-div-mul-add (omega arith) in omega (arith, mul-div-le (2 * m + b) (2 * b))

-- x is at most y, from b x being below b y and b more
pub less : (b : ℕ) {x y : ℕ} → b * x < b * (y + 1) → x ≤ y
less b {x} {y} h = let l : x < y + 1 = lt_of_mul-lt-mul_left b h in omega arith

size_mono : {m n : ℕ} (b : ℕ) → 0 < b → m ≤ n → nearest_size m b ≤ nearest_size n b
size_mono {m} {n} b h k = let l = size_law m b h in let o = size_law n b h in less (2 * b) (omega arith)

-- of two numbers k apart, p is the larger if n is not
larger : {z : ℤ} {p n : ℕ} (k : ℕ) → Is z p n → nat_abs z ≡ k → n < p + k → n + k ≤ p
larger {z = pos a} k h e l = omega arith
larger {z = negsuc a} k h e l = omega arith

apart : {z : ℤ} {p n : ℕ} (k : ℕ) → Is z p n → p + k ≡ n → nat_abs z ≡ k
apart {z = pos a} k h e = omega arith
apart {z = negsuc a} k h e = omega arith

-- 2 (r b − m), whose size is the distance of r from m / b
twice : {r : ℤ} {x y : ℕ} (m b : ℕ) → Is r x y → Is (pos 2 *ℤ (r *ℤ pos b -ℤ pos m)) (2 * (x * b)) (2 * (y * b) + 2 * m)
twice {x} {y} m b R = is_shift (2 * (x * b)) (2 * (y * b) + 2 * m) (is_mul (is_nat 2) (is_minus (is_scale b R) (is_nat m))) (omega arith)

-- the size that is computed is the nearest, and no other number is
module _ (m b : ℕ) (h : 0 < b) where
  size_is : IsNearest (pos (nearest_size m b)) (pos m) b
  size_is =
      let l = size_law m b h in
      let d = twice m b (is_nat (nearest_size m b)) in
      record { half = abs_le b d (omega arith) (omega arith); away = λ e. omega (arith, larger b d e (omega arith)) }

  -- at a half, k lies above m / b
  below_half : (k : ℕ) → IsNearest (pos k) (pos m) b → 2 * m < 2 * (k * b) + b
  below_half k i =
      let d = twice m b (is_nat k) in
      ⊎_elim (λ e. omega (arith, i.away (apart b d (omega arith)))) (λ l. omega arith)
      (eq-or-lt_of_le {n = 2 * m} {m = 2 * (k * b) + b} (omega (arith, of_abs_le b d i.half)))

  size_only : {r : ℤ} → IsNearest r (pos m) b → r ≡ pos (nearest_size m b)
  size_only {r = pos k} i =
      let l = of_abs_le b (twice m b (is_nat k)) i.half in
      ap pos (sym (div-eq_of_lt-le (2 * b) (omega arith) (omega (arith, below_half k i))))
  size_only {r = negsuc k} i = absurd (omega (arith, of_abs_le b (twice m b (is_parts (negsuc k))) i.half))

-- ---- of either sign
neg_neg : (z : ℤ) → z ≡ neg_ℤ (neg_ℤ z)
neg_neg z = is_eq (is_parts z) (is_neg (is_neg (is_parts z))) (omega arith)

-- −r is as near to −a / b as r to a / b
mirrored_distance : (r a : ℤ) (b : ℕ) → distance (neg_ℤ r) (neg_ℤ a) b ≡ distance r a b
mirrored_distance r a b =
    let R = is_parts r in let A = is_parts a in
    ap nat_abs
    (is_eq
    (is_mul (is_nat 2) (is_minus (is_scale b (is_neg R)) (is_neg A)))
    (is_neg (is_mul (is_nat 2) (is_minus (is_scale b R) A)))
    (omega arith))
    ∙ abs_neg (pos 2 *ℤ (r *ℤ pos b -ℤ a))

mirrored : {r a : ℤ} {b : ℕ} → IsNearest r a b → IsNearest (neg_ℤ r) (neg_ℤ a) b
mirrored {r} {a} {b} i =
    let d = mirrored_distance r a b in
    record { half = rw d i.half; away = λ e. rw (abs_neg a, abs_neg r) (i.away (sym d ∙ e)) }

is_law : (a : ℤ) (b : ℕ) → 0 < b → IsNearest (nearest a b) a b
unfolding nearest
is_law (pos n) b h = size_is n b h
is_law (negsuc n) b h = mirrored (size_is (suc n) b h)

only_law : (r a : ℤ) (b : ℕ) → 0 < b → IsNearest r a b → r ≡ nearest a b
unfolding nearest
only_law r (pos n) b h i = size_only n b h i
only_law r (negsuc n) b h i = neg_neg r ∙ ap neg_ℤ (size_only (suc n) b h (mirrored i))

odd_law : (a : ℤ) (b : ℕ) → 0 < b → nearest (neg_ℤ a) b ≡ neg_ℤ (nearest a b)
odd_law a b h = sym (only_law (neg_ℤ (nearest a b)) (neg_ℤ a) b h (mirrored (is_law a b h)))

pub away_from_zero : AwayFromZero
away_from_zero = record { is = is_law; only = only_law; odd = odd_law }

-- ---- the laws

-- r is a / b, but for half a step
pub record Half (r a : ℤ) (b : ℕ) : Type 0 where
  pub half : distance r a b ≤ b

pub near_half : (a : ℤ) (b : ℕ) → 0 < b → Half (nearest a b) a b
near_half a b h = record { half = (is_law a b h).half }

-- two sides of the half step, over the naturals
pub half_sides : {r a : ℤ} {b x y p n : ℕ} → Half r a b → Is r x y → Is a p n
    → (2 * (x * b) + 2 * n ≤ 2 * (y * b) + 2 * p + b) × (2 * (y * b) + 2 * p ≤ 2 * (x * b) + 2 * n + b)
half_sides {b} w R A =
    let l = of_abs_le b (is_mul (is_nat 2) (is_minus (is_scale b R) A)) w.half in
    omega arith

pub near_mono : {a c : ℤ} (b : ℕ) → 0 < b → a ≤ℤ c → nearest a b ≤ℤ nearest c b
unfolding nearest
near_mono {a = pos m} {c = pos n} b h k = pos_mono (size_mono b h (omega (arith, of_le (is_nat m) (is_nat n) k)))
near_mono {a = negsuc m} {c = pos n} b h k = is_le (is_neg (is_nat (nearest_size (suc m) b))) (is_nat (nearest_size n b)) (omega arith)
near_mono {a = negsuc m} {c = negsuc n} b h k =
    let l = size_mono {m = suc n} {n = suc m} b h (omega (arith, of_le (is_parts (negsuc m)) (is_parts (negsuc n)) k)) in
    is_le (is_neg (is_nat (nearest_size (suc m) b))) (is_neg (is_nat (nearest_size (suc n) b))) (omega (arith, l))
near_mono {a = pos m} {c = negsuc n} b h k = absurd k.le

-- two numerators at most m b apart give numbers at most m + 1 apart
pub near_slope : (a c : ℤ) (b m : ℕ) → 0 < b → nat_abs (a -ℤ c) ≤ m * b → nat_abs (nearest a b -ℤ nearest c b) ≤ m + 1
near_slope a c b m h k =
    let r = nearest a b in let s = nearest c b in
    let l = half_sides (near_half a b h) (is_parts r) (is_parts a) in
    let n = half_sides (near_half c b h) (is_parts s) (is_parts c) in
    let o = of_abs_le (m * b) (is_minus (is_parts a) (is_parts c)) k in
    abs_le (m + 1) (is_minus (is_parts r) (is_parts s)) (less (2 * b) (omega arith)) (less (2 * b) (omega arith))

pub near_exact : (m : ℤ) (b : ℕ) → 0 < b → nearest (m *ℤ pos b) b ≡ m
near_exact m b h =
    let q = nearest (m *ℤ pos b) b in
    let l = of_abs_le b (is_mul (is_nat 2) (is_minus (is_scale b (is_parts q)) (is_scale b (is_parts m)))) (near_half (m *ℤ pos b) b h).half in
    let u : up q + down m ≤ up m + down q = less (2 * b) (omega arith) in
    let d : up m + down q ≤ up q + down m = less (2 * b) (omega arith) in
    is_eq (is_parts q) (is_parts m) (omega arith)

pub near_zero : (b : ℕ) → 0 < b → nearest (pos 0) b ≡ pos 0
near_zero b h = subst (λ (n : ℕ). nearest (pos n) b ≡ pos 0) (omega arith) (near_exact (pos 0) b h)

pub near_nonnegative : {a : ℤ} (b : ℕ) → 0 < b → pos 0 ≤ℤ a → pos 0 ≤ℤ nearest a b
near_nonnegative {a} b h k = subst (λ (z : ℤ). z ≤ℤ nearest a b) (near_zero b h) (near_mono b h k)

pub near_nonpositive : {a : ℤ} (b : ℕ) → 0 < b → a ≤ℤ pos 0 → nearest a b ≤ℤ pos 0
near_nonpositive {a} b h k = subst (λ (z : ℤ). nearest a b ≤ℤ z) (near_zero b h) (near_mono b h k)

pub half_size : {r a : ℤ} {b : ℕ} (m : ℕ) → 0 < b → nat_abs a ≤ m * b → Half r a b → nat_abs r ≤ m
half_size {r} {a} {b} m h l w =
    let s = half_sides w (is_parts r) (is_parts a) in let o = of_abs_le (m * b) (is_parts a) l in
    abs_le m (is_parts r) (less (2 * b) (omega arith)) (less (2 * b) (omega arith))

pub near_size : (a : ℤ) {b : ℕ} (m : ℕ) → 0 < b → nat_abs a ≤ m * b → nat_abs (nearest a b) ≤ m
near_size a {b} m h l = half_size m h l (near_half a b h)

-- document 01's example, −1/2, as R-6 has it
minus_half : nearest (negsuc 0) 2 ≡ negsuc 0
unfolding nearest
minus_half = refl

-- ---- what the code computes
pub at_nonnegative : (a : ℤ) (b : ℕ) → lt_z a (pos 0) ≡ false → pos (nearest_size (nat_abs a) b) ≡ nearest a b
unfolding nearest
at_nonnegative (pos n) b e = refl
at_nonnegative (negsuc n) b e = absurd (subst T e tt)

pub at_negative : (a : ℤ) (b : ℕ) → lt_z a (pos 0) ≡ true → neg_ℤ (pos (nearest_size (nat_abs a) b)) ≡ nearest a b
unfolding nearest
at_negative (pos n) b e = absurd (not_below_0 n e)
at_negative (negsuc n) b e = refl
