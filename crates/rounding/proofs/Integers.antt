-- Laws of sum, product, order and size of integers that the library lacks. Assumes nothing.
use mathlib.Core.Path.{◌≡◌, refl, subst}
use Prim.Native.Nat.{ℕ, zero, suc, ◌+◌, ◌*◌, ◌≤◌}
use native.Mathlib.Omega.{arith}
use native.Mathlib.Nat.{le_refl, mul-le-mul}
use lib.IntN.{ℤ, pos, negsuc, neg_ℤ, ◌+ℤ◌, ◌-ℤ◌, ◌*ℤ◌, nat_abs, zero-*ℤ}
use lib.Signed.{◌≤ℤ◌, ◌<ℤ◌, ≤ℤ_refl}
use Rattle.rounding.proofs.Difference.{is_eq, is_nat, is_add, is_minus, is_mul, is_parts, abs_le, of_abs_le, is_le, of_le, is_lt, of_lt, up, down}

-- ---- sums and products
pub *ℤ-assoc : (a b c : ℤ) → a *ℤ b *ℤ c ≡ a *ℤ (b *ℤ c)
*ℤ-assoc a b c =
    let A = is_parts a in let B = is_parts b in let C = is_parts c in
    is_eq (is_mul (is_mul A B) C) (is_mul A (is_mul B C)) (omega arith)

pub *ℤ-add : (a b c : ℤ) → a *ℤ (b +ℤ c) ≡ a *ℤ b +ℤ a *ℤ c
*ℤ-add a b c =
    let A = is_parts a in let B = is_parts b in let C = is_parts c in
    is_eq (is_mul A (is_add B C)) (is_add (is_mul A B) (is_mul A C)) (omega arith)

-- ---- order
pub ≤ℤ-trans : {a b c : ℤ} → a ≤ℤ b → b ≤ℤ c → a ≤ℤ c
≤ℤ-trans {a} {b} {c} h k =
    let A = is_parts a in let B = is_parts b in let C = is_parts c in
    is_le A C (omega (arith, of_le A B h, of_le B C k))

pub ≤ℤ-<ℤ-trans : {a b c : ℤ} → a ≤ℤ b → b <ℤ c → a <ℤ c
≤ℤ-<ℤ-trans {a} {b} {c} h k =
    let A = is_parts a in let B = is_parts b in let C = is_parts c in
    is_lt A C (omega (arith, of_le A B h, of_lt B C k))

pub <ℤ-≤ℤ : {a b : ℤ} → a <ℤ b → a ≤ℤ b
<ℤ-≤ℤ {a} {b} h =
    let A = is_parts a in let B = is_parts b in
    is_le A B (omega (arith, of_lt A B h))

pub +ℤ-mono : {a b c d : ℤ} → a ≤ℤ b → c ≤ℤ d → (a +ℤ c) ≤ℤ (b +ℤ d)
+ℤ-mono {a} {b} {c} {d} h k =
    let A = is_parts a in let B = is_parts b in let C = is_parts c in let D = is_parts d in
    is_le (is_add A C) (is_add B D) (omega (arith, of_le A B h, of_le C D k))

pub scale_mono : {a b : ℤ} (n : ℕ) → a ≤ℤ b → (a *ℤ pos n) ≤ℤ (b *ℤ pos n)
scale_mono {a} {b} n h =
    let A = is_parts a in let B = is_parts b in
    is_le (is_mul A (is_nat n)) (is_mul B (is_nat n)) (omega (arith, mul-le-mul (of_le A B h) (le_refl n)))

-- products of numbers not below 0
pub *ℤ-mono : {a b c d : ℤ} → pos 0 ≤ℤ a → pos 0 ≤ℤ c → a ≤ℤ b → c ≤ℤ d → (a *ℤ c) ≤ℤ (b *ℤ d)
*ℤ-mono {a = pos a} {b = pos b} {c = pos c} {d = pos d} p q h k =
    is_le (is_nat (a * c)) (is_nat (b * d)) (omega (arith, mul-le-mul (core a b (of_le (is_nat a) (is_nat b) h)) (core c d (of_le (is_nat c) (is_nat d) k))))
  where
    core : (m n : ℕ) → m + 0 ≤ n + 0 → m ≤ n
    core m n h = omega arith
*ℤ-mono {a = negsuc a} p q h k = absurd p.le
*ℤ-mono {a = pos a} {b = negsuc b} p q h k = absurd h.le
*ℤ-mono {a = pos a} {b = pos b} {c = negsuc c} p q h k = absurd q.le
*ℤ-mono {a = pos a} {b = pos b} {c = pos c} {d = negsuc d} p q h k = absurd k.le

pub pos_mono : {m n : ℕ} → m ≤ n → pos m ≤ℤ pos n
pos_mono {m} {n} h = is_le (is_nat m) (is_nat n) (omega arith)

pub nonnegative : (n : ℕ) → pos 0 ≤ℤ pos n
nonnegative n = pos_mono (omega arith)

pub nonnegative_add : (n : ℕ) {q : ℤ} → pos 0 ≤ℤ q → pos 0 ≤ℤ (pos n +ℤ q)
nonnegative_add n {q} h = is_le (is_nat 0) (is_add (is_nat n) (is_parts q)) (omega (arith, of_le (is_nat 0) (is_parts q) h))

pub nonnegative_mul : {a b : ℤ} → pos 0 ≤ℤ a → pos 0 ≤ℤ b → pos 0 ≤ℤ (a *ℤ b)
nonnegative_mul {a} {b} h k = *ℤ-mono {a = pos 0} {b = a} {c = pos 0} {d = b} (≤ℤ_refl (pos 0)) (≤ℤ_refl (pos 0)) h k

pub nonnegative_scale : (n : ℕ) {a : ℤ} → pos 0 ≤ℤ a → pos 0 ≤ℤ (a *ℤ pos n)
nonnegative_scale n h = nonnegative_mul h (nonnegative n)

-- numbers not above 0
pub nonpositive : {a : ℤ} → a <ℤ pos 1 → a ≤ℤ pos 0
nonpositive {a} h = is_le (is_parts a) (is_nat 0) (omega (arith, of_lt (is_parts a) (is_nat 1) h))

pub nonpositive_scale : (n : ℕ) {a : ℤ} → a ≤ℤ pos 0 → (a *ℤ pos n) ≤ℤ pos 0
nonpositive_scale n {a} h = subst (λ (z : ℤ). (a *ℤ pos n) ≤ℤ z) (zero-*ℤ (pos n)) (scale_mono n h)

-- z, or 0 where z is below 0
abbrev pub raised : ℤ → ℤ
raised z = pos (up z)

pub raised_from_0 : {z : ℤ} → pos 0 ≤ℤ z → raised z ≡ z
raised_from_0 {z = pos k} h = refl
raised_from_0 {z = negsuc k} h = absurd h.le

pub raised_to_0 : {z : ℤ} → z ≤ℤ pos 0 → raised z ≡ pos 0
raised_to_0 {z = pos k} h = is_eq (is_nat k) (is_nat 0) (omega (arith, of_le (is_nat k) (is_nat 0) h))
raised_to_0 {z = negsuc k} h = refl

pub raised_size : (z : ℤ) → nat_abs (raised z) ≤ nat_abs z
raised_size (pos k) = omega arith
raised_size (negsuc k) = omega arith

-- ---- size
pub abs_neg : (z : ℤ) → nat_abs (neg_ℤ z) ≡ nat_abs z
abs_neg (pos zero) = refl
abs_neg (pos (suc n)) = refl
abs_neg (negsuc n) = refl

abs_self : (z : ℤ) → (up z ≤ down z + nat_abs z) × (down z ≤ up z + nat_abs z)
abs_self z = of_abs_le (nat_abs z) (is_parts z) (omega arith)

pub abs_add : (a b : ℤ) → nat_abs (a +ℤ b) ≤ nat_abs a + nat_abs b
abs_add a b =
    let f = abs_self a in let g = abs_self b in
    abs_le (nat_abs a + nat_abs b) (is_add (is_parts a) (is_parts b)) (omega arith) (omega arith)

pub abs_sub : (a b : ℤ) → nat_abs (a -ℤ b) ≤ nat_abs a + nat_abs b
abs_sub a b =
    let f = abs_self a in let g = abs_self b in
    abs_le (nat_abs a + nat_abs b) (is_minus (is_parts a) (is_parts b)) (omega arith) (omega arith)

pub abs_mul : (a b : ℤ) → nat_abs (a *ℤ b) ≡ nat_abs a * nat_abs b
abs_mul (pos a) (pos b) = refl
abs_mul (pos a) (negsuc b) = abs_neg (pos (a * suc b))
abs_mul (negsuc a) (pos b) = abs_neg (pos (suc a * b))
abs_mul (negsuc a) (negsuc b) = refl

-- a product of two bounded numbers, the bounds written out: from the type alone a numeral's factors are not found
pub prod : (A B : ℕ) {a b : ℕ} → a ≤ A → b ≤ B → a * b ≤ A * B
prod A B p q = mul-le-mul p q
