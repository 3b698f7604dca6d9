-- An integer as a difference of two naturals: `Is z p n` says that z is p − n. Sum, negative, product, order, equality and
-- absolute value of integers by the two naturals, so that a statement on integers becomes one on naturals, which `omega` reads.
-- Assumes nothing.
use mathlib.Core.Path.{◌≡◌, ap}
use mathlib.Core.Bool.{Bool, true, false, not, cond}
use Prim.Native.Nat.{ℕ, zero, suc, ◌+◌, ◌*◌, ◌-◌, ◌≤◌, ◌<◌}
use native.Mathlib.Omega.{arith}
use lib.Dec.{T, ltb, ltb→lt, lt→ltb, nltb→le, leb→le, le→leb}
use lib.IntN.{ℤ, pos, negsuc, neg_ℤ, sub_ℕ, ◌+ℤ◌, ◌-ℤ◌, ◌*ℤ◌, nat_abs}
use lib.Signed.{◌≤ℤ◌, ◌<ℤ◌}

abbrev pub Diff : ℤ → ℕ → ℕ → Type 0
Diff (pos k) p n = k + n ≡ p
Diff (negsuc k) p n = suc k + p ≡ n

-- a record, so that the three numbers are read off a proof
pub record Is (z : ℤ) (p n : ℕ) : Type 0 where
  pub is : Diff z p n

-- ---- making one

-- two other naturals with the same difference
pub is_shift : {z : ℤ} {p n : ℕ} (q m : ℕ) → Is z p n → p + m ≡ q + n → Is z q m
is_shift {z = pos k} q m h e = record { is = omega arith }
is_shift {z = negsuc k} q m h e = record { is = omega arith }

is_sub : (a b : ℕ) → Is (sub_ℕ a b) a b
is_sub a b = go (ltb a b) (ltb→lt a b) (nltb→le a b)
  where
    go : (c : Bool) → (T c → a < b) → (T (not c) → b ≤ a) → Is (cond c (negsuc (b - suc a)) (pos (a - b))) a b
    go true f g = let l : a < b = f tt in record { is = omega arith }
    go false f g = let l : b ≤ a = g tt in record { is = omega arith }

pub is_nat : (k : ℕ) → Is (pos k) k 0
is_nat k = record { is = omega arith }

pub is_neg : {x : ℤ} {p n : ℕ} → Is x p n → Is (neg_ℤ x) n p
is_neg {x = pos zero} h = record { is = omega arith }
is_neg {x = pos (suc k)} h = record { is = omega arith }
is_neg {x = negsuc k} h = record { is = omega arith }

pub is_add : {x y : ℤ} {p n q m : ℕ} → Is x p n → Is y q m → Is (x +ℤ y) (p + q) (n + m)
is_add {x = pos a} {y = pos b} h k = record { is = omega arith }
is_add {x = pos a} {y = negsuc b} {p} {n} {q} {m} h k = is_shift (p + q) (n + m) (is_sub a (suc b)) (omega arith)
is_add {x = negsuc a} {y = pos b} {p} {n} {q} {m} h k = is_shift (p + q) (n + m) (is_sub b (suc a)) (omega arith)
is_add {x = negsuc a} {y = negsuc b} h k = record { is = omega arith }

pub is_minus : {x y : ℤ} {p n q m : ℕ} → Is x p n → Is y q m → Is (x -ℤ y) (p + m) (n + q)
is_minus h k = is_add h (is_neg k)

pub is_mul : {x y : ℤ} {p n q m : ℕ} → Is x p n → Is y q m → Is (x *ℤ y) (p * q + n * m) (p * m + n * q)
is_mul {x = pos a} {y = pos b} h k = rw (← h.is, ← k.is) (record { is = omega arith })
is_mul {x = pos a} {y = negsuc b} h k =
    rw (← h.is, ← k.is) (is_shift _ _ (is_neg (is_nat (a * suc b))) (omega arith))
is_mul {x = negsuc a} {y = pos b} h k =
    rw (← h.is, ← k.is) (is_shift _ _ (is_neg (is_nat (suc a * b))) (omega arith))
is_mul {x = negsuc a} {y = negsuc b} h k = rw (← h.is, ← k.is) (record { is = omega arith })

pub is_scale : {x : ℤ} {p n : ℕ} (k : ℕ) → Is x p n → Is (x *ℤ pos k) (p * k) (n * k)
is_scale {p} {n} k h = is_shift (p * k) (n * k) (is_mul h (is_nat k)) (omega arith)

-- the two naturals of any integer: one of them is 0
abbrev pub up : ℤ → ℕ
up (pos k) = k
up (negsuc k) = 0

abbrev pub down : ℤ → ℕ
down (pos k) = 0
down (negsuc k) = suc k

pub is_parts : (z : ℤ) → Is z (up z) (down z)
is_parts (pos k) = record { is = omega arith }
is_parts (negsuc k) = record { is = omega arith }

-- ---- using it

pub is_eq : {x y : ℤ} {p n q m : ℕ} → Is x p n → Is y q m → p + m ≡ q + n → x ≡ y
is_eq {x = pos a} {y = pos b} h k e = ap pos (omega arith)
is_eq {x = pos a} {y = negsuc b} h k e = absurd (omega arith)
is_eq {x = negsuc a} {y = pos b} h k e = absurd (omega arith)
is_eq {x = negsuc a} {y = negsuc b} h k e = ap negsuc (omega arith)

pub abs_le : {z : ℤ} {p n : ℕ} (k : ℕ) → Is z p n → p ≤ n + k → n ≤ p + k → nat_abs z ≤ k
abs_le {z = pos a} k h u d = omega arith
abs_le {z = negsuc a} k h u d = omega arith

pub of_abs_le : {z : ℤ} {p n : ℕ} (k : ℕ) → Is z p n → nat_abs z ≤ k → (p ≤ n + k) × (n ≤ p + k)
of_abs_le {z = pos a} k h l = omega arith
of_abs_le {z = negsuc a} k h l = omega arith

pub is_le : {x y : ℤ} {p n q m : ℕ} → Is x p n → Is y q m → p + m ≤ q + n → x ≤ℤ y
is_le {x = pos a} {y = pos b} h k l = record { le = le→leb a b (omega arith) }
is_le {x = pos a} {y = negsuc b} h k l = absurd (omega arith)
is_le {x = negsuc a} {y = pos b} h k l = record { le = tt }
is_le {x = negsuc a} {y = negsuc b} h k l = record { le = le→leb b a (omega arith) }

pub of_le : {x y : ℤ} {p n q m : ℕ} → Is x p n → Is y q m → x ≤ℤ y → p + m ≤ q + n
of_le {x = pos a} {y = pos b} h k l = let t = leb→le a b l.le in omega arith
of_le {x = pos a} {y = negsuc b} h k l = absurd l.le
of_le {x = negsuc a} {y = pos b} h k l = omega arith
of_le {x = negsuc a} {y = negsuc b} h k l = let t = leb→le b a l.le in omega arith

pub is_lt : {x y : ℤ} {p n q m : ℕ} → Is x p n → Is y q m → p + m < q + n → x <ℤ y
is_lt {x = pos a} {y = pos b} h k l = record { lt = lt→ltb a b (omega arith) }
is_lt {x = pos a} {y = negsuc b} h k l = absurd (omega arith)
is_lt {x = negsuc a} {y = pos b} h k l = record { lt = tt }
is_lt {x = negsuc a} {y = negsuc b} h k l = record { lt = lt→ltb b a (omega arith) }

pub of_lt : {x y : ℤ} {p n q m : ℕ} → Is x p n → Is y q m → x <ℤ y → p + m < q + n
of_lt {x = pos a} {y = pos b} h k l = let t = ltb→lt a b l.lt in omega arith
of_lt {x = pos a} {y = negsuc b} h k l = absurd l.lt
of_lt {x = negsuc a} {y = pos b} h k l = omega arith
of_lt {x = negsuc a} {y = negsuc b} h k l = let t = ltb→lt b a l.lt in omega arith
