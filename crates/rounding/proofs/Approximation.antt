-- How far a whole number is from an exact value: `Within c num den E S` says that c is at most E / S away from num / den.
-- The bound E / S does not depend on den, so bounds are composed with no look at the fractions: one law for each operation.
-- Assumes nothing.
use mathlib.Core.Path.{◌≡◌, ap}
use Prim.Native.Nat.{ℕ, ◌+◌, ◌*◌, ◌≤◌, ◌<◌}
use native.Mathlib.Nat.{le_refl, le_trans, mul-pos, mul-le-mul_left, mul-le-mul_right, le_of_mul-le-mul_left}
use native.Mathlib.Omega.{arith}
use lib.IntN.{ℤ, pos, negsuc, neg_ℤ, nat_abs, ◌+ℤ◌, ◌-ℤ◌, ◌*ℤ◌}
use Rattle.rounding.specs.Near.{nearest}
use Rattle.rounding.proofs.Difference.{is_eq, is_nat, is_add, is_minus, is_mul, is_scale, is_parts, up, down, abs_le, of_abs_le}
use Rattle.rounding.proofs.Integers.{raised, abs_neg, abs_add, abs_mul}
use Rattle.rounding.proofs.Nearest.{Half, near_half}

pub record Within (c num : ℤ) (den E S : ℕ) : Type 0 where
  pub within : nat_abs (c *ℤ pos den -ℤ num) * S ≤ E * den

-- ---- a triangle: y times m is p + q
triangle : (m : ℕ) (y p q : ℤ) → y *ℤ pos m ≡ p +ℤ q → nat_abs y * m ≤ nat_abs p + nat_abs q
triangle m y p q e = omega (arith, abs_mul y (pos m), ap nat_abs e, abs_add p q)

-- ---- one value
pub within_exactly : (a : ℤ) (S : ℕ) → Within a a 1 0 S
within_exactly a S =
    let n : nat_abs (a *ℤ pos 1 -ℤ a) ≤ 0 = abs_le 0 (is_minus (is_scale 1 (is_parts a)) (is_parts a)) (omega arith) (omega arith) in
    record { within = omega (arith, mul-le-mul_right S n) }

-- a rounding is at most 1 / 2 from what is rounded
pub within_half : {r a : ℤ} {b : ℕ} → Half r a b → Within r a b 1 2
within_half {r} {a} {b} h = record { within = omega (arith, h.half, abs_mul (pos 2) (r *ℤ pos b -ℤ a)) }

module _ {c n : ℤ} {d E S : ℕ} (w : Within c n d E S) where
  pub within_weaken : (F R : ℕ) → 0 < S → E * R ≤ F * S → Within c n d F R
  within_weaken F R s l = record { within = le_of_mul-le-mul_left (core (nat_abs (c *ℤ pos d -ℤ n)) w.within) s }
    where
      core : (u : ℕ) → u * S ≤ E * d → S * (u * R) ≤ S * (F * d)
      core u h = omega (arith, mul-le-mul_right R h, mul-le-mul_right d l)

  -- the same value as another fraction
  pub within_same : (m : ℤ) (f : ℕ) → 0 < d → m *ℤ pos d ≡ n *ℤ pos f → Within c m f E S
  within_same m f h e =
      record { within = le_of_mul-le-mul_left (core (nat_abs (c *ℤ pos f -ℤ m)) (nat_abs (c *ℤ pos d -ℤ n)) same w.within) h }
    where
      same : nat_abs (c *ℤ pos f -ℤ m) * d ≡ nat_abs (c *ℤ pos d -ℤ n) * f
      same =
          let C = is_parts c in let M = is_parts m in let N = is_parts n in
          let q : (c *ℤ pos f -ℤ m) *ℤ pos d ≡ c *ℤ pos (f * d) -ℤ m *ℤ pos d =
          is_eq (is_scale d (is_minus (is_scale f C) M)) (is_minus (is_scale (f * d) C) (is_scale d M)) (omega arith) in
          let r : (c *ℤ pos d -ℤ n) *ℤ pos f ≡ c *ℤ pos (f * d) -ℤ n *ℤ pos f =
          is_eq (is_scale f (is_minus (is_scale d C) N)) (is_minus (is_scale (f * d) C) (is_scale f N)) (omega arith) in
          let s = ap (λ (x : ℤ). nat_abs (c *ℤ pos (f * d) -ℤ x)) e in
          omega (arith, abs_mul (c *ℤ pos f -ℤ m) (pos d), abs_mul (c *ℤ pos d -ℤ n) (pos f), ap nat_abs q, ap nat_abs r)

      core : (y u : ℕ) → y * d ≡ u * f → u * S ≤ E * d → d * (y * S) ≤ d * (E * f)
      core y u q k = omega (arith, mul-le-mul_right f k, ap (λ (x : ℕ). x * S) q)

  -- another value, at most F / S from the first
  pub within_moved : (m : ℤ) (F : ℕ) → nat_abs (n -ℤ m) * S ≤ F * d → Within c m d (E + F) S
  within_moved m F k =
      let C = is_parts c in let N = is_parts n in let M = is_parts m in
      let t = triangle 1 (c *ℤ pos d -ℤ m) (c *ℤ pos d -ℤ n) (n -ℤ m)
      (is_eq (is_scale 1 (is_minus (is_scale d C) M)) (is_add (is_minus (is_scale d C) N) (is_minus N M)) (omega arith)) in
      record { within = core (nat_abs (c *ℤ pos d -ℤ m)) (nat_abs (c *ℤ pos d -ℤ n)) (nat_abs (n -ℤ m)) t w.within k }
    where
      core : (y u v : ℕ) → y * 1 ≤ u + v → u * S ≤ E * d → v * S ≤ F * d → y * S ≤ (E + F) * d
      core y u v t a b = omega (arith, mul-le-mul_right S t)

  -- both raised to 0 where they are below it, which brings them no further apart
  pub within_raised : Within (raised c) (raised n) d E S
  within_raised = record { within = le_trans (mul-le-mul_right S closer) w.within }
    where
      sides : (c n : ℤ) (k : ℕ) → (up c * d + down n ≤ down c * d + up n + k) × (down c * d + up n ≤ up c * d + down n + k) → (up c * d ≤ up n + k) × (up n ≤ up c * d + k)
      sides (pos p) (pos q) k h = omega arith
      sides (pos p) (negsuc q) k h = omega arith
      sides (negsuc p) (pos q) k h = omega arith
      sides (negsuc p) (negsuc q) k h = omega arith

      closer : nat_abs (raised c *ℤ pos d -ℤ raised n) ≤ nat_abs (c *ℤ pos d -ℤ n)
      closer =
          let k = nat_abs (c *ℤ pos d -ℤ n) in
          let h = sides c n k (of_abs_le k (is_minus (is_scale d (is_parts c)) (is_parts n)) (le_refl k)) in
          abs_le k (is_minus (is_scale d (is_nat (up c))) (is_nat (up n))) (omega arith) (omega arith)

  -- the exact value is no larger than the whole number and the distance
  pub within_size : (B X : ℕ) → 0 < S → nat_abs c ≤ B → B * S + E ≤ X * S → nat_abs n ≤ X * d
  within_size B X s b l =
      let C = is_parts c in let N = is_parts n in let u = c *ℤ pos d -ℤ n in
      let t = triangle 1 n (c *ℤ pos d) (neg_ℤ u) (is_eq (is_scale 1 N) (is_minus (is_scale d C) (is_minus (is_scale d C) N)) (omega arith)) in
      le_of_mul-le-mul_left (core (nat_abs n) (nat_abs c) (nat_abs u) (omega (arith, t, abs_mul c (pos d), abs_neg u)) b w.within) s
    where
      core : (y a u : ℕ) → y ≤ a * d + u → a ≤ B → u * S ≤ E * d → S * y ≤ S * (X * d)
      core y a u t h k = omega (arith, mul-le-mul_left S t, mul-le-mul_right (d * S) h, mul-le-mul_right d l)

  -- a whole number more
  pub within_add : (a : ℤ) → Within (a +ℤ c) (a *ℤ pos d +ℤ n) d E S
  within_add a =
      let A = is_parts a in let C = is_parts c in let N = is_parts n in
      let same : (a +ℤ c) *ℤ pos d -ℤ (a *ℤ pos d +ℤ n) ≡ c *ℤ pos d -ℤ n =
      is_eq (is_minus (is_scale d (is_add A C)) (is_add (is_scale d A) N)) (is_minus (is_scale d C) N) (omega arith) in
      record { within = rw same w.within }

  pub within_scale : {t : ℕ} (B : ℕ) → t ≤ B → Within (c *ℤ pos t) (n *ℤ pos t) d (E * B) S
  within_scale {t} B l =
      let C = is_parts c in let N = is_parts n in let u = c *ℤ pos d -ℤ n in
      let same : c *ℤ pos t *ℤ pos d -ℤ n *ℤ pos t ≡ u *ℤ pos t =
      is_eq (is_minus (is_scale d (is_scale t C)) (is_scale t N)) (is_scale t (is_minus (is_scale d C) N)) (omega arith) in
      record { within = rw (same, abs_mul u (pos t)) (core (nat_abs u) w.within) }
    where
      core : (u : ℕ) → u * S ≤ E * d → u * t * S ≤ E * B * d
      core u k = omega (arith, mul-le-mul_right t k, mul-le-mul_left (E * d) l)

  -- a rounding of c / b
  pub within_round : {r : ℤ} {b : ℕ} → Half r c b → Within r n (d * b) (2 * E + b * S) (2 * b * S)
  within_round {r} {b} h =
      let R = is_parts r in let C = is_parts c in let N = is_parts n in
      let u = c *ℤ pos d -ℤ n in let q = pos 2 *ℤ (r *ℤ pos b -ℤ c) in let y = r *ℤ pos (d * b) -ℤ n in
      let t = triangle 2 y (q *ℤ pos d) (u *ℤ pos 2)
      (is_eq (is_scale 2 (is_minus (is_scale (d * b) R) N))
      (is_add (is_scale d (is_mul (is_nat 2) (is_minus (is_scale b R) C))) (is_scale 2 (is_minus (is_scale d C) N))) (omega arith)) in
      record { within = core b (nat_abs y) (nat_abs q) (nat_abs u) (omega (arith, t, abs_mul q (pos d), abs_mul u (pos 2))) h.half w.within }
    where
      core : (b y q u : ℕ) → y * 2 ≤ q * d + u * 2 → q ≤ b → u * S ≤ E * d → y * (2 * b * S) ≤ (2 * E + b * S) * (d * b)
      core b y q u t k l = omega (arith, mul-le-mul_right (b * S) t, mul-le-mul_right (d * b * S) k, mul-le-mul_right (2 * b) l)

-- a rounded step: what is E / S off is at most F / R off once it is divided by b and rounded, where the numbers say so
pub within_near : {c n : ℤ} {d E S F R : ℕ} → Within c n d E S → {b : ℕ} → 0 < b → 0 < S → (2 * E + b * S) * R ≤ F * (2 * b * S)
    → Within (nearest c b) n (d * b) F R
within_near {c} {F} {R} w {b} h s l = within_weaken (within_round w (near_half c b h)) F R (mul-pos (omega arith) s) l

-- ---- two values
module _ {a b n k : ℤ} {d f E F S : ℕ} (w : Within a n d E S) (x : Within b k f F S) where
  parts : (y : ℕ) → y * 1 ≤ nat_abs (a *ℤ pos d -ℤ n) * f + nat_abs (b *ℤ pos f -ℤ k) * d → y * S ≤ (E + F) * (d * f)
  parts y t = core (nat_abs (a *ℤ pos d -ℤ n)) (nat_abs (b *ℤ pos f -ℤ k)) t w.within x.within
    where
      core : (u v : ℕ) → y * 1 ≤ u * f + v * d → u * S ≤ E * d → v * S ≤ F * f → y * S ≤ (E + F) * (d * f)
      core u v t p q = omega (arith, mul-le-mul_right S t, mul-le-mul_right f p, mul-le-mul_right d q)

  pub within_sum : Within (a +ℤ b) (n *ℤ pos f +ℤ k *ℤ pos d) (d * f) (E + F) S
  within_sum =
      let A = is_parts a in let B = is_parts b in let N = is_parts n in let K = is_parts k in
      let u = a *ℤ pos d -ℤ n in let v = b *ℤ pos f -ℤ k in let y = (a +ℤ b) *ℤ pos (d * f) -ℤ (n *ℤ pos f +ℤ k *ℤ pos d) in
      let t = triangle 1 y (u *ℤ pos f) (v *ℤ pos d)
      (is_eq (is_scale 1 (is_minus (is_scale (d * f) (is_add A B)) (is_add (is_scale f N) (is_scale d K))))
      (is_add (is_scale f (is_minus (is_scale d A) N)) (is_scale d (is_minus (is_scale f B) K))) (omega arith)) in
      record { within = parts (nat_abs y) (omega (arith, t, abs_mul u (pos f), abs_mul v (pos d))) }

  pub within_difference : Within (a -ℤ b) (n *ℤ pos f -ℤ k *ℤ pos d) (d * f) (E + F) S
  within_difference =
      let A = is_parts a in let B = is_parts b in let N = is_parts n in let K = is_parts k in
      let u = a *ℤ pos d -ℤ n in let v = b *ℤ pos f -ℤ k in let y = (a -ℤ b) *ℤ pos (d * f) -ℤ (n *ℤ pos f -ℤ k *ℤ pos d) in
      let t = triangle 1 y (u *ℤ pos f) (neg_ℤ (v *ℤ pos d))
      (is_eq (is_scale 1 (is_minus (is_scale (d * f) (is_minus A B)) (is_minus (is_scale f N) (is_scale d K))))
      (is_minus (is_scale f (is_minus (is_scale d A) N)) (is_scale d (is_minus (is_scale f B) K))) (omega arith)) in
      record { within = parts (nat_abs y) (omega (arith, t, abs_neg (v *ℤ pos d), abs_mul u (pos f), abs_mul v (pos d))) }

  -- a product, where a bound H of the one factor is known as a whole number, and X of the other as an exact value
  pub within_product : (X H : ℕ) → nat_abs n ≤ X * d → nat_abs b ≤ H → Within (a *ℤ b) (n *ℤ k) (d * f) (H * E + X * F) S
  within_product X H l h =
      let A = is_parts a in let B = is_parts b in let N = is_parts n in let K = is_parts k in
      let u = a *ℤ pos d -ℤ n in let v = b *ℤ pos f -ℤ k in let y = a *ℤ b *ℤ pos (d * f) -ℤ n *ℤ k in
      let t = triangle 1 y (u *ℤ (b *ℤ pos f)) (n *ℤ v)
      (is_eq (is_scale 1 (is_minus (is_scale (d * f) (is_mul A B)) (is_mul N K)))
      (is_add (is_mul (is_minus (is_scale d A) N) (is_scale f B)) (is_mul N (is_minus (is_scale f B) K))) (omega arith)) in
      let sum = rw (abs_mul u (b *ℤ pos f), abs_mul b (pos f), abs_mul n v) at t in
      record { within = core (nat_abs y) (nat_abs b) (nat_abs n) (nat_abs u) (nat_abs v) sum h l w.within x.within }
    where
      core : (y b n u v : ℕ) → y * 1 ≤ u * (b * f) + n * v → b ≤ H → n ≤ X * d → u * S ≤ E * d → v * S ≤ F * f → y * S ≤ (H * E + X * F) * (d * f)
      core y b n u v t p q g h =
          omega (arith, mul-le-mul_right S t, mul-le-mul_right (f * u * S) p, mul-le-mul_right (v * S) q, mul-le-mul_left (H * f) g, mul-le-mul_left (X * d) h)
