-- What document 02's R-6 asks of `nearest`: the nearest whole number, a half going away from zero. There is one such number, and
-- `nearest` is it; so a number and its negative are rounded alike. Assumes nothing.
use Rattle.std.specs.Prelude.{◌≡◌, ℕ, ◌*◌, ◌≤◌, ◌<◌, ℤ, pos, neg_ℤ, nat_abs, ◌-ℤ◌, ◌*ℤ◌}
use Rattle.rounding.specs.Near.{nearest}

-- how far r is from a / b, in steps of 1 / (2b): at a half, b
abbrev pub distance : ℤ → ℤ → ℕ → ℕ
distance r a b = nat_abs (pos 2 *ℤ (r *ℤ pos b -ℤ a))

-- r is as near to a / b as a whole number can be; at a half, the one of the two that is further from zero than a / b is
pub record IsNearest (r a : ℤ) (b : ℕ) : Type 0 where
  pub half : distance r a b ≤ b
  pub away : distance r a b ≡ b → nat_abs a < nat_abs r * b

pub record AwayFromZero : Type 0 where
  pub is : (a : ℤ) (b : ℕ) → 0 < b → IsNearest (nearest a b) a b
  pub only : (r a : ℤ) (b : ℕ) → 0 < b → IsNearest r a b → r ≡ nearest a b
  -- near(−a / b) is −near(a / b)
  pub odd : (a : ℤ) (b : ℕ) → 0 < b → nearest (neg_ℤ a) b ≡ neg_ℤ (nearest a b)
