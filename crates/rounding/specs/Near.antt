-- What the contract of `rounding::near` cites: the nearest whole number, document 01's `near(a/b)`, with the halves of document 02's R-6.
-- Assumes nothing.
use Rattle.std.specs.Prelude.{ℕ, suc, ◌+◌, ◌*◌, ◌/◌, ℤ, pos, negsuc, neg_ℤ}

-- of a size m: the nearest whole number to m / b, b above 0, a half going up, which is away from zero: m / b + 1/2 rounded down
abbrev pub nearest_size : ℕ → ℕ → ℕ
nearest_size m b = (2 * m + b) / (2 * b)

-- the nearest whole number to a / b, b above 0, a half going away from zero: the size is rounded, and below zero its negative is taken;
-- `negsuc n` is −(n + 1)
unfoldable pub nearest : ℤ → ℕ → ℤ
nearest (pos n) b = pos (nearest_size n b)
nearest (negsuc n) b = neg_ℤ (pos (nearest_size (suc n) b))
