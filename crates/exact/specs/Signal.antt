-- The exact signals of document 01, "Reference signal and span", with no near: from raw, and against a reference. Q, S and R are
-- whole numbers. Assumes nothing.
use Rattle.std.specs.Prelude.{ℕ, ℤ, pos, ◌-ℤ◌}
use Rattle.exact.specs.Fraction.{Fraction, whole, plus, minus, scaled, over}

-- (raw − Q) S / 10^6
unfoldable pub exact_signal : ℤ → ℤ → ℕ → Fraction
exact_signal raw q s = over (scaled (whole (raw -ℤ q)) s) 1000000

-- R + x − x R / K
unfoldable pub exact_against : Fraction → ℕ → ℕ → Fraction
exact_against x r k = minus (plus (whole (pos r)) x) (over (scaled x r) k)
