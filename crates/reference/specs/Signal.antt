-- The signals of document 01, "Reference signal and span": from raw, and against a reference. `nearest` is document 01's
-- near, with R-6's halves. Assumes nothing.
use Rattle.std.specs.Prelude.{ℕ, ℤ, pos, ◌+ℤ◌, ◌-ℤ◌, ◌*ℤ◌}
use Rattle.rounding.specs.Near.{nearest}

-- V = (raw − Q) S / 10^6
unfoldable pub signal_of : ℤ → ℤ → ℕ → ℤ
signal_of raw q s = nearest ((raw -ℤ q) *ℤ pos s) 1000000

-- R + V − V R / K, the share V R / K rounded
unfoldable pub against_of : ℤ → ℕ → ℕ → ℤ
against_of v r k = pos r +ℤ v -ℤ nearest (v *ℤ pos r) k
