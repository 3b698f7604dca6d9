-- The one search of the code, for both its uses: the numbers that it runs over, and the reading of each. The contracts of the two public
-- searches do not need it: they cite `Search.antt` alone. Assumes nothing.
use Rattle.std.specs.Prelude.{ℕ, ◌≤◌, pos, nat_abs, ◌-ℤ◌, ◌≤ℤ◌}
use Rattle.curve.specs.declared.Sheet.{Sheet}
use Rattle.curve.specs.declared.Air.{Air}
use Rattle.curve.specs.Reading.{Reading}
use Rattle.curve.specs.Absolute.{absolute_of}
use Rattle.reference.specs.declared.Sought.{Sought}
use Rattle.reference.specs.declared.Sought.TheVariants.{Signal, Span}
use Rattle.reference.specs.Search.{reading_under}

-- the reading of the signal n, or of raw under the span n
abbrev pub sought_reading : Sheet → Air → Sought → ℕ → Reading
sought_reading s a Signal n = absolute_of s (pos n) a
sought_reading s a (Span raw q) n = reading_under s raw q a n

-- n is within its limits, and raw within its own and above the zero
abbrev pub SoughtOk : Sought → ℕ → Type 0
SoughtOk Signal n = n ≤ 150000000
SoughtOk (Span raw q) n = (nat_abs raw ≤ 150000000) × (nat_abs q ≤ 20000000) × (pos 1 ≤ℤ (raw -ℤ q)) × (n ≤ 2000000)
