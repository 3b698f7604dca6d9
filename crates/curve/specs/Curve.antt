-- The rounded steps of document 01, "Curve and absolute reading", from a signal to its wet and dry value. Each step has the
-- name of what it stands for, and document 01's letter beside it. `nearest` is document 01's near, with R-6's halves. Assumes nothing.
use Rattle.std.specs.Prelude.{ℕ, ◌+◌, ◌*◌, ◌-◌, Bool, cond, ℤ, pos, ◌+ℤ◌, ◌*ℤ◌}
use Rattle.std.specs.Int.Signed.{lt_z}
use Rattle.rounding.specs.Near.{nearest}
use Rattle.curve.specs.declared.Sheet.{Sheet}
use Rattle.curve.specs.declared.Air.{Air}

-- D: 100 P + 57 e, which is 100 P χ
abbrev pub broadening_of : Air → ℕ
broadening_of a = 100 * a.p + 57 * a.e

-- z: 10,130,000 V / D, the signal reduced to P0 and dry air
unfoldable pub reduced_of : ℤ → Air → ℤ
reduced_of v a = nearest (v *ℤ pos 10130000) (broadening_of a)

-- h2: A2 + A3 z / 10^7
unfoldable pub slope2_of : Sheet → ℤ → ℤ
slope2_of s z = pos s.a2 +ℤ nearest (z *ℤ pos s.a3) 10000000

-- h1: A1 + h2 z / 10^7
unfoldable pub slope1_of : Sheet → ℤ → ℤ
slope1_of s z = pos s.a1 +ℤ nearest (z *ℤ slope2_of s z) 10000000

-- f of a signal from 0 on: z h1 / 10^7, the sheet's cubic
unfoldable pub cubic_of : Sheet → ℤ → ℤ
cubic_of s z = nearest (z *ℤ slope1_of s z) 10000000

-- f of a signal below 0 (R-1): z A1 / 10^7, the straight line a1 Z
unfoldable pub straight_of : Sheet → ℤ → ℤ
straight_of s z = nearest (z *ℤ pos s.a1) 10000000

-- V is below 0
abbrev pub signal_negative : ℤ → Bool
signal_negative v = lt_z v (pos 0)

-- f: the sheet's curve, by the sign of the signal V that is reduced to z
abbrev pub curve_of : Sheet → ℤ → ℤ → ℤ
curve_of s v z = cond (signal_negative v) (straight_of s z) (cubic_of s z)

-- g: f D / (100 P), which is f χ
unfoldable pub moist_of : ℤ → Air → ℤ
moist_of f a = nearest (f *ℤ pos (broadening_of a)) (100 * a.p)

-- c: g T / T0
unfoldable pub warm_of : Sheet → ℤ → Air → ℤ
warm_of s g a = nearest (g *ℤ pos a.t) s.t0

-- the wet value c of a signal V that is reduced to z
unfoldable pub wet_of : Sheet → ℤ → ℤ → Air → ℤ
wet_of s v z a = warm_of s (moist_of (curve_of s v z) a) a

-- the dry value of a wet one: c P / (P − e)
unfoldable pub dry_of : ℤ → Air → ℤ
dry_of c a = nearest (c *ℤ pos a.p) (a.p - a.e)
