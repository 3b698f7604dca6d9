-- Equation (11) of source document 004 in exact fractions: C = χ F(x P0 / (P χ)) T / T0, at an exact signal x, by document 01's
-- terms with no near and no refusal; below zero R-1's straight line stands for F. D = 100 P χ is that of the absolute reading.
-- Assumes nothing.
use Rattle.std.specs.Prelude.{◌*◌, ◌-◌, cond, pos}
use Rattle.curve.specs.declared.Sheet.{Sheet}
use Rattle.curve.specs.declared.Air.{Air}
use Rattle.curve.specs.Curve.{broadening_of}
use Rattle.exact.specs.Fraction.{Fraction, whole, plus, times, scaled, over, below_zero}

-- z: 10,130,000 x / D, which is x P0 / (P χ) with P0 = 101,300
unfoldable pub exact_reduced : Fraction → Air → Fraction
exact_reduced x a = over (scaled x 10130000) (broadening_of a)

-- the sheet's coefficients a1 = A1 / 10^9, a2 = A2 / 10^12, a3 = A3 / 10^15, in µmol/mol per mV, mV², mV³
abbrev pub a1_of : Sheet → Fraction
a1_of s = over (whole (pos s.a1)) 1000000000

abbrev pub a2_of : Sheet → Fraction
a2_of s = over (whole (pos s.a2)) 1000000000000

abbrev pub a3_of : Sheet → Fraction
a3_of s = over (whole (pos s.a3)) 1000000000000000

-- a signal in mV: 10^4 units of 100 nV make 1 mV
abbrev pub millivolts : Fraction → Fraction
millivolts z = over z 10000

-- F(Z) = a1 Z + a2 Z² + a3 Z³ in µmol/mol, Z in mV
abbrev pub polynomial : Sheet → Fraction → Fraction
polynomial s Z = plus (plus (times (a1_of s) Z) (times (a2_of s) (times Z Z))) (times (a3_of s) (times (times Z Z) Z))

-- the straight line a1 Z, which stands below zero (R-1)
abbrev pub straight_line : Sheet → Fraction → Fraction
straight_line s Z = times (a1_of s) Z

-- the sheet's curve of the exact signal x, at the Z that x is reduced to: the straight line where x is below zero, F from zero on
abbrev pub sheet_curve : Sheet → Fraction → Fraction → Fraction
sheet_curve s x Z = cond (below_zero x) (straight_line s Z) (polynomial s Z)

-- f: that curve at z, in pmol/mol, of which 10^6 make 1 µmol/mol. So a1 Z counts as A1 z / 10^7, a2 Z² as A2 z² / 10^14 and a3 Z³ as
-- A3 z³ / 10^21.
unfoldable pub exact_curve : Sheet → Fraction → Fraction → Fraction
exact_curve s x z = scaled (sheet_curve s x (millivolts z)) 1000000

-- g: f D / (100 P), which is f χ
abbrev pub exact_moist : Fraction → Air → Fraction
exact_moist f a = over (scaled f (broadening_of a)) (100 * a.p)

-- c: g T / T0
abbrev pub exact_warm : Sheet → Fraction → Air → Fraction
exact_warm s g a = over (scaled g a.t) s.t0

-- the exact wet value of the signal x
unfoldable pub exact_wet : Sheet → Fraction → Air → Fraction
exact_wet s x a = exact_warm s (exact_moist (exact_curve s x (exact_reduced x a)) a) a

-- the exact dry value of an exact wet one: c P / (P − e)
unfoldable pub exact_dry : Fraction → Air → Fraction
exact_dry c a = over (scaled c a.p) (a.p - a.e)
