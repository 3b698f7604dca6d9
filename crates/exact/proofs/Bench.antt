-- Readings of document 01's bench that the exact equation gives to the unit: the exact definitions are those of the bench's sheet,
-- in its units. Assumes nothing.
use Prim.Native.Nat.{ℕ, ◌*◌}
use lib.Dec.{T, ltb, leb, ltb→lt, leb→le}
use lib.IntN.{ℤ, pos, negsuc, nat_abs, ◌-ℤ◌, ◌*ℤ◌}
use Rattle.curve.specs.Bench.{bench_sheet, bench_air, damp_air}
use Rattle.exact.specs.Fraction.{Fraction, whole, LiesWithin}
use Rattle.exact.specs.Equation.{exact_reduced, exact_curve, exact_wet, exact_dry}
use Rattle.exact.specs.Signal.{exact_signal, exact_against}

computed : (c : ℤ) (bound : ℕ) (x : Fraction) → T (ltb 0 x.den) → T (leb (nat_abs (c *ℤ pos x.den -ℤ x.num)) (bound * x.den)) → LiesWithin c bound x
computed c bound x l d = record { lower = ltb→lt _ _ l; distance = leb→le _ _ d }

-- V 40,000,000 is 1,000,000,000 exactly, and so is V 32,000,000 at P 81,040
pub v_40000000 : LiesWithin (pos 1000000000) 0 (exact_wet bench_sheet (whole (pos 40000000)) bench_air)
unfolding exact_wet exact_curve exact_reduced
v_40000000 = computed _ _ _ tt tt

pub p_81040 : LiesWithin (pos 1000000000) 0 (exact_wet bench_sheet (whole (pos 32000000)) (record { p = 81040; t = 29815; e = 0 }))
unfolding exact_wet exact_curve exact_reduced
p_81040 = computed _ _ _ tt tt

-- against the reference 1,000,000,000, R 40,000,000
pub raw_10000000 : LiesWithin (pos 1388160000) 0 (exact_wet bench_sheet (exact_against (exact_signal (pos 10000000) (pos 0) 1000000) 40000000 200000000) bench_air)
unfolding exact_wet exact_curve exact_reduced exact_signal exact_against
raw_10000000 = computed _ _ _ tt tt

pub raw_minus_10000000 : LiesWithin (pos 695040000) 0
    (exact_wet bench_sheet (exact_against (exact_signal (negsuc 9999999) (pos 0) 1000000) 40000000 200000000) bench_air)
unfolding exact_wet exact_curve exact_reduced exact_signal exact_against
raw_minus_10000000 = computed _ _ _ tt tt

-- P 100,000, e 2,000, V 40,456,000: wet and dry, to the unit
pub e_2000_wet : LiesWithin (pos 1034193379) 1 (exact_wet bench_sheet (whole (pos 40456000)) damp_air)
unfolding exact_wet exact_curve exact_reduced
e_2000_wet = computed _ _ _ tt tt

pub e_2000_dry : LiesWithin (pos 1055299366) 1 (exact_dry (exact_wet bench_sheet (whole (pos 40456000)) damp_air) damp_air)
unfolding exact_dry exact_wet exact_curve exact_reduced
e_2000_dry = computed _ _ _ tt tt

-- below zero the line: V −1 is −15 exactly. Raw −1 under the span 500,000 is an exact signal of −1/2, worth −7.5, where the rounded signal
-- is −1
pub v_minus_1 : LiesWithin (negsuc 14) 0 (exact_wet bench_sheet (whole (negsuc 0)) bench_air)
unfolding exact_wet exact_curve exact_reduced
v_minus_1 = computed _ _ _ tt tt

pub v_minus_half : LiesWithin (negsuc 14) 8 (exact_wet bench_sheet (exact_signal (negsuc 0) (pos 0) 500000) bench_air)
unfolding exact_wet exact_curve exact_reduced exact_signal
v_minus_half = computed _ _ _ tt tt

-- at the seam: raw −1 under the span 1,000,001 and against R 1 is an exact signal just below 0, where the rounded signal is 0
pub seam : LiesWithin (pos 0) 1 (exact_wet bench_sheet (exact_against (exact_signal (negsuc 0) (pos 0) 1000001) 1 200000000) bench_air)
unfolding exact_wet exact_curve exact_reduced exact_signal exact_against
seam = computed _ _ _ tt tt
