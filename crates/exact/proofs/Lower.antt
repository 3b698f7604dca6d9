-- The lower number of each exact value is above 0. Assumes nothing.
use Prim.Native.Nat.{ℕ, ◌*◌, ◌<◌}
use native.Mathlib.Nat.{mul-pos}
use native.Mathlib.Omega.{arith}
use mathlib.Core.Bool.{Bool, true, false, cond}
use lib.IntN.{ℤ}
use Rattle.curve.specs.declared.Sheet.{Sheet}
use Rattle.curve.specs.declared.Air.{Air}
use Rattle.curve.specs.Limits.{SheetOk, AirOk}
use Rattle.exact.specs.Fraction.{Fraction, scaled, below_zero}
use Rattle.exact.specs.Equation.{millivolts, polynomial, straight_line, exact_reduced, exact_curve, exact_wet, exact_dry}
use Rattle.exact.specs.Signal.{exact_signal, exact_against}
use Rattle.exact.proofs.Horner.{exact_slope2, exact_slope1, exact_horner}

pub horner_lower : (s : Sheet) (z : Fraction) → 0 < z.den → 0 < (exact_horner s z).den
unfolding exact_horner exact_slope1 exact_slope2
horner_lower s z l = mul-pos (mul-pos l (mul-pos (mul-pos l (mul-pos l (omega arith))) (omega arith))) (omega arith)

pub reduced_lower : (a : Air) → AirOk a → (x : Fraction) → 0 < x.den → 0 < (exact_reduced x a).den
unfolding exact_reduced
reduced_lower a ok x l = mul-pos l (omega (arith, ok.p_low))

curve_lower : (s : Sheet) (x z : Fraction) → 0 < z.den → 0 < (exact_curve s x z).den
unfolding exact_curve
curve_lower s x z l = by_sign (below_zero x)
  where
    u : 0 < z.den * 10000
    u = omega arith

    by_sign : (t : Bool) → 0 < (scaled (cond t (straight_line s (millivolts z)) (polynomial s (millivolts z))) 1000000).den
    by_sign true = mul-pos (omega arith) u
    by_sign false =
        let w = mul-pos u u in
        mul-pos (mul-pos (mul-pos (omega arith) u) (mul-pos (omega arith) w)) (mul-pos (omega arith) (mul-pos w u))

pub wet_lower : (s : Sheet) → SheetOk s → (a : Air) → AirOk a → (x : Fraction) → 0 < x.den → 0 < (exact_wet s x a).den
unfolding exact_wet
wet_lower s okS a okA x l =
    mul-pos (mul-pos (curve_lower s x (exact_reduced x a) (reduced_lower a okA x l)) (omega (arith, okA.p_low))) (omega (arith, okS.t0_low))

pub dry_lower : (a : Air) → AirOk a → (c : Fraction) → 0 < c.den → 0 < (exact_dry c a).den
unfolding exact_dry
dry_lower a ok c l = mul-pos l (omega (arith, ok.p_low, ok.e_high))

pub signal_lower : (raw q : ℤ) (span : ℕ) → 0 < (exact_signal raw q span).den
unfolding exact_signal
signal_lower raw q span = omega arith

pub against_lower : (x : Fraction) (r k : ℕ) → 0 < x.den → 0 < k → 0 < (exact_against x r k).den
unfolding exact_against
against_lower x r k l h = mul-pos (mul-pos (omega arith) l) (mul-pos l h)
