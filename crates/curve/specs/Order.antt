-- Two laws of the reading, across zero: z has the sign of the signal V, so that R-1's line and cubic part at the same place for both;
-- and under one sheet and one air a higher signal never reads lower, refusals with 7 and 8 included. Assumes nothing.
use Rattle.std.specs.Prelude.{◌≡◌, ℤ, pos, ◌≤ℤ◌, Err, Ok}
use Rattle.std.specs.Int.Signed.{lt_z}
use Rattle.curve.specs.declared.Sheet.{Sheet}
use Rattle.curve.specs.declared.Air.{Air}
use Rattle.curve.specs.Reading.{Reading}
use Rattle.curve.specs.declared.OutOfRange.TheVariants.{BelowZero, OverRange}
use Rattle.curve.specs.Limits.{SheetOk, AirOk}
use Rattle.curve.specs.Curve.{reduced_of}
use Rattle.curve.specs.Absolute.{absolute_of}

-- in air within its limits z is below 0 exactly where V is, and above 0 exactly where V is
abbrev pub SameSign : Type 0
SameSign = (a : Air) → AirOk a → (v : ℤ) → (lt_z (reduced_of v a) (pos 0) ≡ lt_z v (pos 0)) × (lt_z (pos 0) (reduced_of v a) ≡ lt_z (pos 0) v)

-- q is not above r: refusal 7 comes first, then the values in their order, then refusal 8
pub data NotAbove : Reading → Reading → Type 0 where
  from_below : {r : Reading} → NotAbove (Err BelowZero) r
  values : {c d : ℤ} → c ≤ℤ d → NotAbove (Ok c) (Ok d)
  to_over : {q : Reading} → NotAbove q (Err OverRange)

-- under a sheet and in air within their limits the reading never falls as the signal rises
abbrev pub ReadingRises : Type 0
ReadingRises = (s : Sheet) (a : Air) → SheetOk s → AirOk a → (v w : ℤ) → v ≤ℤ w → NotAbove (absolute_of s v a) (absolute_of s w a)
