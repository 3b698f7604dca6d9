-- What a span setting tells: the S that it sets is within its limits, and a refusal is 4, 5 or 6. Assumes nothing.
use Rattle.std.specs.Prelude.{Err, None, Ok, Option, Some, ok_or}
use mathlib.Core.Bool.{Bool, true, false, cond}
use mathlib.Core.Path.{◌≡◌, refl}
use Prim.Native.Nat.{ℕ, ◌≤◌}
use native.Mathlib.Omega.{arith}
use lib.IntN.{ℤ}
use Rattle.curve.specs.declared.Sheet.{Sheet}
use Rattle.curve.specs.Limits.{within}
use Rattle.reference.specs.Search.{span_of}
use Rattle.reference.proofs.Bracket.{span_range}
use Rattle.sampling.specs.declared.Measurement.{Measurement}
use Rattle.refusals.specs.declared.Refusal.{Refusal}
use Rattle.refusals.specs.Numbers.{refusal_number}
use Rattle.sampling.specs.Sample.{air_of, input_within}
use Rattle.sampling.specs.Span.{Spanned, setting_of, spanned_on}

abbrev pub SpanTold : Spanned → Type 0
SpanTold (Ok s) = (500000 ≤ s) × (s ≤ 2000000)
SpanTold (Err why) = (4 ≤ refusal_number why) × (refusal_number why ≤ 6)

module _ (s : Sheet) (q : ℤ) (at : Measurement) (cylinder : ℕ) where
  abbrev searched : Option ℕ
  searched = span_of s at.raw q cylinder (air_of at)

  of_finding : (f : Option ℕ) → searched ≡ f → SpanTold (setting_of f)
  of_finding (Some n) e = span_range s at.raw q cylinder (air_of at) n e
  of_finding None e = (omega arith, omega arith)

  of_cylinder : (t : Bool) → SpanTold (cond t (setting_of searched) (Err Refusal.BadCylinder))
  of_cylinder true = of_finding searched refl
  of_cylinder false = (omega arith, omega arith)

  of_input : (t : Bool) → SpanTold (cond t (cond (within 1 3000000000 cylinder) (setting_of searched) (Err Refusal.BadCylinder)) (Err Refusal.BadInput))
  of_input true = of_cylinder (within 1 3000000000 cylinder)
  of_input false = (omega arith, omega arith)

  pub span_told : SpanTold (spanned_on s q at cylinder)
  unfolding spanned_on
  span_told = of_input (input_within at)

-- what was found, as the code makes a Result of it
pub setting_is : (f : Option ℕ) → ok_or f Refusal.NoSpan ≡ setting_of f
setting_is (Some n) = refl
setting_is None = refl
