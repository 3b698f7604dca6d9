-- A span setting by document 01's rules, under a sheet and a zero: checks 6 and 4, and the search. Assumes nothing.
use Rattle.std.specs.Prelude.{ℕ, cond, ℤ, Ok, Err, Option, Some, None, Result}
use Rattle.curve.specs.declared.Sheet.{Sheet}
use Rattle.curve.specs.Limits.{within}
use Rattle.reference.specs.Search.{span_of}
use Rattle.sampling.specs.declared.Measurement.{Measurement}
use Rattle.refusals.specs.declared.Refusal.{Refusal}
use Rattle.refusals.specs.Numbers.{refusal_number}
use Rattle.sampling.specs.Sample.{air_of, input_within}

-- what a span setting gives: the S that it sets, or its refusal
abbrev pub Spanned : Type 0
Spanned = Result ℕ Refusal

-- the paper's refusal number of what a span setting gives, 0 if accepted, and the S that it sets, 0 if refused
abbrev pub spanned_refusal : Spanned → ℕ
spanned_refusal (Ok s) = 0
spanned_refusal (Err why) = refusal_number why

abbrev pub spanned_value : Spanned → ℕ
spanned_value (Ok s) = s
spanned_value (Err why) = 0

-- what was found: the S that it sets, or refusal 5
abbrev pub setting_of : Option ℕ → Spanned
setting_of (Some s) = Ok s
setting_of None = Err Refusal.NoSpan

-- the span of raw to a cylinder under a sheet and the zero Q: 6, then 4 (the cylinder from 1 to 3,000,000,000), then 5
unfoldable pub spanned_on : Sheet → ℤ → Measurement → ℕ → Spanned
spanned_on s q at cylinder =
    cond (input_within at)
    (cond (within 1 3000000000 cylinder) (setting_of (span_of s at.raw q cylinder (air_of at))) (Err Refusal.BadCylinder))
    (Err Refusal.BadInput)
