-- The searches of document 01, "Reference signal and span", by what they find. Assumes nothing.
use Rattle.std.specs.Prelude.{ℕ, zero, suc, Bool, false, cond, ℤ, pos, Err, None, Ok, Option, Some}
use Rattle.std.specs.Int.Signed.{le_z}
use Rattle.curve.specs.declared.Sheet.{Sheet}
use Rattle.curve.specs.declared.Air.{Air}
use Rattle.curve.specs.Reading.{Reading}
use Rattle.curve.specs.Absolute.{absolute_of}
use Rattle.reference.specs.Signal.{signal_of}

-- the paper's refusal number of what a search found, 0 if anything: 9 for a reference signal, 5 for a span; and its value
abbrev pub reference_refusal : Option ℕ → ℕ
reference_refusal (Some r) = 0
reference_refusal None = 9

abbrev pub span_refusal : Option ℕ → ℕ
span_refusal (Some s) = 0
span_refusal None = 5

abbrev pub found_value : Option ℕ → ℕ
found_value (Some n) = n
found_value None = 0

-- the first of n, n + 1, .. , count numbers in all, at which the test holds
unfoldable pub least : (ℕ → Bool) → ℕ → ℕ → Option ℕ
least test n zero = None
least test n (suc count) = cond (test n) (Some n) (least test (suc n) count)

-- accepted, and at least the cylinder
abbrev pub serves : ℕ → Reading → Bool
serves cylinder (Ok c) = le_z (pos cylinder) c
serves cylinder (Err why) = false

-- the reference signal R of the cylinder: the least V from 0 to 150,000,000 whose absolute reading serves. The air has the
-- sample's P and T, and the cylinder's vapour pressure er for e.
unfoldable pub reference_of : Sheet → ℕ → Air → Option ℕ
reference_of s cylinder a = least (λ (v : ℕ). serves cylinder (absolute_of s (pos v) a)) 0 150000001

-- the absolute reading of raw under the zero Q and the span S
abbrev pub reading_under : Sheet → ℤ → ℤ → Air → ℕ → Reading
reading_under s raw q a span = absolute_of s (signal_of raw q span) a

-- the span setting: the least S from 500,000 to 2,000,000 whose reading of raw serves, unless 499,999 would serve as well
unfoldable pub span_of : Sheet → ℤ → ℤ → ℕ → Air → Option ℕ
span_of s raw q cylinder a =
    cond (serves cylinder (reading_under s raw q a 499999)) None
    (least (λ (span : ℕ). serves cylinder (reading_under s raw q a span)) 500000 1500001)
