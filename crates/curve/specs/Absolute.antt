-- The absolute reading of document 01, "Curve and absolute reading", with its refusals. Assumes nothing.
use Rattle.std.specs.Prelude.{ℕ, Bool, cond, ℤ, pos, neg_ℤ, Err, Ok}
use Rattle.std.specs.Int.Signed.{lt_z, le_z}
use Rattle.curve.specs.declared.Sheet.{Sheet}
use Rattle.curve.specs.declared.Air.{Air}
use Rattle.curve.specs.Reading.{Reading}
use Rattle.curve.specs.declared.OutOfRange.TheVariants.{BelowZero, OverRange}
use Rattle.curve.specs.Curve.{reduced_of, wet_of}

-- the paper's refusal number of a reading, 0 if accepted, and its value, 0 if refused
abbrev pub reading_refusal : Reading → ℕ
reading_refusal (Ok c) = 0
reading_refusal (Err BelowZero) = 7
reading_refusal (Err OverRange) = 8

abbrev pub reading_value : Reading → ℤ
reading_value (Ok c) = c
reading_value (Err BelowZero) = pos 0
reading_value (Err OverRange) = pos 0

-- the lowest signal that is read, −2,000,000 (R-1); the ground of refusal 7: V below it
abbrev pub lowest_signal : ℤ
lowest_signal = neg_ℤ (pos 2000000)

abbrev pub signal_low : ℤ → Bool
signal_low v = lt_z v lowest_signal

-- the four grounds of refusal 8: V above 150,000,000; V at or above K; z above 10^8; c above 3,000,000,000
abbrev pub signal_high : ℤ → Bool
signal_high v = lt_z (pos 150000000) v

abbrev pub signal_at_k : Sheet → ℤ → Bool
signal_at_k s v = le_z (pos s.k) v

abbrev pub reduced_high : ℤ → Bool
reduced_high z = lt_z (pos 100000000) z

abbrev pub wet_high : ℤ → Bool
wet_high c = lt_z (pos 3000000000) c

-- a reading that is refused with 8 where the ground holds
abbrev pub unless_over : Bool → Reading → Reading
unless_over refused r = cond refused (Err OverRange) r

-- the absolute reading of the signal V
unfoldable pub absolute_of : Sheet → ℤ → Air → Reading
absolute_of s v a =
    cond (signal_low v) (Err BelowZero)
    (unless_over (signal_high v)
    (unless_over (signal_at_k s v)
    (unless_over (reduced_high (reduced_of v a))
    (unless_over (wet_high (wet_of s v (reduced_of v a) a))
    (Ok (wet_of s v (reduced_of v a) a))))))
