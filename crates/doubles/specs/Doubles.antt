-- The host's answer of document 01: a reading of three doubles, an area of one, or a refusal; from an answer record and from its
-- bytes. The contracts of `doubles::answers` and `host::exports` cite these definitions. Assumes nothing.
use Rattle.std.specs.Prelude.{ℕ, suc, ◌^◌, Bool, true, false, ◌&&◌, cond, List, [], ◌∷◌, Result, Ok, Err, leb, ltb, eqb, Float, ℤ, pos, negsuc, nat_abs, length}
use Rattle.std.specs.Float.{binary64}
use Rattle.std.specs.Float.Ieee.{of_int}
use Rattle.std.specs.Float.Ieee.Exact.{HasValue}
use Rattle.layout.specs.declared.AnswerRecord.{AnswerRecord}
use Rattle.layout.specs.Records.{answer_at}
use Rattle.doubles.specs.declared.Doubles.{Doubles}
use Rattle.doubles.specs.declared.Refused.{Refused}

-- ---- whole numbers as doubles

abbrev pub double_of : ℤ → Float
double_of z = of_int binary64 z

-- the double's value is the whole number, nothing lost
abbrev pub Whole : Float → ℤ → Type 0
Whole v (pos n) = HasValue v false n 1
Whole v (negsuc n) = HasValue v true (suc n) 1

-- below 2^53 in size
abbrev pub below_limit : ℤ → Bool
below_limit z = ltb (nat_abs z) (2 ^ 53)

-- a refusal, by its number
abbrev pub refused : {T : Type 0} → ℕ → Result T Refused
refused number = Err (record { number = number })

-- ---- the paper's numbers of a host's answer

-- the refusal number, 0 if accepted
abbrev pub host_refusal : {T : Type 0} → Result T Refused → ℕ
host_refusal (Ok v) = 0
host_refusal (Err e) = e.number

-- the doubles: of a reading wet, dry and signal, of an area the area
abbrev pub reading_values : Result Doubles Refused → List Float
reading_values (Ok d) = d.wet ∷ d.dry ∷ d.signal ∷ []
reading_values (Err e) = []

abbrev pub area_values : Result Float Refused → List Float
area_values (Ok v) = v ∷ []
area_values (Err e) = []

-- ---- from an answer record

-- of a sample m is R, x the wet and y the dry value
abbrev pub doubles_of : AnswerRecord → Doubles
doubles_of a = record { wet = double_of a.x; dry = double_of a.y; signal = double_of (pos a.m) }

-- accepted, of the kind that was asked for, and x is below the limit
abbrev pub accepted_as : ℕ → AnswerRecord → Bool
accepted_as kind a = eqb a.refusal 0 && eqb a.kind kind && below_limit a.x

-- any other record is refused: with its own number, or where it has none with 11, malformed, since no sample, or no area, is
-- answered so
abbrev pub refused_with : AnswerRecord → ℕ
refused_with a = cond (eqb a.refusal 0) 11 a.refusal

-- of a sample, kind 6, y is below the limit as well
unfoldable pub host_sample : AnswerRecord → Result Doubles Refused
host_sample a = cond (accepted_as 6 a && below_limit a.y) (Ok (doubles_of a)) (refused (refused_with a))

-- of an area, kind 9
unfoldable pub host_area : AnswerRecord → Result Float Refused
host_area a = cond (accepted_as 9 a) (Ok (double_of a.x)) (refused (refused_with a))

-- each double of the answer is its number of the record exactly
abbrev pub ExactReading : Result Doubles Refused → AnswerRecord → Type 0
ExactReading (Ok d) a = Whole d.wet a.x × Whole d.dry a.y × Whole d.signal (pos a.m)
ExactReading (Err e) a = Unit

abbrev pub ExactArea : Result Float Refused → AnswerRecord → Type 0
ExactArea (Ok v) a = Whole v a.x
ExactArea (Err e) a = Unit

-- ---- its parts

-- a whole number below the limit as a double, or malformed
abbrev pub double_in : ℤ → Result Float Refused
double_in z = cond (below_limit z) (Ok (double_of z)) (refused 11)

-- the value x of an answer that is accepted, of the kind that was asked for
abbrev pub value_as : ℕ → AnswerRecord → Result Float Refused
value_as kind a = cond (accepted_as kind a) (Ok (double_of a.x)) (refused (refused_with a))

-- ---- from the bytes of a record

-- fewer than 24 are malformed, 11
abbrev pub record_in : List ℕ → Result AnswerRecord Refused
record_in b = cond (leb 24 (length b)) (Ok (answer_at b 0)) (refused 11)

unfoldable pub host_sample_in : List ℕ → Result Doubles Refused
host_sample_in b = cond (leb 24 (length b)) (host_sample (answer_at b 0)) (refused 11)

unfoldable pub host_area_in : List ℕ → Result Float Refused
host_area_in b = cond (leb 24 (length b)) (host_area (answer_at b 0)) (refused 11)
