-- What the host gets of every event of every file, from the bytes of a run's output: no accepted sample and no accepted area is lost on
-- the way, each double is exactly the line's number, and a refusal has the line's number. `proofs/Every.antt` proves it. Assumes nothing.
use Rattle.std.specs.Prelude.{Result, Ok, Float, ℕ, ◌*◌, ◌≤◌, true, List, ◌≡◌, ℤ, pos, length, take, drop}
use Rattle.fields.specs.Fields.{AreBytes}
use Rattle.rules.specs.declared.Answer.{Answer}
use Rattle.format.specs.Header.{event_count, well_formed}
use Rattle.engine.specs.Transcript.{Line}
use Rattle.forms.specs.declared.Form.{Form}
use Rattle.answers.specs.Run.{FillsAs}
use Rattle.doubles.specs.declared.Doubles.{Doubles}
use Rattle.doubles.specs.declared.Refused.{Refused}
use Rattle.doubles.specs.Doubles.{double_of, refused, Whole, host_sample_in, host_area_in}
use Rattle.claims.specs.Claim.{LineIs}

-- a reading of three doubles: wet, dry and signal, each the whole number exactly. Host signal means R
pub record ReadingGiven (r : ℕ) (wet dry : ℤ) (got : Result Doubles Refused) : Type 0 where
  pub is : got ≡ Ok (record { wet = double_of wet; dry = double_of dry; signal = double_of (pos r) })
  pub wet_exact : Whole (double_of wet) wet
  pub dry_exact : Whole (double_of dry) dry
  pub signal_exact : Whole (double_of (pos r)) (pos r)

-- an area of one double, the whole number exactly
pub record AreaGiven (area : ℤ) (got : Result Float Refused) : Type 0 where
  pub is : got ≡ Ok (double_of area)
  pub exact : Whole (double_of area) area

-- what the host gets of an answer that it asks for as a sample's: a reading; the refusal's number; or, of any other event's, 11
abbrev pub GivenAsSample : Answer → Result Doubles Refused → Type 0
GivenAsSample (Answer.Reading r wet dry) got = ReadingGiven r wet dry got
GivenAsSample (Answer.Refused number) got = got ≡ refused number
GivenAsSample Answer.Done got = got ≡ refused 11
GivenAsSample (Answer.Zeroed q) got = got ≡ refused 11
GivenAsSample (Answer.Spanned s) got = got ≡ refused 11
GivenAsSample (Answer.Area n area) got = got ≡ refused 11

-- and as an area's
abbrev pub GivenAsArea : Answer → Result Float Refused → Type 0
GivenAsArea (Answer.Area n area) got = AreaGiven area got
GivenAsArea (Answer.Refused number) got = got ≡ refused number
GivenAsArea Answer.Done got = got ≡ refused 11
GivenAsArea (Answer.Zeroed q) got = got ≡ refused 11
GivenAsArea (Answer.Spanned s) got = got ≡ refused 11
GivenAsArea (Answer.Reading r wet dry) got = got ≡ refused 11

-- of every file of well-formed bytes, every output that is long enough and every line of the file's transcript: what the host gets from
-- the bytes that a run leaves there, lent from byte 24 i on, n of them and at least 24, goes by the line's answer
abbrev pub EveryLine : {T : Type 0} → (List ℕ → Result T Refused) → (Answer → Result T Refused → Type 0) → Type 0
EveryLine hostIn given =
    (file old : List ℕ) → AreBytes file → well_formed file ≡ true → 24 * event_count file ≤ length old
    → (status written : ℕ) (out : List ℕ) → FillsAs Form.Records file old status written out
    → (i : ℕ) (line : Line) → LineIs file i line → (n : ℕ) → 24 ≤ n
    → given line.answer (hostIn (take n (drop (24 * i) out)))

abbrev pub EveryReading : Type 0
EveryReading = EveryLine host_sample_in GivenAsSample

abbrev pub EveryArea : Type 0
EveryArea = EveryLine host_area_in GivenAsArea
