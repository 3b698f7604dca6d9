-- Whole numbers below 2^53 in size are doubles exactly, and the numbers of a sample's record, or an area's, are such. Assumes
-- nothing.
use Prim.Native.Nat.{ℕ, suc, ◌^◌, ◌<◌}
use native.Mathlib.Omega.{arith}
use mathlib.Core.Bool.{Bool, true, false, ◌&&◌, cond}
use mathlib.Core.List.{List}
use mathlib.Core.Path.{◌≡◌, refl}
use borrow.Author.Tests.{ltb-true}
use lib.Dec.{leb, eqb}
use lib.IntN.{ℤ, pos, negsuc, nat_abs}
use lib.ListN.{length}
use lib.Ieee.{Float, binary64, of_int}
use lib.Ieee.Back.{round_whole}
use Rattle.std.proofs.Common.{Result, Ok, Err}
use Rattle.curve.proofs.Within.{both}
use Rattle.layout.specs.declared.AnswerRecord.{AnswerRecord}
use Rattle.layout.specs.Records.{answer_at}
use Rattle.doubles.specs.declared.Doubles.{Doubles}
use Rattle.doubles.specs.declared.Refused.{Refused}
use Rattle.doubles.specs.Doubles.{double_of, Whole, below_limit, doubles_of, refused, accepted_as, refused_with, double_in, value_as, host_sample, host_area, ExactReading, ExactArea, record_in}

pub below : (z : ℤ) → below_limit z ≡ true → nat_abs z < 2 ^ 53
below z e = omega (arith, ltb-true (nat_abs z) _ e)

-- what a cast gives
pub is_whole : (z : ℤ) → nat_abs z < 2 ^ 53 → Whole (double_of z) z
unfolding of_int
is_whole (pos n) h = round_whole binary64 false n (omega arith)
is_whole (negsuc n) h = round_whole binary64 true (suc n) (omega arith)

pub x_limit : (kind : ℕ) (a : AnswerRecord) → accepted_as kind a ≡ true → below_limit a.x ≡ true
x_limit kind a e = (both (eqb a.refusal 0 && eqb a.kind kind) (below_limit a.x) e).1

pub sample_limits : (a : AnswerRecord) → (accepted_as 6 a && below_limit a.y) ≡ true → (below_limit a.x ≡ true) × (below_limit a.y ≡ true)
sample_limits a e = let w = both (accepted_as 6 a) (below_limit a.y) e in (x_limit 6 a w.0, w.1)

-- ---- the answer, and that its doubles are exact

pub exact_area : (a : AnswerRecord) → ExactArea (host_area a) a
unfolding host_area
exact_area a = go (accepted_as 9 a) refl
  where
    go : (s : Bool) → accepted_as 9 a ≡ s → ExactArea (cond s (Ok (double_of a.x)) (refused (refused_with a))) a
    go true e = is_whole a.x (below a.x (x_limit 9 a e))
    go false e = tt

pub exact_reading : (a : AnswerRecord) → a.m < 4294967296 → ExactReading (host_sample a) a
unfolding host_sample
exact_reading a m = go (accepted_as 6 a && below_limit a.y) refl
  where
    go : (s : Bool) → (accepted_as 6 a && below_limit a.y) ≡ s → ExactReading (cond s (Ok (doubles_of a)) (refused (refused_with a))) a
    go true e = let w = sample_limits a e in (is_whole a.x (below a.x w.0), is_whole a.y (below a.y w.1), is_whole (pos a.m) (omega arith))
    go false e = tt

-- a reading of a wet and a dry value, where there are both
abbrev pub reading : Result Float Refused → Result Float Refused → Float → Result Doubles Refused
reading (Ok wet) (Ok dry) signal = Ok (record { wet = wet; dry = dry; signal = signal })
reading (Ok wet) (Err e) signal = Err e
reading (Err e) dry signal = Err e

-- an accepted record has no number of its own
no_number : (kind : ℕ) (a : AnswerRecord) → accepted_as kind a ≡ true → refused_with a ≡ 11
no_number kind a e =
    let w = both (eqb a.refusal 0 && eqb a.kind kind) (below_limit a.x) e in
    let r : eqb a.refusal 0 ≡ true = (both (eqb a.refusal 0) (eqb a.kind kind) w.0).0 in
    rw r

-- a sample's answer by its two values
pub by_values : (a : AnswerRecord) (wet dry : Result Float Refused) → wet ≡ value_as 6 a → dry ≡ double_in a.y
    → reading wet dry (double_of (pos a.m)) ≡ host_sample a
unfolding host_sample
by_values a wet dry v d = rw (v, d) (go (accepted_as 6 a) (below_limit a.y) refl)
  where
    go : (s t : Bool) → accepted_as 6 a ≡ s
        → reading (cond s (Ok (double_of a.x)) (refused (refused_with a))) (cond t (Ok (double_of a.y)) (refused 11)) (double_of (pos a.m))
        ≡ cond (s && t) (Ok (doubles_of a)) (refused (refused_with a))
    go true true e = refl
    go true false e = rw (no_number 6 a e)
    go false t e = refl

-- what is answered of a record, or that it is malformed
abbrev pub answered : {T : Type 0} → (AnswerRecord → Result T Refused) → Result AnswerRecord Refused → Result T Refused
answered f (Ok a) = f a
answered f (Err e) = Err e

-- of the record that stands in the bytes
pub by_record : {T : Type 0} (f : AnswerRecord → Result T Refused) (b : List ℕ) (r : Result AnswerRecord Refused) → r ≡ record_in b
    → answered f r ≡ cond (leb 24 (length b)) (f (answer_at b 0)) (refused 11)
by_record f b r e = rw e (go (leb 24 (length b)))
  where
    go : (s : Bool) → answered f (cond s (Ok (answer_at b 0)) (refused 11)) ≡ cond s (f (answer_at b 0)) (refused 11)
    go true = refl
    go false = refl
