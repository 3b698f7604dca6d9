-- No answer is lost on the way to the host: an accepted record of the kind that was asked for, its numbers below 2^53 in size, is handed
-- over with its doubles, and a refused one with its number. `proofs/Kept.antt` proves it. Assumes nothing.
use Rattle.std.specs.Prelude.{◌^◌, ◌<◌, ◌≡◌, nat_abs, Ok}
use Rattle.layout.specs.declared.AnswerRecord.{AnswerRecord}
use Rattle.doubles.specs.Doubles.{double_of, doubles_of, refused, host_sample, host_area}

abbrev pub ReadingKept : Type 0
ReadingKept =
    (a : AnswerRecord) → a.refusal ≡ 0 → a.kind ≡ 6 → nat_abs a.x < 2 ^ 53 → nat_abs a.y < 2 ^ 53
    → host_sample a ≡ Ok (doubles_of a)

abbrev pub AreaKept : Type 0
AreaKept = (a : AnswerRecord) → a.refusal ≡ 0 → a.kind ≡ 9 → nat_abs a.x < 2 ^ 53 → host_area a ≡ Ok (double_of a.x)

abbrev pub RefusalKept : Type 0
RefusalKept =
    (a : AnswerRecord) → 0 < a.refusal
    → (host_sample a ≡ refused a.refusal) × (host_area a ≡ refused a.refusal)
