-- An answer as a line of text, in ASCII: document 01's printed line. The contracts of `text` cite these definitions, and so does
-- whoever speaks of what a session prints. Assumes nothing.
use Rattle.std.specs.Prelude.{ℕ, zero, suc, ◌+◌, ◌/◌, ◌%◌, cond, List, [], ◌∷◌, ◌++◌, ltb, ℤ, pos, negsuc}
use Rattle.layout.specs.declared.AnswerRecord.{AnswerRecord}

-- n in decimal with no leading zeros, in at most k digits
abbrev pub decimal_in : ℕ → ℕ → List ℕ
decimal_in zero n = []
decimal_in (suc k) n = cond (ltb n 10) ((48 + n) ∷ []) (decimal_in k (n / 10) ++ ((48 + n % 10) ∷ []))

-- 20 digits hold every number of 64 bits
unfoldable pub decimal : ℕ → List ℕ
decimal n = decimal_in 20 n

-- a signed number, with a minus sign below 0
unfoldable pub signed_decimal : ℤ → List ℕ
signed_decimal (pos n) = decimal n
signed_decimal (negsuc n) = 45 ∷ decimal (suc n)

-- ordinal, kind, refusal, m, x, y, single spaces, and a line feed
unfoldable pub line_of : ℕ → AnswerRecord → List ℕ
line_of ordinal a =
    decimal ordinal ++ (32 ∷ decimal a.kind) ++ (32 ∷ decimal a.refusal) ++ (32 ∷ decimal a.m)
    ++ (32 ∷ signed_decimal a.x) ++ (32 ∷ signed_decimal a.y) ++ (10 ∷ [])

-- the room that holds any line: ordinal and m have at most 10 digits each, kind and refusal 3, x and y 20 with the sign; five spaces
-- and a line feed
abbrev pub line_room : ℕ
line_room = 72
