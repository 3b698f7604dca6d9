-- The number that the program's argument says, and the one that it takes. Assumes nothing.
use Rattle.std.specs.Prelude.{ℕ, ◌+◌, ◌*◌, ◌-◌, Bool, ◌&&◌, cond, List, [], ◌∷◌, Option, Some, None, leb, ltb}
use Rattle.curve.specs.Limits.{within}

-- a byte is a digit, 48 to 57 in ASCII, that may follow n: no number is above 999
unfoldable pub follows : ℕ → ℕ → Bool
follows n b = leb n 99 && within 48 57 b

-- n and the digits after it, the last counting least; none where a byte is no such digit
abbrev pub number_from : ℕ → List ℕ → Option ℕ
number_from n [] = Some n
number_from n (b ∷ s) = cond (follows n b) (number_from (10 * n + (b - 48)) s) None

-- 0 is no number of lines
abbrev pub above_0 : Option ℕ → Option ℕ
above_0 None = None
above_0 (Some n) = cond (ltb 0 n) (Some n) None

-- a word by itself; without a digit none
abbrev pub number_said : List ℕ → Option ℕ
number_said word = above_0 (number_from 0 word)

-- how many sample lines are wanted under a header line, by the count of arguments, the program's own name among them, and by the first after
-- it: 40 without one, and with more than one none
unfoldable pub chosen_of : ℕ → List ℕ → Option ℕ
chosen_of count word = cond (ltb count 2) (Some 40) (cond (ltb 2 count) None (number_said word))
