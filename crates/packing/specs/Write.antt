-- How the writer of records leaves a lent buffer (document 02, R-2). Assumes nothing.
use Rattle.std.specs.Prelude.{ℕ, List, length}
use Rattle.layout.specs.Lent.{Fills}
use Rattle.contents.specs.Packed.{packed_bytes, packed_status}

-- what the writer leaves in a lent buffer that was `old`
abbrev pub FillsPacked : List ℕ → List ℕ → List ℕ → ℕ → ℕ → List ℕ → Type 0
FillsPacked sheets events old status written out =
    Fills (packed_status sheets events (length old)) (packed_bytes sheets events) old status written out
