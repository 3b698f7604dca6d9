-- A session file planned again (document 02, R-2): how `replan` ends, and what it leaves in a lent buffer. Assumes nothing.
use Rattle.std.specs.Prelude.{ℕ, cond, List, leb, length}
use Rattle.layout.specs.Lent.{Fills}
use Rattle.format.specs.Header.{well_formed}
use Rattle.contents.specs.Plan.{plan_bytes}
use Rattle.contents.specs.Contents.{sheets_given, events_given, plain_file}

-- turned away: 12 header or length not accepted, before 11 an unknown kind or a byte that is not zero and must be, before 15 a buffer
-- shorter than the file
unfoldable pub again_status : List ℕ → ℕ → ℕ
again_status file room = cond (well_formed file) (cond (plain_file file) (cond (leb (length file) room) 0 15) 11) 12

-- in a lent buffer that was `old` it leaves what the writer makes of the sheets and events that the reader gives: the file itself, by
-- `ReadIsWritten`
abbrev pub FillsAgain : List ℕ → List ℕ → ℕ → ℕ → List ℕ → Type 0
FillsAgain file old status written out =
    Fills (again_status file (length old)) (plan_bytes (sheets_given file) (events_given file)) old status written out
