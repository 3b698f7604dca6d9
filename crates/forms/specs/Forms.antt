-- What is put of a session file, in each form: for each event, in turn, the 24 bytes of its answer record, its printed line, or one byte, the
-- number of its ground (R-9). A form goes by the lines of the transcript, each with its ordinal. Assumes nothing.
use Rattle.std.specs.Prelude.{ℕ, ◌+◌, List, [], ◌∷◌, ◌++◌}
use Rattle.layout.specs.Records.{answer_bytes}
use Rattle.text.specs.Line.{line_of, line_room}
use Rattle.engine.specs.Transcript.{Line, record_of_line}
use Rattle.grounds.specs.Grounds.{ground_number, entry_ground}
use Rattle.forms.specs.declared.Form.{Form}

-- what is put of one event
abbrev pub emitted : Form → ℕ → Line → List ℕ
emitted Form.Records ordinal l = answer_bytes (record_of_line l)
emitted Form.Lines ordinal l = line_of ordinal (record_of_line l)
emitted Form.Grounds ordinal l = ground_number (entry_ground l.before l.entry) ∷ []

-- the room that holds it
abbrev pub room_of : Form → ℕ
room_of Form.Records = 24
room_of Form.Lines = line_room
room_of Form.Grounds = 1

-- of a list of lines, the first with the ordinal as given
abbrev pub emitted_from : Form → ℕ → List Line → List ℕ
emitted_from form ordinal [] = []
emitted_from form ordinal (l ∷ ls) = emitted form ordinal l ++ emitted_from form (ordinal + 1) ls
