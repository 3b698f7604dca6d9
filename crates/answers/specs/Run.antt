-- The run over a session file, and its lines or its grounds in a lent buffer: document 01's status, bytes written and every byte. Assumes nothing.
use Rattle.std.specs.Prelude.{ℕ, ◌*◌, cond, List, leb, length}
use Rattle.layout.specs.Lent.{Fills}
use Rattle.format.specs.Header.{well_formed, event_count}
use Rattle.forms.specs.declared.Form.{Form}
use Rattle.forms.specs.Forms.{room_of, emitted_from}
use Rattle.session.specs.Transcript.{transcript_of}

-- what is put of a file: a piece for each line of its transcript, ordinals from 1
abbrev pub emitted_of : Form → List ℕ → List ℕ
emitted_of form file = emitted_from form 1 (transcript_of file)

-- refusal 12 before refusal 13: the buffer is shorter than the form's room × event count
unfoldable pub status_as : Form → List ℕ → ℕ → ℕ
status_as form file room = cond (well_formed file) (cond (leb (room_of form * event_count file) room) 0 13) 12

-- a file's answers, its lines or its grounds in a lent buffer that was `old`
abbrev pub FillsAs : Form → List ℕ → List ℕ → ℕ → ℕ → List ℕ → Type 0
FillsAs form file old status written out = Fills (status_as form file (length old)) (emitted_of form file) old status written out
