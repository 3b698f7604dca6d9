-- The claim for a file: of any bytes whatever and any lent output, what a run leaves there and answers with, and demand 3 of the events
-- that it answers. `proofs/Claim.antt` proves it. Assumes nothing.
use Rattle.std.specs.Prelude.{ℕ, zero, suc, ◌+◌, ◌*◌, ◌≤◌, ◌<◌, true, false, List, [], ◌++◌, ◌≡◌, length, drop}
use Rattle.std.proofs.Math.Option.{some}
use Rattle.std.proofs.Math.ListN.{get_elem?}
use Rattle.layout.specs.declared.EventRecord.{EventRecord}
use Rattle.fields.specs.Fields.{AreBytes}
use Rattle.layout.specs.Records.{record_at, event_at, answer_at, answer_bytes}
use Rattle.text.specs.Line.{line_of}
use Rattle.sheets.specs.Sheets.{sheets_held}
use Rattle.engine.specs.Transcript.{Line, record_with}
use Rattle.ledger.specs.Claim.{Demand3}
use Rattle.format.specs.Header.{sheet_count, event_count, first_event, well_formed, sheets_of}
use Rattle.entries.specs.Entries.{entry_of}
use Rattle.forms.specs.declared.Form.{Form}
use Rattle.session.specs.Transcript.{entries_of, transcript_of}
use Rattle.answers.specs.Run.{FillsAs}
use Rattle.printing.specs.Text.{lines_of}

-- the line is the transcript's line i, counted from 0; past the last one there is none
abbrev pub LineIs : List ℕ → ℕ → Line → Type 0
LineIs file i line = get_elem? (transcript_of file) i ≡ some line

-- event i of the file, counted from 0: what its 24 bytes say, after the header, the sheets and the i events before it
abbrev pub event_in : List ℕ → ℕ → EventRecord
event_in file i = event_at file (first_event file + 24 * i)

-- event i is answered: the transcript has a line i, which is of this event, and at byte 24 i of the output stands that line's answer
-- with the kind byte as given: its 24 bytes, and read again its kind, refusal, m, x and y
pub record EventAnswered (file out : List ℕ) (i : ℕ) : Type 0 where
  pub line : Line
  pub is : LineIs file i line
  pub entry : line.entry ≡ entry_of (event_in file i)
  pub bytes : record_at out (24 * i) ≡ answer_bytes (record_with (event_in file i).kind line.answer)
  pub says : answer_at out (24 * i) ≡ record_with (event_in file i).kind line.answer

-- a file that is answered: status 0, 24 bytes written for each event, all sheets of the header found, demand 3 of its sheets and entries,
-- one line for each event, each event answered, and the bytes after the answers as they were. `old` is the output before the run
pub record Answered (file old : List ℕ) (status written : ℕ) (out : List ℕ) : Type 0 where
  pub accepted : status ≡ 0
  pub bytes : written ≡ 24 * event_count file
  pub sheets : sheets_held (sheets_of file) ≡ sheet_count file
  pub demand : Demand3 (sheets_of file) (entries_of file)
  pub lines : length (transcript_of file) ≡ event_count file
  pub events : (i : ℕ) → i < event_count file → EventAnswered file out i
  pub size : length out ≡ length old
  pub after : drop (24 * event_count file) out ≡ drop (24 * event_count file) old

-- a file that is refused as a whole: its number as the status, nothing written, and the output as it was
pub record Kept (number : ℕ) (old : List ℕ) (status written : ℕ) (out : List ℕ) : Type 0 where
  pub refused : status ≡ number
  pub none : written ≡ 0
  pub same : out ≡ old

-- one of the three holds of every file and every output: 12 for a header or length that is not as document 01 has it; else 13 for an
-- output shorter than 24 × event count; else the file is answered
pub record FileHolds (file old : List ℕ) (status written : ℕ) (out : List ℕ) : Type 0 where
  pub malformed : well_formed file ≡ false → Kept 12 old status written out
  pub short : well_formed file ≡ true → length old < 24 * event_count file → Kept 13 old status written out
  pub long : well_formed file ≡ true → 24 * event_count file ≤ length old → Answered file old status written out

-- the claim: it holds of whatever a run returns and leaves (the contracts of `answers::run` and `irga_run`), for any bytes whatever
abbrev pub EveryFile : Type 0
EveryFile =
    (file old : List ℕ) → AreBytes file → (status written : ℕ) (out : List ℕ) → FillsAs Form.Records file old status written out
    → FileHolds file old status written out

-- the printed lines of so many answer records from a byte offset on
abbrev pub printed_from : ℕ → List ℕ → ℕ → ℕ → List ℕ
printed_from ordinal out at zero = []
printed_from ordinal out at (suc count) = line_of ordinal (answer_at out at) ++ printed_from (ordinal + 1) out (at + 24) count

-- and the lines, printed or put into a buffer, are those of the very records that a run leaves, ordinals from 1
abbrev pub EveryText : Type 0
EveryText =
    (file old : List ℕ) → AreBytes file → well_formed file ≡ true → 24 * event_count file ≤ length old
    → (status written : ℕ) (out : List ℕ) → FillsAs Form.Records file old status written out
    → lines_of file ≡ printed_from 1 out 0 (event_count file)
