-- The bytes of a session file of document 01, from its sheet records and its event records; and that reading and making are inverse.
-- `proofs/File.antt` proves it. Assumes nothing.
use Rattle.std.specs.Prelude.{ℕ, ◌+◌, ◌*◌, ◌≤◌, true, ◌≡◌, length}
use mathlib.Core.List.{List, [], ◌∷◌, ◌++◌, flat_map}
use Rattle.layout.specs.declared.SheetRecord.{SheetRecord}
use Rattle.layout.specs.declared.EventRecord.{EventRecord}
use Rattle.fields.specs.Fields.{AreBytes, words_bytes}
use Rattle.layout.specs.Records.{sheet_bytes, SheetFits, event_bytes, EventFits}
use Rattle.format.specs.Header.{sheet_count, event_count, well_formed, sheets_of, sheet_records_of, events_of}

-- the header: sheet count, sheet offset, event count, event offset
abbrev pub header_bytes : ℕ → ℕ → List ℕ
header_bytes sheets events = words_bytes (sheets ∷ 16 ∷ events ∷ (16 + 24 * sheets) ∷ [])

-- the file: its header, its sheets, its events
unfoldable pub file_bytes : List SheetRecord → List EventRecord → List ℕ
file_bytes sheets events = header_bytes (length sheets) (length events) ++ flat_map sheet_bytes sheets ++ flat_map event_bytes events

-- P of each element
pub data Each {A : Type 0} (P : A → Type 0) : List A → Type 0 where
  none : Each P []
  more : {a : A} {rest : List A} → P a → Each P rest → Each P (a ∷ rest)

-- a file that is read as these sheets and events: its header and length are accepted, and its counts, sheets and events are theirs
pub record ReadAs (file : List ℕ) (ss : List SheetRecord) (es : List EventRecord) : Type 0 where
  pub formed : well_formed file ≡ true
  pub sheets_said : sheet_count file ≡ length ss
  pub events_said : event_count file ≡ length es
  pub bytes : sheets_of file ≡ flat_map sheet_bytes ss
  pub sheets : sheet_records_of file ≡ ss
  pub events : events_of file ≡ es

-- what is made of as many sheets and events as a file may have, their numbers of the file's widths, is read as these
abbrev pub ReadsBack : Type 0
ReadsBack =
    (ss : List SheetRecord) (es : List EventRecord) → length ss ≤ 16 → length es ≤ 2700 → Each SheetFits ss → Each EventFits es
    → ReadAs (file_bytes ss es) ss es

-- every file of accepted header and length is, byte for byte, what is made of its records, whatever they are; and their numbers are
-- of the file's widths
pub record MadeOf (file : List ℕ) (ss : List SheetRecord) (es : List EventRecord) : Type 0 where
  pub is : file ≡ file_bytes ss es
  pub sheets_fit : Each SheetFits ss
  pub events_fit : Each EventFits es

abbrev pub MadeAgain : Type 0
MadeAgain = (file : List ℕ) → AreBytes file → well_formed file ≡ true → MadeOf file (sheet_records_of file) (events_of file)
