-- What the writer of records makes is a lesson plan's file, and the other way round (document 02, R-2): both round trips, for a C program.
-- `proofs/Repacked.antt` proves it. Assumes nothing.
use Rattle.std.specs.Prelude.{ℕ, ◌*◌, ◌≤◌, true, List, ◌++◌, ◌≡◌, length, drop}
use Rattle.fields.specs.Fields.{AreBytes}
use Rattle.format.specs.Header.{first_event, sheets_of}
use Rattle.format.specs.File.{header_bytes, Each}
use Rattle.contents.specs.Plan.{PlannedFits, TypedFits, plan_bytes}
use Rattle.contents.specs.Contents.{planned_in, HoldsPlan, plain_file}
use Rattle.contents.specs.Packed.{typed_in, packed_bytes, packed_status}

-- what is written of lent bytes: a header and these bytes as they are; it is the file of the sheets and events that the bytes say, one for
-- each record, whose numbers have the file's widths, and the run has exactly these
pub record Packs (sheets events : List ℕ) : Type 0 where
  pub sheets_whole : length sheets ≡ 24 * length (planned_in sheets)
  pub events_whole : length events ≡ 24 * length (typed_in events)
  pub sheets_fit : Each PlannedFits (planned_in sheets)
  pub events_fit : Each TypedFits (typed_in events)
  pub given : packed_bytes sheets events ≡ header_bytes (length (planned_in sheets)) (length (typed_in events)) ++ sheets ++ events
  pub is : packed_bytes sheets events ≡ plan_bytes (planned_in sheets) (typed_in events)
  pub holds : HoldsPlan (packed_bytes sheets events) (planned_in sheets) (typed_in events)

-- of all that is not turned away
abbrev pub PackedIsPlan : Type 0
PackedIsPlan = (sheets events : List ℕ) → AreBytes sheets → AreBytes events → (room : ℕ) → packed_status sheets events room ≡ 0 → Packs sheets events

-- the bytes of a file's events
abbrev pub event_bytes_of : List ℕ → List ℕ
event_bytes_of file = drop (first_event file) file

-- a file's sheets and events, written again: the same file, byte for byte
pub record Repacks (file : List ℕ) : Type 0 where
  pub status : (room : ℕ) → length file ≤ room → packed_status (sheets_of file) (event_bytes_of file) room ≡ 0
  pub is : packed_bytes (sheets_of file) (event_bytes_of file) ≡ file

-- of every file of accepted header and length, with known kinds only and zero bytes wherever they must be
abbrev pub PlainRepacks : Type 0
PlainRepacks = (file : List ℕ) → AreBytes file → plain_file file ≡ true → Repacks file
