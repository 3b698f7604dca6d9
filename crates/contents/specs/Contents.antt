-- What a session file holds, as the run has it from the reader; and that writing and reading are inverse (document 02, R-2).
-- `proofs/RoundTrip.antt` proves it. Assumes nothing.
use Rattle.refusals.specs.declared.Refusal.{Refusal}
use Rattle.std.specs.Prelude.{ℕ, zero, suc, ◌≤◌, Bool, true, false, ◌&&◌, cond, List, [], ◌∷◌, map, ◌≡◌, eqb, nat_abs, length, Err, Ok}
use Rattle.std.specs.Int.Signed.{non_neg}
use Rattle.curve.specs.declared.Sheet.{Sheet}
use Rattle.curve.specs.Limits.{sheet_within}
use Rattle.fields.specs.Fields.{AreBytes}
use Rattle.layout.specs.declared.SheetRecord.{SheetRecord}
use Rattle.layout.specs.Records.{sheet_of}
use Rattle.sheets.specs.Sheets.{Lookup}
use Rattle.sheets.specs.Sheets.{sheets_held, lookup_of}
use Rattle.rules.specs.declared.Event.{Event}
use Rattle.rules.specs.declared.Entry.{Entry}
use Rattle.format.specs.Header.{well_formed, sheets_of, records_from}
use Rattle.format.specs.File.{Each}
use Rattle.session.specs.Transcript.{entries_of}
use Rattle.contents.specs.declared.PlannedSheet.{PlannedSheet}
use Rattle.contents.specs.Plan.{PlannedFits, TypedFits, plan_bytes, plan_status}

-- a test of each element
abbrev pub every : {A : Type 0} → (A → Bool) → List A → Bool
every test [] = true
every test (a ∷ rest) = test a && every test rest

-- ---- what the reader gives

-- the sheet records in bytes, as many as they hold; what a record says of a sheet; and the sheets that the bytes say
abbrev pub sheets_in : List ℕ → List SheetRecord
sheets_in bytes = records_from sheet_of bytes 0 (sheets_held bytes)

abbrev pub numbers_of : SheetRecord → PlannedSheet
numbers_of r = record { a1 = r.a1; a2 = r.a2; a3 = r.a3; t0 = r.t0; k = r.k }

abbrev pub planned_in : List ℕ → List PlannedSheet
planned_in bytes = map numbers_of (sheets_in bytes)

-- the event of a known entry; a malformed one has none, and a start stands for it
abbrev pub known_event : Entry → Event
known_event (Entry.Known e) = e
known_event (Entry.Malformed kind) = Event.Start

-- a file's sheets, in the bytes that the run hands to the engine, and its events, of the entries that the run answers
abbrev pub sheets_given : List ℕ → List PlannedSheet
sheets_given file = planned_in (sheets_of file)

abbrev pub events_given : List ℕ → List Event
events_given file = map known_event (entries_of file)

-- a sheet's four last bytes are zero
abbrev pub is_plain : SheetRecord → Bool
is_plain r = eqb r.rest 0

-- what a load is to find among planned sheets: the one at its index, or refusal 2 if that one is outside a sheet's limits, or refusal 1
abbrev pub sheet_from : PlannedSheet → Sheet
sheet_from s = record { a1 = nat_abs s.a1; a2 = nat_abs s.a2; a3 = nat_abs s.a3; t0 = s.t0; k = s.k }

abbrev pub planned_within : PlannedSheet → Bool
planned_within s = non_neg s.a1 && non_neg s.a2 && non_neg s.a3 && sheet_within (sheet_from s)

abbrev pub found_among : List PlannedSheet → ℕ → Lookup
found_among [] index = Err Refusal.NoSheet
found_among (s ∷ ss) zero = cond (planned_within s) (Ok (sheet_from s)) (Err Refusal.BadSheet)
found_among (s ∷ ss) (suc index) = found_among ss index

-- a file of accepted header and length, of which the run has exactly these sheets and these events: the sheets are those that it hands to
-- the engine, with zero bytes after each, and a load of any index finds what it is to find among them; the entries that are answered are
-- these events
pub record HoldsPlan (file : List ℕ) (ss : List PlannedSheet) (es : List Event) : Type 0 where
  pub formed : well_formed file ≡ true
  pub sheets : sheets_given file ≡ ss
  pub plain : every is_plain (sheets_in (sheets_of file)) ≡ true
  pub loads : (index : ℕ) → lookup_of (sheets_of file) index ≡ found_among ss index
  pub events : entries_of file ≡ map Entry.Known es

-- ---- written, then read: exactly those sheets and events, whatever the numbers
abbrev pub WrittenIsRead : Type 0
WrittenIsRead =
    (ss : List PlannedSheet) (es : List Event) → length ss ≤ 16 → length es ≤ 2700 → Each PlannedFits ss → Each TypedFits es
    → HoldsPlan (plan_bytes ss es) ss es

-- ---- read, then written

-- an entry is of a known kind, with zero bytes where they must be
abbrev pub is_known : Entry → Bool
is_known (Entry.Known e) = true
is_known (Entry.Malformed kind) = false

-- a file of accepted header and length, with known kinds only and zero bytes wherever they must be
abbrev pub plain_file : List ℕ → Bool
plain_file file = well_formed file && every is_plain (sheets_in (sheets_of file)) && every is_known (entries_of file)

-- it holds the sheets and events that the reader gives of it, whose numbers have the file's widths; a writer with room for it does not turn
-- them away, and what it makes of them is the file, byte for byte
pub record Made (file : List ℕ) : Type 0 where
  pub holds : HoldsPlan file (sheets_given file) (events_given file)
  pub sheets_fit : Each PlannedFits (sheets_given file)
  pub events_fit : Each TypedFits (events_given file)
  pub status : (room : ℕ) → length file ≤ room → plan_status (length (sheets_given file)) (length (events_given file)) room ≡ 0
  pub made : file ≡ plan_bytes (sheets_given file) (events_given file)

abbrev pub ReadIsWritten : Type 0
ReadIsWritten = (file : List ℕ) → AreBytes file → plain_file file ≡ true → Made file
