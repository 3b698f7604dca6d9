-- The session file of sheets and events that are handed over as the bytes of their records, as a C program has them (document 02, R-2), and
-- how its writer ends. Assumes nothing.
use Rattle.std.specs.Prelude.{ℕ, ◌+◌, ◌*◌, ◌/◌, ◌%◌, Bool, ◌&&◌, cond, List, map, leb, eqb, length}
use Rattle.layout.specs.declared.EventRecord.{EventRecord}
use Rattle.layout.specs.Records.{event_of}
use Rattle.rules.specs.declared.Event.{Event}
use Rattle.format.specs.Header.{records_from}
use Rattle.format.specs.File.{file_bytes}
use Rattle.entries.specs.Entries.{entry_of}
use Rattle.contents.specs.Contents.{every, sheets_in, known_event, is_plain, is_known}

-- the event records in bytes, and the events that they say; `sheets_in` and `planned_in` have the sheets
abbrev pub events_in : List ℕ → List EventRecord
events_in bytes = records_from event_of bytes 0 (length bytes / 24)

abbrev pub typed_in : List ℕ → List Event
typed_in events = map known_event (map entry_of (events_in events))

-- whole records, events of known kinds only, and zero bytes wherever they must be
unfoldable pub packed : List ℕ → List ℕ → Bool
packed sheets events =
    eqb (length sheets % 24) 0 && eqb (length events % 24) 0 && every is_plain (sheets_in sheets) && every is_known (map entry_of (events_in events))

-- the session file of these records
unfoldable pub packed_bytes : List ℕ → List ℕ → List ℕ
packed_bytes sheets events = file_bytes (sheets_in sheets) (events_in events)

-- turned away: 14 more bytes than 16 sheets or 2,700 events have, before 11 records that are not as above, before 15 a buffer shorter than
-- the file
unfoldable pub packed_status : List ℕ → List ℕ → ℕ → ℕ
packed_status sheets events room =
    cond (leb (length sheets) (24 * 16) && leb (length events) (24 * 2700))
    (cond (packed sheets events) (cond (leb (16 + length sheets + length events) room) 0 15) 11) 14
