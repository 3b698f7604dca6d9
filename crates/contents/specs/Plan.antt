-- Lesson plans (document 02, R-2): the session file of typed sheets and events, and how the writer ends. Assumes nothing.
use Rattle.std.specs.Prelude.{ℕ, ◌+◌, ◌*◌, ◌&&◌, cond, List, map, leb}
use Rattle.layout.specs.declared.SheetRecord.{SheetRecord}
use Rattle.layout.specs.Records.{sheet_bytes, SheetFits, event_bytes, EventFits}
use Rattle.rules.specs.declared.Event.{Event}
use Rattle.format.specs.File.{file_bytes}
use Rattle.entries.specs.Entries.{record_of_event}
use Rattle.contents.specs.declared.PlannedSheet.{PlannedSheet}

-- the record of a sheet: its numbers as given, and four zero bytes; `record_of_event` is that of an event
abbrev pub record_of_sheet : PlannedSheet → SheetRecord
record_of_sheet s = record { a1 = s.a1; a2 = s.a2; a3 = s.a3; t0 = s.t0; k = s.k; rest = 0 }

-- the bytes of each
abbrev pub planned_bytes : PlannedSheet → List ℕ
planned_bytes s = sheet_bytes (record_of_sheet s)

abbrev pub typed_bytes : Event → List ℕ
typed_bytes e = event_bytes (record_of_event e)

-- their numbers have the file's widths, as those of every typed value do; nothing is said of limits
abbrev pub PlannedFits : PlannedSheet → Type 0
PlannedFits s = SheetFits (record_of_sheet s)

abbrev pub TypedFits : Event → Type 0
TypedFits e = EventFits (record_of_event e)

-- the session file of sheets and events
unfoldable pub plan_bytes : List PlannedSheet → List Event → List ℕ
plan_bytes sheets events = file_bytes (map record_of_sheet sheets) (map record_of_event events)

-- turned away: 14 more than 16 sheets or 2,700 events, before 15 a buffer shorter than the file
unfoldable pub plan_status : ℕ → ℕ → ℕ → ℕ
plan_status sheets events room = cond (leb sheets 16 && leb events 2700) (cond (leb (16 + 24 * sheets + 24 * events) room) 0 15) 14
