-- Both round trips of packed records: what is written is a plan's file, `PackedIsPlan`, and a file's records are written as that file,
-- `PlainRepacks`. Assumes nothing.
use Prim.Native.Nat.{ℕ, ◌+◌, ◌*◌, ◌/◌, ◌%◌}
use native.Mathlib.Nat.{add-zero}
use native.Mathlib.Omega.{arith}
use mathlib.Core.Bool.{true, ◌&&◌}
use mathlib.Core.List.{List, map, flat_map}
use mathlib.Core.Path.{◌≡◌, refl, sym, ◌∙◌}
use borrow.Author.Tests.{eqb-true, eq-eqb, le-leb}
use lib.Dec.{eqb}
use lib.ListN.{length, length-map, length-drop}
use lib.Seq.{take_all}
use Rattle.curve.proofs.Within.{both}
use Rattle.fields.specs.Fields.{AreBytes}
use Rattle.layout.specs.Records.{sheet_of, sheet_bytes, SheetFits, event_of, event_bytes, EventFits}
use Rattle.layout.proofs.RoundTrips.{sheet_fits, sheet_written, event_fits, event_written}
use Rattle.format.specs.Header.{event_count, first_event, well_formed, sheets_of, records_from, events_of}
use Rattle.format.specs.File.{file_bytes, Each}
use Rattle.format.proofs.File.{length_records, records_drop, records_fit, records_written, reads_back, made_again}
use Rattle.format.proofs.Shape.{shape}
use Rattle.entries.specs.Entries.{entry_of, record_of_event}
use Rattle.contents.specs.Plan.{record_of_sheet, plan_bytes}
use Rattle.contents.specs.Contents.{every, sheets_in, numbers_of, planned_in, known_event, is_plain, is_known, plain_file}
use Rattle.contents.proofs.RoundTrip.{each_of_map, holds, plain, plain_sheets, known_entries, records_known, sheets_found, sheets_length, sheets_of_lem}
use Rattle.contents.specs.Packed.{events_in, typed_in, packed, packed_bytes, packed_status}
use Rattle.contents.specs.Repacked.{PackedIsPlan, event_bytes_of, PlainRepacks}
use Rattle.contents.proofs.Packed.{served}

-- what the test of packed records tells
record Right (sheets events : List ℕ) : Type 0 where
  pub whole_sheets : length sheets % 24 ≡ 0
  pub whole_events : length events % 24 ≡ 0
  pub plain : every is_plain (sheets_in sheets) ≡ true
  pub known : every is_known (map entry_of (events_in events)) ≡ true

right : (sheets events : List ℕ) → packed sheets events ≡ true → Right sheets events
unfolding packed
right sheets events h =
    let k = both (eqb (length sheets % 24) 0 && eqb (length events % 24) 0 && every is_plain (sheets_in sheets)) (every is_known (map entry_of (events_in events))) h in
    let p = both (eqb (length sheets % 24) 0 && eqb (length events % 24) 0) (every is_plain (sheets_in sheets)) k.0 in
    let w = both (eqb (length sheets % 24) 0) (eqb (length events % 24) 0) p.0 in
    record { whole_sheets = eqb-true _ _ w.0; whole_events = eqb-true _ _ w.1; plain = p.1; known = k.1 }

-- records that are whole, read and put again, are the bytes they were
put_back : {A : Type 0} (read : List ℕ → A) (write : A → List ℕ) → ((b : List ℕ) → length b ≡ 24 → AreBytes b → write (read b) ≡ b)
    → (s : List ℕ) → AreBytes s → length s % 24 ≡ 0 → flat_map write (records_from read s 0 (length s / 24)) ≡ s
put_back read write back s are w = records_written read write back s are 0 (length s / 24) (omega arith) ∙ take_all (24 * (length s / 24)) s (omega arith)

pub packed_is_plan : PackedIsPlan
unfolding packed_bytes plan_bytes file_bytes
packed_is_plan sheets events bs be room z =
    let h = served sheets events room refl z in
    let r = right sheets events h.right in
    let n = length_records sheet_of sheets 0 (length sheets / 24) in
    let m = length_records event_of events 0 (length events / 24) in
    let a : sheets_in sheets ≡ map record_of_sheet (planned_in sheets) = plain_sheets (sheets_in sheets) r.plain in
    let b : events_in events ≡ map record_of_event (typed_in events) = records_known (events_in events) r.known in
    let ln : length (planned_in sheets) ≡ length sheets / 24 = length-map (sheets_in sheets) numbers_of ∙ n in
    let lm : length (typed_in events) ≡ length events / 24 = length-map (map entry_of (events_in events)) known_event ∙ length-map (events_in events) entry_of ∙ m in
    let fs : Each SheetFits (sheets_in sheets) = records_fit sheet_of sheet_fits bs 0 (length sheets / 24) in
    let fe : Each EventFits (events_in events) = records_fit event_of event_fits be 0 (length events / 24) in
    let back = reads_back (sheets_in sheets) (events_in events) (rw n (omega (arith, h.few))) (rw m (omega (arith, h.short))) fs fe in
    record {
      sheets_whole = omega (arith, ln, r.whole_sheets);
      events_whole = omega (arith, lm, r.whole_events);
      sheets_fit = each_of_map {P = SheetFits} record_of_sheet (planned_in sheets) (rw (← a) fs);
      events_fit = each_of_map {P = EventFits} record_of_event (typed_in events) (rw (← b) fe);
      given = rw (n, m, ln, lm, put_back sheet_of sheet_bytes sheet_written sheets bs r.whole_sheets, put_back event_of event_bytes event_written events be r.whole_events);
      is = rw (← a, ← b);
      holds = holds back.formed (sheets_found (sheets_in sheets) fs back.bytes ∙ a) (rw back.events (known_entries _ r.known));
    }

-- a file's records, cut out of it
module _ (file : List ℕ) (w : well_formed file ≡ true) where
  events_length : length (event_bytes_of file) ≡ 24 * event_count file
  events_length = let s = shape file w in omega (arith, length-drop (first_event file) file)

  events_of_lem : events_in (event_bytes_of file) ≡ events_of file
  events_of_lem =
      let q : length (event_bytes_of file) / 24 ≡ event_count file = omega (arith, events_length) in
      rw (q, records_drop event_of file (first_event file) 0 (event_count file), add-zero)

  -- they are packed where the file is plain
  pub packed_plain : packed (sheets_of file) (event_bytes_of file) ≡ plain_file file
  unfolding packed
  packed_plain =
      let ws = eq-eqb (length (sheets_of file) % 24) 0 (omega (arith, sheets_length file w)) in
      let we = eq-eqb (length (event_bytes_of file) % 24) 0 (omega (arith, events_length)) in
      rw (ws, we, events_of_lem, w)

pub plain_repacks : PlainRepacks
unfolding packed_bytes packed_status
plain_repacks file are h =
    let w = (plain file h).formed in
    let s = shape file w in
    let ls = sheets_length file w in
    let le = events_length file w in
    let few = le-leb (length (sheets_of file)) 384 (omega arith) in
    let short = le-leb (length (event_bytes_of file)) 64800 (omega arith) in
    record {
      status = λ room fits. rw (few, short, packed_plain file w, h, le-leb (16 + length (sheets_of file) + length (event_bytes_of file)) room (omega (arith, s.end)));
      is = rw (events_of_lem file w, sheets_of_lem file w) (sym (made_again file are w).is);
    }
