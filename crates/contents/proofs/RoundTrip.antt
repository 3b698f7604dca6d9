-- The two round trips: what is written is read, `WrittenIsRead`, and what is read is written, `ReadIsWritten`. Assumes nothing.
use Prim.Native.Nat.{ℕ, ◌+◌, ◌*◌, ◌≤◌}
use native.Mathlib.Nat.{zero-add}
use native.Mathlib.Omega.{arith}
use mathlib.Core.Bool.{true, false, ◌&&◌, cond}
use mathlib.Core.List.{List, [], ◌∷◌, map, flat_map, append-nil}
use mathlib.Core.Path.{◌≡◌, refl, sym, ap, ◌∙◌}
use borrow.Author.Tests.{eqb-true, le-leb}
use lib.Dec.{leb}
use lib.ListN.{length, take, drop, length-map, length-drop}
use lib.Seq.{take_at, length-take-le}
use Rattle.curve.proofs.Within.{both}
use Rattle.layout.specs.declared.SheetRecord.{SheetRecord}
use Rattle.layout.specs.declared.EventRecord.{EventRecord}
use Rattle.layout.specs.Lent.{Puts}
use Rattle.layout.specs.Records.{sheet_of, sheet_bytes, SheetFits, event_of, EventFits}
use Rattle.layout.proofs.RoundTrips.{length_sheet, sheet_read}
use Rattle.sheets.specs.Sheets.{sheets_held}
use Rattle.rules.specs.declared.Event.{Event}
use Rattle.rules.specs.declared.Entry.{Entry}
use Rattle.rules.specs.declared.Entry.TheVariants.{Known, Malformed}
use Rattle.format.specs.Header.{sheet_count, event_count, well_formed, sheets_of, sheet_records_of, events_of}
use Rattle.format.specs.File.{Each}
use Rattle.format.specs.File.Each.{none, more}
use Rattle.format.proofs.File.{length_records, records_drop, records_take, records_read, length_flat, reads_back, made_again}
use Rattle.format.proofs.Shape.{shape}
use Rattle.entries.specs.Entries.{entry_of, record_of_event}
use Rattle.entries.proofs.Inverse.{record_known, known_record}
use Rattle.session.specs.Transcript.{entries_of}
use Rattle.contents.specs.declared.PlannedSheet.{PlannedSheet}
use Rattle.contents.specs.Plan.{record_of_sheet, PlannedFits, TypedFits, plan_bytes, plan_status}
use Rattle.contents.proofs.Lookups.{planned_loads}
use Rattle.contents.proofs.Planned.{Served, sheets_planned, events_planned}
use Rattle.contents.specs.Contents.{every, sheets_in, numbers_of, known_event, sheets_given, events_given, is_plain, HoldsPlan, WrittenIsRead, is_known, plain_file, ReadIsWritten}

-- ---- sheets and their records

numbers_back : (ss : List PlannedSheet) → map numbers_of (map record_of_sheet ss) ≡ ss
numbers_back [] = refl
numbers_back (s ∷ ss) = ap (λ (rest : List PlannedSheet). s ∷ rest) (numbers_back ss)

all_plain : (ss : List PlannedSheet) → every is_plain (map record_of_sheet ss) ≡ true
all_plain [] = refl
all_plain (s ∷ ss) = all_plain ss

pub plain_sheets : (rs : List SheetRecord) → every is_plain rs ≡ true → rs ≡ map record_of_sheet (map numbers_of rs)
plain_sheets [] h = refl
plain_sheets (r ∷ rs) h =
    let b = both (is_plain r) (every is_plain rs) h in
    let z = eqb-true _ _ b.0 in
    let e = plain_sheets rs b.1 in
    λ i. record { a1 = r.a1; a2 = r.a2; a3 = r.a3; t0 = r.t0; k = r.k; rest = z i } ∷ e i

-- the records in bytes of records
pub sheets_found : (rs : List SheetRecord) → Each SheetFits rs → {b : List ℕ} → b ≡ flat_map sheet_bytes rs → sheets_in b ≡ rs
sheets_found rs fits {b} e =
    let l : length b ≡ 24 * length rs = ap length e ∙ length_flat sheet_bytes length_sheet rs in
    let n : sheets_held b ≡ length rs = omega arith in
    rw n (records_read sheet_of sheet_bytes length_sheet sheet_read rs fits b [] 0 (rw (append-nil) e))

-- ---- events and their entries

never : {P : Type 0} → false ≡ true → P
never e = let z : ◌≡◌ {A = ℕ} 0 1 = cc in absurd (omega arith)

known_entry : (x : Entry) → is_known x ≡ true → x ≡ Known (known_event x)
known_entry (Known e) h = refl
known_entry (Malformed kind) h = never h

pub known_entries : (xs : List Entry) → every is_known xs ≡ true → xs ≡ map Known (map known_event xs)
known_entries [] h = refl
known_entries (x ∷ xs) h =
    let b = both (is_known x) (every is_known xs) h in
    let a = known_entry x b.0 in
    let e = known_entries xs b.1 in
    λ i. a i ∷ e i

all_known : (es : List Event) → map entry_of (map record_of_event es) ≡ map Known es
all_known [] = refl
all_known (e ∷ es) = rw (record_known e, all_known es)

pub records_known : (rs : List EventRecord) → every is_known (map entry_of rs) ≡ true → rs ≡ map record_of_event (map known_event (map entry_of rs))
records_known [] h = refl
records_known (r ∷ rs) h =
    let b = both (is_known (entry_of r)) (every is_known (map entry_of rs)) h in
    let a : r ≡ record_of_event (known_event (entry_of r)) = known_record r _ (known_entry (entry_of r) b.0) in
    let e = records_known rs b.1 in
    λ i. a i ∷ e i

each_map : {A B : Type 0} {P : B → Type 0} (f : A → B) {xs : List A} → Each (λ (a : A). P (f a)) xs → Each P (map f xs)
each_map f none = none
each_map f (more p ps) = more p (each_map f ps)

pub each_of_map : {A B : Type 0} {P : B → Type 0} (f : A → B) (xs : List A) → Each P (map f xs) → Each (λ (a : A). P (f a)) xs
each_of_map f [] none = none
each_of_map f (a ∷ xs) (more p ps) = more p (each_of_map f xs ps)

-- a file whose records are those of a plan holds it
pub holds : {file : List ℕ} {ss : List PlannedSheet} {es : List Event} → well_formed file ≡ true → sheets_in (sheets_of file) ≡ map record_of_sheet ss
    → entries_of file ≡ map Known es → HoldsPlan file ss es
holds {file} {ss} w s e =
    record { formed = w; sheets = rw s (numbers_back ss); plain = rw s (all_plain ss); loads = planned_loads (sheets_of file) ss s; events = e }

-- ---- written, then read

pub written_is_read : WrittenIsRead
unfolding plan_bytes
written_is_read ss es few short fs fe =
    let ls = length-map ss record_of_sheet in
    let le = length-map es record_of_event in
    let r = reads_back (map record_of_sheet ss) (map record_of_event es) (rw ls few) (rw le short) (each_map record_of_sheet fs) (each_map record_of_event fe) in
    holds r.formed (sheets_found (map record_of_sheet ss) (each_map record_of_sheet fs) r.bytes) (rw r.events (all_known es))

-- so does the start of a buffer in which it stands
pub held : (sheets : List PlannedSheet) (n : ℕ) (events : List Event) (m : ℕ) → n ≤ length sheets → m ≤ length events → {room : ℕ} → Served n m room
    → Each PlannedFits (take n sheets) → Each TypedFits (take m events)
    → {old out : List ℕ} {past : ℕ} → Puts old 0 (plan_bytes (take n sheets) (take m events)) out past → HoldsPlan (take past out) (take n sheets) (take m events)
held sheets n events m hn hm s fs fe {old} p =
    let file = plan_bytes (take n sheets) (take m events) in
    let few : length (take n sheets) ≤ 16 = rw (sheets_planned sheets n events m hn hm) s.few in
    let short : length (take m events) ≤ 2700 = rw (events_planned sheets n events m hn hm) s.short in
    rw (p.stands, p.ends, take_at file (drop (0 + length file) old) (0 + length file) (sym (zero-add _)))
    (written_is_read (take n sheets) (take m events) few short fs fe)

-- ---- read, then written

-- what the test of a plain file tells
pub record Plain (file : List ℕ) : Type 0 where
  pub formed : well_formed file ≡ true
  pub sheets : every is_plain (sheets_in (sheets_of file)) ≡ true
  pub events : every is_known (entries_of file) ≡ true

pub plain : (file : List ℕ) → plain_file file ≡ true → Plain file
plain file h =
    let k = both (well_formed file && every is_plain (sheets_in (sheets_of file))) (every is_known (entries_of file)) h in
    let p = both (well_formed file) (every is_plain (sheets_in (sheets_of file))) k.0 in
    record { formed = p.0; sheets = p.1; events = k.1 }

module _ (file : List ℕ) (w : well_formed file ≡ true) where
  -- the bytes that a run hands to the engine, and the records in them, which are those of the file
  pub sheets_length : length (sheets_of file) ≡ 24 * sheet_count file
  sheets_length = let s = shape file w in length-take-le (24 * sheet_count file) (drop 16 file) (omega (arith, length-drop 16 file))

  pub sheets_of_lem : sheets_in (sheets_of file) ≡ sheet_records_of file
  sheets_of_lem =
      let n : sheets_held (sheets_of file) ≡ sheet_count file = omega (arith, sheets_length) in
      rw (n, records_take sheet_of (drop 16 file) (24 * sheet_count file) 0 (sheet_count file) (omega arith), records_drop sheet_of file 16 0 (sheet_count file))

  -- as many as the header says
  pub sheets_given_lem : length (sheets_given file) ≡ sheet_count file
  sheets_given_lem = length-map (sheets_in (sheets_of file)) numbers_of ∙ ap length sheets_of_lem ∙ length_records sheet_of file 16 (sheet_count file)

  pub events_given_lem : length (events_given file) ≡ event_count file
  events_given_lem = length-map (entries_of file) known_event ∙ length-map (events_of file) entry_of ∙ length_records event_of file _ (event_count file)

  -- so a writer turns them away only where the file itself has no room
  pub plan_status_lem : (room : ℕ) → plan_status (sheet_count file) (event_count file) room ≡ cond (leb (length file) room) 0 15
  unfolding plan_status
  plan_status_lem room = let s = shape file w in rw (le-leb _ _ s.sheets, le-leb _ _ s.events, s.end)

pub read_is_written : ReadIsWritten
unfolding plan_bytes
read_is_written file are h =
    let p = plain file h in
    let w = p.formed in
    let m = made_again file are w in
    let found = sheets_of_lem file w in
    let a : sheets_in (sheets_of file) ≡ map record_of_sheet (sheets_given file) = plain_sheets (sheets_in (sheets_of file)) p.sheets in
    let e : events_of file ≡ map record_of_event (events_given file) = records_known (events_of file) p.events in
    record {
      holds = holds w a (known_entries (entries_of file) p.events);
      sheets_fit = each_of_map {P = SheetFits} record_of_sheet (sheets_given file) (rw (← a, found) m.sheets_fit);
      events_fit = each_of_map {P = EventFits} record_of_event (events_given file) (rw (← e) m.events_fit);
      status = λ room fits. rw (sheets_given_lem file w, events_given_lem file w, plan_status_lem file w room, le-leb (length file) room fits);
      made = m.is ∙ rw (← a, ← e, found);
    }
