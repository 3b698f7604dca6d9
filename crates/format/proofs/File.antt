-- A file that is made of records is read as these, `ReadsBack`, and a file that is read is made of its records again, `MadeAgain`.
-- Assumes nothing.
use Prim.Native.Nat.{ℕ, zero, suc, ◌+◌, ◌*◌, ◌<◌, ◌≤◌}
use native.Mathlib.Nat.{add_assoc}
use native.Mathlib.Omega.{arith}
use mathlib.Core.Path.{◌≡◌, refl, sym, ap, ◌∙◌}
use mathlib.Core.List.{List, [], ◌∷◌, ◌++◌, map, flat_map, append-nil, append_assoc}
use lib.ListN.{length, take, drop, get_or, length-append}
use lib.Seq.{take_at, take-add, take_all, drop_at, drop-drop}
use Rattle.layout.specs.declared.SheetRecord.{SheetRecord}
use Rattle.layout.specs.declared.EventRecord.{EventRecord}
use Rattle.fields.specs.Fields.{AreBytes, bytes_of, words_bytes, u32_bytes}
use Rattle.layout.specs.Records.{record_at, sheet_of, sheet_bytes, event_of, event_bytes}
use Rattle.fields.proofs.Numbers.{number_bytes, bytes_number, within}
use Rattle.layout.proofs.RoundTrips.{length_record, record_below, length_sheet, sheet_read, sheet_fits, sheet_written}
use Rattle.layout.proofs.RoundTrips.{length_event, event_read, event_fits, event_written}
use Rattle.format.specs.Header.{sheet_count, event_count, records_from, sheet_records_of, events_of}
use Rattle.format.specs.File.{file_bytes, Each, ReadsBack, MadeAgain}
use Rattle.format.specs.File.Each.{none, more}
use Rattle.format.proofs.Shape.{Shape, shape, formed}

-- ---- records of 24 bytes one after the other, whatever they are

module _ {A : Type 0} (read : List ℕ → A) where
  pub length_records : (s : List ℕ) (at count : ℕ) → length (records_from read s at count) ≡ count
  length_records s at zero = refl
  length_records s at (suc count) = ap suc (length_records s (at + 24) count)

  -- one of them
  pub record_of : (s : List ℕ) (at count i : ℕ) (d : A) → i < count → get_or (records_from read s at count) i d ≡ read (record_at s (at + 24 * i))
  record_of s at zero i d h = absurd (omega arith)
  record_of s at (suc count) zero d h = let z : at + 24 * 0 ≡ at = omega arith in rw z
  record_of s at (suc count) (suc i) d h =
      let m : at + 24 * suc i ≡ at + 24 + 24 * i = omega arith in
      rw m (record_of s (at + 24) count i d (omega arith))

  -- what is told of each
  pub records_map : {B : Type 0} (tell : A → B) (s : List ℕ) (at count : ℕ)
      → records_from (λ (b : List ℕ). tell (read b)) s at count ≡ map tell (records_from read s at count)
  records_map tell s at zero = refl
  records_map tell s at (suc count) = rw (records_map tell s (at + 24) count)

  -- in the bytes from an offset on
  pub records_drop : (s : List ℕ) (from at count : ℕ) → records_from read (drop from s) at count ≡ records_from read s (from + at) count
  records_drop s from at zero = refl
  records_drop s from at (suc count) = rw (drop-drop at from s, records_drop s from (at + 24) count, add_assoc from at 24)

  -- and in the first bytes, as far as these go
  pub records_take : (s : List ℕ) (n at count : ℕ) → at + 24 * count ≤ n → records_from read (take n s) at count ≡ records_from read s at count
  records_take s n at zero h = refl
  records_take s n at (suc count) h = rw (within 24 at n s (omega arith), records_take s n (at + 24) count (omega arith))

  pub records_fit : {P : A → Type 0} → ((b : List ℕ) → AreBytes b → P (read b)) → {s : List ℕ} → AreBytes s → (at count : ℕ) → Each P (records_from read s at count)
  records_fit fits are at zero = none
  records_fit fits are at (suc count) = more (fits _ (record_below at are)) (records_fit fits are (at + 24) count)

  module _ (write : A → List ℕ) where
    -- what was written is read, where it stands
    pub records_read : {P : A → Type 0} → ((a : A) → length (write a) ≡ 24) → ((a : A) → P a → read (write a) ≡ a) → (xs : List A) → Each P xs
        → (s rest : List ℕ) (at : ℕ) → drop at s ≡ flat_map write xs ++ rest → records_from read s at (length xs) ≡ xs
    unfolding flat_map
    records_read size back [] none s rest at e = refl
    records_read size back (a ∷ xs) (more p ps) s rest at e =
        let f : drop at s ≡ write a ++ (flat_map write xs ++ rest) = e ∙ append_assoc (write a) _ _ in
        let after : drop (at + 24) s ≡ flat_map write xs ++ rest = rw (← drop-drop 24 at s, f) (drop_at (write a) _ 24 (size a)) in
        rw (f, take_at (write a) (flat_map write xs ++ rest) 24 (size a), back a p, records_read size back xs ps s rest (at + 24) after)

    -- what was read is written
    pub records_written : ((b : List ℕ) → length b ≡ 24 → AreBytes b → write (read b) ≡ b) → (s : List ℕ) → AreBytes s → (at count : ℕ) → at + 24 * count ≤ length s
        → flat_map write (records_from read s at count) ≡ take (24 * count) (drop at s)
    unfolding flat_map
    records_written back s are at zero h = refl
    records_written back s are at (suc count) h =
        let m : 24 * suc count ≡ 24 + 24 * count = omega arith in
        let one : write (read (record_at s at)) ≡ record_at s at = back _ (length_record s at (omega arith)) (record_below at are) in
        rw (m, take-add 24 (24 * count) (drop at s), drop-drop 24 at s, one, records_written back s are (at + 24) count (omega arith))

pub length_flat : {A : Type 0} (write : A → List ℕ) → ((a : A) → length (write a) ≡ 24) → (xs : List A) → length (flat_map write xs) ≡ 24 * length xs
unfolding flat_map
length_flat write size [] = refl
length_flat write size (a ∷ xs) = omega (arith, length-append (write a) (flat_map write xs), size a, length_flat write size xs)

-- ---- the file

module _ (ss : List SheetRecord) (es : List EventRecord) where
  pub length_file : length (file_bytes ss es) ≡ 16 + 24 * length ss + 24 * length es
  unfolding file_bytes words_bytes bytes_of
  length_file = simp length-append (omega (arith, length_flat sheet_bytes length_sheet ss, length_flat event_bytes length_event es))

  module _ (few : length ss ≤ 16) (short : length es ≤ 2700) where
    sheets_said_lem : sheet_count (file_bytes ss es) ≡ length ss
    unfolding file_bytes words_bytes bytes_of
    sheets_said_lem = number_bytes 4 (length ss) (omega arith)

    events_said_lem : event_count (file_bytes ss es) ≡ length es
    unfolding file_bytes words_bytes bytes_of
    events_said_lem = number_bytes 4 (length es) (omega arith)

    file_shape : Shape (file_bytes ss es)
    unfolding file_bytes words_bytes bytes_of
    file_shape =
        record {
          header = omega (arith, length_file);
          sheets = rw sheets_said_lem few;
          first = refl;
          events = rw events_said_lem short;
          second = number_bytes 4 (16 + 24 * length ss) (omega arith) ∙ rw sheets_said_lem;
          end = length_file ∙ rw (sheets_said_lem, events_said_lem);
        }

pub reads_back : ReadsBack
unfolding file_bytes words_bytes bytes_of
reads_back ss es few short fs fe =
    let n = sheets_said_lem ss es few short in
    let m = events_said_lem ss es few short in
    let l = length_flat sheet_bytes length_sheet ss in
    let s : drop 16 (file_bytes ss es) ≡ flat_map sheet_bytes ss ++ flat_map event_bytes es = refl in
    let e : drop (16 + 24 * length ss) (file_bytes ss es) ≡ flat_map event_bytes es ++ [] =
    rw (← drop-drop (24 * length ss) 16 (file_bytes ss es), append-nil) (drop_at (flat_map sheet_bytes ss) _ _ l) in
    record {
      formed = formed _ (file_shape ss es few short);
      sheets_said = n;
      events_said = m;
      bytes = rw n (take_at (flat_map sheet_bytes ss) _ _ l);
      sheets = rw n (records_read sheet_of sheet_bytes length_sheet sheet_read ss fs (file_bytes ss es) _ 16 s);
      events = rw (n, m) (records_read event_of event_bytes length_event event_read es fe (file_bytes ss es) _ _ e);
    }

module _ (file : List ℕ) (are : AreBytes file) (f : Shape file) where
  again : file ≡ file_bytes (sheet_records_of file) (events_of file)
  unfolding file_bytes words_bytes
  again =
      let n = sheet_count file in
      let m = event_count file in
      let a : u32_bytes n ≡ take 4 file = bytes_number 4 file 0 (omega arith) are in
      let b : u32_bytes 16 ≡ take 4 (drop 4 file) = ap u32_bytes (sym f.first) ∙ bytes_number 4 file 4 (omega arith) are in
      let c : u32_bytes m ≡ take 4 (drop 8 file) = bytes_number 4 file 8 (omega arith) are in
      let d : u32_bytes (16 + 24 * n) ≡ take 4 (drop 12 file) = ap u32_bytes (sym f.second) ∙ bytes_number 4 file 12 (omega arith) are in
      let s = records_written sheet_of sheet_bytes sheet_written file are 16 n (omega arith) in
      let e = records_written event_of event_bytes event_written file are (16 + 24 * n) m (omega arith) in
      sym
      (rw (length_records sheet_of file 16 n, length_records event_of file (16 + 24 * n) m, s, e, a, b, c, d, append-nil)
      (rw (← append_assoc (take 4 file), ← append_assoc, ← take-add 4 4 file, ← take-add 8 4 file, ← take-add 12 4 file)
      (rw (← take-add 16 (24 * n) file, ← take-add (16 + 24 * n) (24 * m) file) (take_all (16 + 24 * n + 24 * m) file (omega arith)))))

pub made_again : MadeAgain
made_again file are w =
    record {
      is = again file are (shape file w);
      sheets_fit = records_fit sheet_of sheet_fits are 16 (sheet_count file);
      events_fit = records_fit event_of event_fits are (16 + 24 * sheet_count file) (event_count file);
    }
