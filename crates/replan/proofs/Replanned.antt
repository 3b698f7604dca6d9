-- How `replan` ends: turned away with 12 or 11, or as the writer does of what the reader gives. Assumes nothing.
use Prim.Native.Nat.{ℕ, ◌-◌, ◌*◌, ◌≤◌}
use native.Mathlib.Omega.{arith}
use mathlib.Core.Bool.{true, false}
use mathlib.Core.List.{List}
use mathlib.Core.Path.{◌≡◌, ◌∙◌}
use lib.ListN.{length, take, drop, length-drop}
use lib.Seq.{take_all, length-take-le}
use Rattle.layout.specs.Records.{sheet_of, event_of}
use Rattle.rules.specs.declared.Event.{Event}
use Rattle.format.proofs.File.{records_map}
use Rattle.format.specs.Header.{sheet_count, event_count, first_event, well_formed, records_from}
use Rattle.entries.specs.Entries.{entry_of}
use Rattle.contents.specs.declared.PlannedSheet.{PlannedSheet}
use Rattle.contents.specs.Contents.{numbers_of, known_event, sheets_given, events_given, plain_file}
use Rattle.contents.specs.Packed.{packed}
use Rattle.contents.specs.Repacked.{event_bytes_of}
use Rattle.contents.proofs.RoundTrip.{sheets_of_lem, sheets_given_lem, events_given_lem, plan_status_lem}
use Rattle.contents.proofs.Repacked.{packed_plain}
use Rattle.plan.specs.Write.{FillsPlan}
use Rattle.replan.specs.Again.{again_status, FillsAgain}

-- as many are read as a slice of so many holds
pub counted : {A : Type 0} (read : List ℕ → A) (file : List ℕ) (at n : ℕ) (ys : List A) {xs : List A} → xs ≡ records_from read file at (length (take n ys)) → n ≤ length ys
    → xs ≡ records_from read file at n
counted read file at n ys e h = rw (length-take-le n ys h) at e

module _ (file : List ℕ) where
  pub again_12 : (room : ℕ) → well_formed file ≡ false → 12 ≡ again_status file room
  unfolding again_status
  again_12 room w = rw w

  pub again_11 : (room : ℕ) → well_formed file ≡ true → plain_file file ≡ false → 11 ≡ again_status file room
  unfolding again_status
  again_11 room w p = rw (p, w)

  module _ {n m from : ℕ} (hn : n ≡ sheet_count file) (hm : m ≡ event_count file) (hf : from ≡ first_event file) (w : well_formed file ≡ true) where
    pub again_written : (sheets : List PlannedSheet) (events : List Event) → sheets ≡ records_from (λ b. numbers_of (sheet_of b)) file 16 n
        → events ≡ records_from (λ b. known_event (entry_of (event_of b))) file from m → plain_file file ≡ true
        → {old : List ℕ} {status written : ℕ} {out : List ℕ} → FillsPlan sheets events old status written out → FillsAgain file old status written out
    unfolding again_status
    again_written sheets events ss es p {old} f =
        let a : sheets ≡ sheets_given file = ss ∙ records_map sheet_of numbers_of file 16 n ∙ rw (hn, sheets_of_lem file w) in
        let b : events ≡ events_given file = es ∙ records_map (λ b. entry_of (event_of b)) known_event file from m ∙ rw (records_map event_of entry_of file from m, hm, hf) in
        rw (p, w) (rw (a, b, sheets_given_lem file w, events_given_lem file w, plan_status_lem file w _) at f)

-- one that is well-formed is plain where its records, as the code cuts them out, are packed
pub packed_parts : (file : List ℕ) {from : ℕ} → from ≡ first_event file → well_formed file ≡ true
    → packed (take (from - 16) (drop 16 file)) (take (length file - from) (drop from file)) ≡ plain_file file
packed_parts file {from} f w =
    let n : from - 16 ≡ 24 * sheet_count file = omega (arith, f) in
    let e : take (length file - from) (drop from file) ≡ event_bytes_of file = take_all (length file - from) (drop from file) (omega (arith, length-drop from file)) ∙ rw f in
    rw (n, e) (packed_plain file w)
