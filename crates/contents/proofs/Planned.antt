-- What a plan has that is written, and that its header, sheets and events, put one after the other, are its file. Assumes nothing.
use Prim.Native.Nat.{ℕ, ◌+◌, ◌*◌, ◌≤◌}
use native.Mathlib.Omega.{arith}
use mathlib.Core.Bool.{◌&&◌}
use mathlib.Core.List.{List, [], ◌∷◌, map, flat_map}
use mathlib.Core.Path.{◌≡◌, refl, sym, ◌∙◌}
use borrow.Author.Tests.{leb-true}
use lib.Dec.{leb}
use lib.ListN.{length, take, length-map}
use lib.Seq.{length-take-le}
use Rattle.curve.proofs.Within.{both}
use Rattle.layout.specs.Lent.{Puts}
use Rattle.layout.specs.Records.{sheet_bytes, event_bytes}
use Rattle.layout.proofs.Lent.{puts_both, status_passed}
use Rattle.layout.proofs.RoundTrips.{length_sheet}
use Rattle.rules.specs.declared.Event.{Event}
use Rattle.format.specs.File.{header_bytes, file_bytes}
use Rattle.format.proofs.File.{length_flat}
use Rattle.entries.specs.Entries.{record_of_event}
use Rattle.contents.specs.declared.PlannedSheet.{PlannedSheet}
use Rattle.contents.specs.Plan.{record_of_sheet, planned_bytes, typed_bytes, plan_bytes, plan_status}

pub flat_map_lem : {A B : Type 0} (write : B → List ℕ) (f : A → B) (xs : List A) → flat_map (λ (a : A). write (f a)) xs ≡ flat_map write (map f xs)
unfolding flat_map
flat_map_lem write f [] = refl
flat_map_lem write f (a ∷ xs) = rw (flat_map_lem write f xs)

-- within the counts, and with room for the file
pub record Served (sheets events room : ℕ) : Type 0 where
  pub few : sheets ≤ 16
  pub short : events ≤ 2700
  pub holds : 16 + 24 * sheets + 24 * events ≤ room

pub served : (sheets events room : ℕ) {status : ℕ} → status ≡ plan_status sheets events room → status ≡ 0 → Served sheets events room
unfolding plan_status
served sheets events room e z =
    let c = status_passed (leb sheets 16 && leb events 2700) (omega arith) (sym e ∙ z) in
    let n = both (leb sheets 16) (leb events 2700) c.0 in
    let l = status_passed (leb (16 + 24 * sheets + 24 * events) room) (omega arith) c.1 in
    record { few = leb-true _ _ n.0; short = leb-true _ _ n.1; holds = leb-true _ _ l.0 }

module _ (sheets : List PlannedSheet) (n : ℕ) (events : List Event) (m : ℕ) (few : n ≤ length sheets) (short : m ≤ length events) where
  -- the counts of what is planned
  pub sheets_planned : length (take n sheets) ≡ n
  sheets_planned = length-take-le n sheets few

  pub events_planned : length (take m events) ≡ m
  events_planned = length-take-le m events short

  -- and the bytes of the sheets
  pub sheets_length : length (flat_map planned_bytes (take n sheets)) ≡ 24 * n
  sheets_length = length_flat planned_bytes (λ s. length_sheet _) (take n sheets) ∙ rw sheets_planned

  pub plan_put : {old a b c : List ℕ} {first at past : ℕ} → Puts old 0 (header_bytes n m) a first → Puts a first (flat_map planned_bytes (take n sheets)) b at
      → Puts b at (flat_map typed_bytes (take m events)) c past → Puts old 0 (plan_bytes (take n sheets) (take m events)) c past
  unfolding plan_bytes file_bytes
  plan_put h s e =
      let ln : length (map record_of_sheet (take n sheets)) ≡ n = length-map (take n sheets) record_of_sheet ∙ sheets_planned in
      let lm : length (map record_of_event (take m events)) ≡ m = length-map (take m events) record_of_event ∙ events_planned in
      rw (ln, lm, ← flat_map_lem sheet_bytes record_of_sheet (take n sheets), ← flat_map_lem event_bytes record_of_event (take m events)) (puts_both (puts_both h s) e)
