-- What a load finds in bytes whose records are those of planned sheets. Assumes nothing.
use Rattle.refusals.specs.declared.Refusal.{Refusal}
use Rattle.std.specs.Prelude.{Err, Ok}
use Prim.Native.Nat.{ℕ, zero, suc, ◌*◌, ◌<◌, ◌≤◌}
use native.Mathlib.Nat.{zero-add}
use native.Mathlib.Omega.{arith}
use mathlib.Core.Bool.{Bool, true, false, ◌&&◌, cond}
use mathlib.Core.List.{List, [], ◌∷◌, map}
use mathlib.Core.Path.{◌≡◌, refl, sym, ap, ◌∙◌}
use borrow.Author.Tests.{ltb-true, ltb-false}
use lib.Dec.{ltb}
use lib.IntN.{pos}
use lib.ListN.{length, get_or, length-map}
use Rattle.layout.specs.declared.SheetRecord.{SheetRecord}
use Rattle.layout.specs.Records.{sheet_of, sheet_at}
use Rattle.sheets.specs.Sheets.{Lookup}
use Rattle.sheets.specs.Sheets.{sheets_held, as_sheet, record_within, lookup_of}
use Rattle.format.proofs.File.{length_records, record_of}
use Rattle.contents.specs.declared.PlannedSheet.{PlannedSheet}
use Rattle.contents.specs.Plan.{record_of_sheet}
use Rattle.contents.specs.Contents.{sheets_in, sheet_from, planned_within, found_among}

and_true : (b : Bool) → (b && true) ≡ b
and_true true = refl
and_true false = refl

-- what a load finds of a record
abbrev record_found : SheetRecord → Lookup
record_found r = cond (record_within r) (Ok (as_sheet r)) (Err Refusal.BadSheet)

planned_found : (s : PlannedSheet) → record_found (record_of_sheet s) ≡ cond (planned_within s) (Ok (sheet_from s)) (Err Refusal.BadSheet)
planned_found s = ap (λ (b : Bool). cond b (Ok (sheet_from s)) (Err Refusal.BadSheet)) (and_true (planned_within s))

-- among the sheets, and past the last
among : (ss : List PlannedSheet) (index : ℕ) (d : SheetRecord) → index < length ss → record_found (get_or (map record_of_sheet ss) index d) ≡ found_among ss index
among [] index d h = absurd (omega arith)
among (s ∷ ss) zero d h = planned_found s
among (s ∷ ss) (suc index) d h = among ss index d (omega arith)

past : (ss : List PlannedSheet) (index : ℕ) → length ss ≤ index → found_among ss index ≡ Err Refusal.NoSheet
past [] index h = refl
past (s ∷ ss) zero h = absurd (omega arith)
past (s ∷ ss) (suc index) h = past ss index (omega arith)

pub planned_loads : (b : List ℕ) (ss : List PlannedSheet) → sheets_in b ≡ map record_of_sheet ss → (index : ℕ) → lookup_of b index ≡ found_among ss index
unfolding lookup_of
planned_loads b ss e index = go (ltb index (sheets_held b)) refl
  where
    n : length ss ≡ sheets_held b
    n = sym (length-map ss record_of_sheet) ∙ ap length (sym e) ∙ length_records sheet_of b 0 (sheets_held b)

    -- any record: the index is that of one
    d : SheetRecord
    d = record { a1 = pos 0; a2 = pos 0; a3 = pos 0; t0 = 0; k = 0; rest = 0 }

    go : (t : Bool) → ltb index (sheets_held b) ≡ t
        → cond t (cond (record_within (sheet_at b (24 * index))) (Ok (as_sheet (sheet_at b (24 * index)))) (Err Refusal.BadSheet)) (Err Refusal.NoSheet) ≡ found_among ss index
    go true t =
        let h : index < sheets_held b = ltb-true _ _ t in
        let one : get_or (map record_of_sheet ss) index d ≡ sheet_at b (24 * index) = rw (← e, record_of sheet_of b 0 (sheets_held b) index d h, zero-add) in
        ap record_found (sym one) ∙ among ss index d (omega (arith, n))
    go false t = sym (past ss index (omega (arith, n, ltb-false index (sheets_held b) t)))
