-- What a lookup tells: a sheet that is found is its record's and within the limits, and a refusal has the number 1 or 2. Assumes
-- nothing.
use Rattle.std.specs.Prelude.{Err, Ok}
use mathlib.Core.Bool.{Bool, true, false, ◌&&◌, cond}
use mathlib.Core.List.{List}
use mathlib.Core.Path.{◌≡◌, refl}
use Prim.Native.Nat.{ℕ, ◌*◌, ◌≤◌}
use native.Mathlib.Omega.{arith}
use lib.Dec.{eqb, ltb}
use lib.Signed.{non_neg}
use Rattle.curve.specs.Limits.{sheet_within}
use Rattle.curve.proofs.Within.{both}
use Rattle.layout.specs.declared.SheetRecord.{SheetRecord}
use Rattle.layout.specs.Records.{sheet_at}
use Rattle.refusals.specs.declared.Refusal.{Refusal}
use Rattle.refusals.specs.Numbers.{refusal_number}
use Rattle.sheets.specs.Sheets.{Lookup, as_sheet, record_within, sheets_held, lookup_of}

-- a record that passes has a sheet within its limits
record_sheet : (r : SheetRecord) → record_within r ≡ true → sheet_within (as_sheet r) ≡ true
record_sheet r e =
    let signs = non_neg r.a1 && non_neg r.a2 && non_neg r.a3 in
    (both signs (sheet_within (as_sheet r)) (both (signs && sheet_within (as_sheet r)) (eqb r.rest 0) e).0).1

abbrev pub LookupTold : List ℕ → ℕ → Lookup → Type 0
LookupTold sheets index (Ok s) = (s ≡ as_sheet (sheet_at sheets (24 * index))) × (sheet_within s ≡ true)
LookupTold sheets index (Err why) = (1 ≤ refusal_number why) × (refusal_number why ≤ 2)

pub lookup_told : (sheets : List ℕ) (index : ℕ) → LookupTold sheets index (lookup_of sheets index)
unfolding lookup_of
lookup_told sheets index = go (ltb index (sheets_held sheets)) (record_within (sheet_at sheets (24 * index))) refl
  where
    go : (t u : Bool) → record_within (sheet_at sheets (24 * index)) ≡ u
        → LookupTold sheets index (cond t (cond u (Ok (as_sheet (sheet_at sheets (24 * index)))) (Err Refusal.BadSheet)) (Err Refusal.NoSheet))
    go true true e = (refl, record_sheet (sheet_at sheets (24 * index)) e)
    go true false e = (omega arith, omega arith)
    go false u e = (omega arith, omega arith)
