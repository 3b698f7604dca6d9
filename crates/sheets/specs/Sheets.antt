-- The list of sheets, as the bytes of its 24-byte records, and what a load finds there: document 01's refusals 1 and 2. Assumes
-- nothing.
use Rattle.std.specs.Prelude.{ℕ, ◌*◌, ◌/◌, Bool, ◌&&◌, cond, List, ltb, eqb, nat_abs, length, Err, Ok, Result}
use Rattle.std.specs.Int.Signed.{non_neg}
use Rattle.curve.specs.declared.Sheet.{Sheet}
use Rattle.curve.specs.Limits.{sheet_within}
use Rattle.layout.specs.declared.SheetRecord.{SheetRecord}
use Rattle.layout.specs.Records.{sheet_at}
use Rattle.refusals.specs.declared.Refusal.{Refusal}
use Rattle.refusals.specs.Numbers.{refusal_number}

-- what a load finds: a sheet, or its refusal
abbrev pub Lookup : Type 0
Lookup = Result Sheet Refusal

-- the paper's refusal number of a lookup, 0 if a sheet was found
abbrev pub lookup_refusal : Lookup → ℕ
lookup_refusal (Ok s) = 0
lookup_refusal (Err why) = refusal_number why

-- how many sheets the bytes hold
abbrev pub sheets_held : List ℕ → ℕ
sheets_held sheets = length sheets / 24

-- a record's numbers as a sheet, for coefficients that are not below 0
abbrev pub as_sheet : SheetRecord → Sheet
as_sheet r = record { a1 = nat_abs r.a1; a2 = nat_abs r.a2; a3 = nat_abs r.a3; t0 = r.t0; k = r.k }

-- within the limits of a sheet, and its zero bytes zero
abbrev pub record_within : SheetRecord → Bool
record_within r = non_neg r.a1 && non_neg r.a2 && non_neg r.a3 && sheet_within (as_sheet r) && eqb r.rest 0

-- refusal 1: the index is not in the list; refusal 2: that sheet is outside its limits or its zero bytes are not zero
unfoldable pub lookup_of : List ℕ → ℕ → Lookup
lookup_of sheets index =
    cond (ltb index (sheets_held sheets))
    (cond (record_within (sheet_at sheets (24 * index))) (Ok (as_sheet (sheet_at sheets (24 * index)))) (Err Refusal.BadSheet))
    (Err Refusal.NoSheet)
