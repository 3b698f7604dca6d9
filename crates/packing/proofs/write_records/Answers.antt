-- `packing::write_records` meets its contract: turned away, or header, sheets and events put one after the other. Assumes nothing.
use native.Mathlib.Omega.{arith}
use mathlib.Core.Path.{refl}
use Rattle.layout.specs.Records.{sheet_of}
use Rattle.layout.proofs.RoundTrips.{length_sheet}
use Rattle.layout.proofs.Lent.{puts_length, filled}
use Rattle.packing.proofs.Outcome.{packed_put}
use Rattle.packing.proofs.Parts.{pieces_length}
use Rattle.contents.proofs.Packed.{served}
use Rattle.packing.proofs.write_records.Goals as goal

pub put_header-requires : goal.put_header-requires
put_header-requires c =
    let h = served _ _ _ c.in_ok-accept.ensures refl in (omega (arith, h.few), omega (arith, h.short), omega (arith, h.holds))

pub put_records-at-requires : goal.put_records-at-requires
put_records-at-requires c =
    let h = served _ _ _ c.in_ok-accept.ensures refl in omega (arith, h.holds, puts_length c.put_header.ensures)

pub put_records-written-requires : goal.put_records-written-requires
put_records-written-requires c =
    let h = served _ _ _ c.in_ok-accept.ensures refl in
    let q = c.put_records-at.ensures in
    omega (arith, h.holds, puts_length c.put_header.ensures, q.ends, puts_length q, pieces_length _ (λ piece. length_sheet (sheet_of piece)) c.args.sheets.now)

pub returns : goal.returns
returns c =
    filled c.in_ok-accept.ensures refl
    (packed_put c.args.sheets.now c.args.events.now c.put_header.ensures c.put_records-at.ensures c.put_records-written.ensures)
