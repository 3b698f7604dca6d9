-- The header, sheets and events of lent records, put one after the other, are their file. Assumes nothing.
use Prim.Native.Nat.{ℕ, ◌/◌}
use mathlib.Core.List.{List, flat_map}
use lib.ListN.{length}
use Rattle.layout.specs.Lent.{Puts}
use Rattle.layout.specs.Records.{sheet_of, sheet_bytes, event_of, event_bytes}
use Rattle.layout.proofs.Lent.{puts_both}
use Rattle.format.specs.File.{header_bytes, file_bytes}
use Rattle.format.proofs.File.{length_records}
use Rattle.contents.specs.Packed.{packed_bytes}
use Rattle.validation.specs.Parts.{pieces_in}
use Rattle.packing.proofs.Parts.{put_as}

pub packed_put : (sheets events : List ℕ) {old a b c : List ℕ} {first at past : ℕ} → Puts old 0 (header_bytes (length sheets / 24) (length events / 24)) a first
    → Puts a first (flat_map (λ piece. sheet_bytes (sheet_of piece)) (pieces_in sheets)) b at → Puts b at (flat_map (λ piece. event_bytes (event_of piece)) (pieces_in events)) c past
    → Puts old 0 (packed_bytes sheets events) c past
unfolding packed_bytes file_bytes
packed_put sheets events h s e =
    rw (length_records sheet_of sheets 0 (length sheets / 24), length_records event_of events 0 (length events / 24), ← put_as sheet_bytes sheet_of sheets, ← put_as event_bytes event_of events)
    (puts_both (puts_both h s) e)
