-- `packing::put_records` meets its contract: its loop has the invariant `Putting`. Assumes nothing.
use Prim.Native.Nat.{ℕ, ◌/◌}
use native.Mathlib.Nat.{zero-add}
use native.Mathlib.Omega.{arith}
use mathlib.Core.List.{List, []}
use lib.ListN.{length}
use lib.Seq.{take_all}
use Rattle.format.proofs.File.{record_of}
use Rattle.format.proofs.Putting.{begun, turned, ended}
use Rattle.validation.specs.Parts.{pieces_in}
use Rattle.packing.proofs.Parts.{pieces_count}
use Rattle.packing.proofs.put_records.Goals as goal

pub loop-i-init : goal.loop-i-init
loop-i-init g c = begun (omega (arith, c.requires))

pub loop-i-preserved : goal.loop-i-preserved
loop-i-preserved g c =
    let s = c.args.s.now in
    let one = record_of (λ (piece : List ℕ). piece) s 0 (length s / 24) _ [] c.loop-i-test.true in
    turned c.loop-i.invariant [] g.met.P.Part.sized (omega (arith, pieces_count s)) (omega (arith, c.requires)) c.loop-i-test.true
    (rw (one, zero-add) c.put.ensures)

pub returns : goal.returns
returns g c =
    let i = c.loop-i.invariant in
    let s = c.args.s.now in
    rw (← ended i c.loop-i-test.false, take_all (length s / 24) (pieces_in s) (omega (arith, pieces_count s))) at i.put
