-- `plan::write` meets its contract: turned away, or header, sheets and events put one after the other, which is what the reader then gives.
-- Assumes nothing.
use native.Mathlib.Omega.{arith}
use mathlib.Core.Path.{refl}
use Rattle.layout.proofs.RoundTrips.{length_sheet}
use Rattle.layout.proofs.Lent.{puts_length, filled}
use Rattle.format.proofs.File.{length_flat}
use Rattle.contents.specs.Plan.{planned_bytes}
use Rattle.contents.proofs.Planned.{served}
use Rattle.plan.proofs.Outcome.{put, holds}
use Rattle.plan.proofs.write.Goals as goal

pub put_header-requires : goal.put_header-requires
put_header-requires c = let h = served _ _ _ c.in_ok-accept.ensures refl in (h.few, h.short, omega (arith, h.holds))

pub put_all-at-requires : goal.put_all-at-requires
put_all-at-requires c = let h = served _ _ _ c.in_ok-accept.ensures refl in omega (arith, h.holds, puts_length c.put_header.ensures)

pub put_all-written-requires : goal.put_all-written-requires
put_all-written-requires c =
    let h = served _ _ _ c.in_ok-accept.ensures refl in
    let q = c.put_all-at.ensures.0 in
    let l = length_flat planned_bytes (λ s. length_sheet _) c.args.sheets.now in
    omega (arith, h.holds, puts_length c.put_header.ensures, q.ends, puts_length q, l)

pub returns-clause-fills_plan : goal.returns-clause-fills_plan
returns-clause-fills_plan c =
    let a = c.args in
    filled c.in_ok-accept.ensures refl (put a.sheets.now a.events.now c.put_header.ensures c.put_all-at.ensures.0 c.put_all-written.ensures.0)

pub returns-clause-holds_plan : goal.returns-clause-holds_plan
returns-clause-holds_plan c =
    let h = served _ _ _ c.in_ok-accept.ensures refl in
    let a = c.args in
    let s = c.put_all-at.ensures in
    let e = c.put_all-written.ensures in
    λ z. holds a.sheets.now a.events.now h s.1 e.1 (put a.sheets.now a.events.now c.put_header.ensures s.0 e.0)
