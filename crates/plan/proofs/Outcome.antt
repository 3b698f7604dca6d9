-- The header, sheets and events of a plan, put one after the other, are its file, and that file holds the plan. Assumes nothing.
use Prim.Native.Nat.{ℕ}
use native.Mathlib.Omega.{arith}
use mathlib.Core.List.{List, flat_map}
use mathlib.Core.Path.{◌≡◌}
use lib.ListN.{length, take}
use lib.Seq.{take_all}
use Rattle.layout.specs.Lent.{Puts}
use Rattle.rules.specs.declared.Event.{Event}
use Rattle.format.specs.File.{Each, header_bytes}
use Rattle.contents.specs.declared.PlannedSheet.{PlannedSheet}
use Rattle.contents.specs.Plan.{planned_bytes, typed_bytes, plan_bytes, PlannedFits, TypedFits}
use Rattle.contents.specs.Contents.{HoldsPlan}
use Rattle.contents.proofs.Planned.{Served, plan_put}
use Rattle.contents.proofs.RoundTrip.{held}

module _ (sheets : List PlannedSheet) (events : List Event) where
  all_sheets : take (length sheets) sheets ≡ sheets
  all_sheets = take_all (length sheets) sheets (omega arith)

  all_events : take (length events) events ≡ events
  all_events = take_all (length events) events (omega arith)

  pub put : {old a b c : List ℕ} {first at past : ℕ} → Puts old 0 (header_bytes (length sheets) (length events)) a first → Puts a first (flat_map planned_bytes sheets) b at
      → Puts b at (flat_map typed_bytes events) c past → Puts old 0 (plan_bytes sheets events) c past
  put {old} {a} {b} {c} {first} {at} {past} h s e =
      let ss : Puts a first (flat_map planned_bytes (take (length sheets) sheets)) b at = rw all_sheets s in
      let es : Puts b at (flat_map typed_bytes (take (length events) events)) c past = rw all_events e in
      rw (all_sheets, all_events) at (plan_put sheets (length sheets) events (length events) (omega arith) (omega arith) h ss es)

  pub holds : {room : ℕ} → Served (length sheets) (length events) room → Each PlannedFits sheets → Each TypedFits events → {old out : List ℕ} {past : ℕ}
      → Puts old 0 (plan_bytes sheets events) out past → HoldsPlan (take past out) sheets events
  holds h fs fe {old} {out} {past} p =
      let ss : Each PlannedFits (take (length sheets) sheets) = rw all_sheets fs in
      let es : Each TypedFits (take (length events) events) = rw all_events fe in
      let q : Puts old 0 (plan_bytes (take (length sheets) sheets) (take (length events) events)) out past = rw (all_sheets, all_events) p in
      rw (all_sheets, all_events) at (held sheets (length sheets) events (length events) (omega arith) (omega arith) h ss es q)
