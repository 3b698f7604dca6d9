use native.Mathlib.Omega.{arith}
use Rattle.layout.proofs.RoundTrips.{length_event}
use Rattle.entries.specs.Entries.{record_of_event}
use Rattle.plan.proofs.EventPlanned.put.Goals as goal

pub returns : goal.returns
returns c =
    let r = c.event_record.ensures in (
      record { ends = omega (arith, length_event (record_of_event c.args.self.now)); room = c.requires; stands = rw r.0 at c.put_event.ensures },
      rw r.0 at r.1,
    )
