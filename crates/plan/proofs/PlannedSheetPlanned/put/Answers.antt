use native.Mathlib.Omega.{arith}
use Rattle.layout.proofs.RoundTrips.{length_sheet}
use Rattle.contents.specs.Plan.{record_of_sheet}
use Rattle.plan.proofs.PlannedSheetPlanned.put.Goals as goal

pub returns : goal.returns
returns c =
    let r = c.sheet_record.ensures in (
      record { ends = omega (arith, length_sheet (record_of_sheet c.args.self.now)); room = c.requires; stands = rw r.0 at c.put_sheet.ensures },
      rw r.0 at r.1,
    )
