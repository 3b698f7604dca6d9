-- How the writer of lesson plans leaves a lent buffer (document 02, R-2). Assumes nothing.
use Rattle.std.specs.Prelude.{ℕ, List, length}
use Rattle.layout.specs.Lent.{Fills}
use Rattle.rules.specs.declared.Event.{Event}
use Rattle.contents.specs.declared.PlannedSheet.{PlannedSheet}
use Rattle.contents.specs.Plan.{plan_bytes, plan_status}

-- what the writer leaves of sheets and events in a lent buffer that was `old`
abbrev pub FillsPlan : List PlannedSheet → List Event → List ℕ → ℕ → ℕ → List ℕ → Type 0
FillsPlan sheets events old status written out =
    Fills (plan_status (length sheets) (length events) (length old)) (plan_bytes sheets events) old status written out
