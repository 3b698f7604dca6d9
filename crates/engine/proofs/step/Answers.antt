-- `step` meets its contract: a record that is not workable is refused, and every other goes by the rules. Assumes nothing.
use mathlib.Core.Path.{◌≡◌, sym, ◌∙◌}
use mathlib.Core.Bool.{true}
use Rattle.rules.specs.Limits.{workable}
use Rattle.engine.specs.Step.{step_of}
use Rattle.engine.proofs.step.Goals as goal
use Rattle.engine.proofs.step.Goals.{Else-not-workable}

works : (c : Else-not-workable) → workable c.args.state ≡ true
works c = sym c.workable.ensures ∙ c.if-not-workable.false

pub returns-then-not-workable : goal.returns-then-not-workable
unfolding step_of
returns-then-not-workable c = rw (c.refuse.ensures, c.number.ensures, sym c.workable.ensures ∙ c.if-not-workable.true)

pub returns-in-Known : goal.returns-in-Known
unfolding step_of
returns-in-Known c = rw (c.known.ensures, works (goal.at.returns-in-Known c).Else-not-workable, c.in-Known.is)

pub returns-in-Malformed : goal.returns-in-Malformed
unfolding step_of
returns-in-Malformed c = rw (c.malformed.ensures, works (goal.at.returns-in-Malformed c).Else-not-workable, c.in-Malformed.is)
