-- `workable` meets its contract: it makes the definition's tests in the definition's order. Assumes nothing.
use borrow.Author.Rules.{rules}
use Rattle.rules.specs.Limits.{workable}
use Rattle.engine.proofs.limits.workable.Goals as goal

pub returns-then-integration_within : goal.returns-then-integration_within
unfolding workable
returns-then-integration_within c = search rules

pub returns-else-integration_within : goal.returns-else-integration_within
unfolding workable
returns-else-integration_within c = search rules
