-- `stored_after` meets its contract: each test is made where those before it hold. Assumes nothing.
use mathlib.Core.Path.{◌≡◌, sym, ◌∙◌}
use mathlib.Core.Bool.{true}
use Rattle.curve.proofs.Within.{both}
use Rattle.sampling.specs.Sample.{air_of, input_within, vapour_within, checked_on}
use Rattle.sampling.proofs.Within.{input_ok}
use Rattle.store.proofs.Keeping.{left_absolute, left_by_6, stays_at, replaced}
use Rattle.store.proofs.stored_after.Goals as goal
use Rattle.store.proofs.stored_after.Goals.{Else-not-inputs_within}

checked : (c : Else-not-inputs_within) → checked_on c.args.mode c.args.at ≡ true
checked c = sym c.inputs_within.ensures ∙ c.if-not-inputs_within.false

pub returns-in_default : goal.returns-in_default
returns-in_default c = sym (left_absolute _ _ _ c.in_default.is)

pub returns-then-is_at : goal.returns-then-is_at
returns-then-is_at c = sym (stays_at _ _ _ _ (sym c.is_at.ensures ∙ c.if-is_at.true))

pub returns-then-not-inputs_within : goal.returns-then-not-inputs_within
returns-then-not-inputs_within c = sym (left_by_6 _ _ _ _ (sym c.inputs_within.ensures ∙ c.if-not-inputs_within.true))

pub searched-requires : goal.searched-requires
searched-requires c =
    let w = both (input_within c.args.at) (vapour_within c.args.mode (air_of c.args.at)) (checked (goal.at.searched-requires c).Else-not-inputs_within) in
    (c.requires.0, rw c.air_of.ensures (input_ok c.args.at w.0).air, c.requires.1, rw c.air_of.ensures w.1)

pub returns : goal.returns
returns c =
    rw (c.searched.ensures, c.air_of.ensures)
    (sym (replaced _ _ _ c.in-Against.is (checked (goal.at.returns c).Else-not-inputs_within) (sym c.is_at.ensures ∙ c.if-is_at.false)))
