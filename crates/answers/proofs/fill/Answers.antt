use mathlib.Core.Path.{refl}
use Rattle.answers.proofs.Outcome.{served, room_enough, answered}
use Rattle.answers.proofs.fill.Goals as goal

pub over-ran-requires : goal.over-ran-requires
over-ran-requires c = let h = served _ _ _ c.in_ok-accept.ensures refl in (tt, h.formed, room_enough _ _ h)

pub returns : goal.returns
returns c = answered _ _ c.in_ok-accept.ensures refl c.over-ran.ensures
