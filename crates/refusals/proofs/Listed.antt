-- Every refusal has a number of document 01's list, 1 to 11, so that 0 can stand for an accepted event.
-- Assumes nothing.
use mathlib.Core.Bool.{true, false}
use mathlib.Core.Path.{◌≡◌, refl}
use lib.Dec.{eqb}
use Rattle.curve.specs.Limits.{within}
use Rattle.refusals.specs.declared.Refusal.{Refusal}
use Rattle.refusals.specs.Numbers.{refusal_number}

pub listed : (why : Refusal) → within 1 11 (refusal_number why) ≡ true
listed Refusal.NoSheet = refl
listed Refusal.BadSheet = refl
listed Refusal.BadZero = refl
listed Refusal.BadCylinder = refl
listed Refusal.NoSpan = refl
listed Refusal.BadInput = refl
listed Refusal.BelowZero = refl
listed Refusal.OverRange = refl
listed Refusal.NoReference = refl
listed Refusal.NotNow = refl
listed Refusal.Malformed = refl

-- no refusal has the number 0
pub not_0 : (why : Refusal) → eqb (refusal_number why) 0 ≡ false
not_0 Refusal.NoSheet = refl
not_0 Refusal.BadSheet = refl
not_0 Refusal.BadZero = refl
not_0 Refusal.BadCylinder = refl
not_0 Refusal.NoSpan = refl
not_0 Refusal.BadInput = refl
not_0 Refusal.BelowZero = refl
not_0 Refusal.OverRange = refl
not_0 Refusal.NoReference = refl
not_0 Refusal.NotNow = refl
not_0 Refusal.Malformed = refl
