-- Document 01's list of refusals of an event, with its numbers, and those of a reading among them. Assumes nothing.
use Rattle.std.specs.Prelude.{ℕ}
use Rattle.curve.specs.declared.OutOfRange.{OutOfRange}
use Rattle.refusals.specs.declared.Refusal.{Refusal}

abbrev pub refusal_number : Refusal → ℕ
refusal_number Refusal.NoSheet = 1
refusal_number Refusal.BadSheet = 2
refusal_number Refusal.BadZero = 3
refusal_number Refusal.BadCylinder = 4
refusal_number Refusal.NoSpan = 5
refusal_number Refusal.BadInput = 6
refusal_number Refusal.BelowZero = 7
refusal_number Refusal.OverRange = 8
refusal_number Refusal.NoReference = 9
refusal_number Refusal.NotNow = 10
refusal_number Refusal.Malformed = 11

-- a reading is refused with 7 or 8
abbrev pub refusal_of_reading : OutOfRange → Refusal
refusal_of_reading OutOfRange.BelowZero = Refusal.BelowZero
refusal_of_reading OutOfRange.OverRange = Refusal.OverRange
