-- R-11, check 20: what a span and a sample need once the clock is told. And the dates that a state can hold. Assumes nothing.
use Rattle.std.specs.Prelude.{ℕ, Option, Some, None, Bool, true, false, ◌&&◌, ◌||◌, eqb}
use Rattle.curve.specs.Limits.{within}
use Rattle.calendar.specs.Dates.{valid_date}
use Rattle.calendar.specs.Term.{serves}
use Rattle.timing.specs.declared.Moment.{Moment}
use Rattle.timing.specs.declared.SpanDay.{SpanDay}
use Rattle.timing.specs.declared.Times.{Times}

-- ---- the needs

-- a minute of 480 to 1,019
abbrev pub in_hours : ℕ → Bool
in_hours minute = within 480 1019 minute

-- a serving sheet: an undated one always serves, a dated one on its days
abbrev pub sheet_serves : ℕ → ℕ → Bool
sheet_serves issued day = eqb issued 0 || serves issued day

-- a span set today if any was set since the load; one set before the clock was told counts as not today's
abbrev pub set_today : SpanDay → ℕ → Bool
set_today SpanDay.Unset today = true
set_today SpanDay.BeforeClock today = false
set_today (SpanDay.On day) today = eqb day today

-- ---- by the clock: until it is told, nothing is checked

-- of spans and samples
abbrev pub served_by : Option Moment → ℕ → Bool
served_by None issued = true
served_by (Some now) issued = in_hours now.minute && sheet_serves issued now.date

-- of samples
abbrev pub spanned_today : Option Moment → SpanDay → Bool
spanned_today None spanned = true
spanned_today (Some now) spanned = set_today spanned now.date

-- ---- check 20: else 20
unfoldable pub span_needs_met : Times → Bool
span_needs_met times = served_by times.clock times.issued

unfoldable pub sample_needs_met : Times → Bool
sample_needs_met times = span_needs_met times && spanned_today times.clock times.spanned

-- ---- dates that a state can hold

-- an issue date: 0 for undated, or a date of the calendar; else refusal 2
abbrev pub issue_within : ℕ → Bool
issue_within issued = eqb issued 0 || valid_date issued

abbrev pub clock_within : Option Moment → Bool
clock_within None = true
clock_within (Some now) = valid_date now.date

unfoldable pub times_within : Times → Bool
times_within times = issue_within times.issued && clock_within times.clock
