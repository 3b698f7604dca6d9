-- R-11: what the engine knows of time, and how a load, a span and a told clock change it. Assumes nothing.
use Rattle.std.specs.Prelude.{ℕ, Option, Some, None, ℤ, nat_abs}
use Rattle.timing.specs.declared.Moment.{Moment}
use Rattle.timing.specs.declared.SpanDay.{SpanDay}
use Rattle.timing.specs.declared.Times.{Times}

-- a load clears the clock, and no span is set since; the sheet's issue date, 0 for undated
abbrev pub loaded_times : ℕ → Times
loaded_times issued = record { issued = issued; clock = None; spanned = SpanDay.Unset }

-- the clock is told, a date and a minute; all else stays
abbrev pub told_at : Times → ℕ → ℤ → Times
told_at times date minute = record { issued = times.issued; clock = Some (record { date = date; minute = nat_abs minute }); spanned = times.spanned }

-- the day of a span that is set now: before the clock was told, or the clock's date
abbrev pub span_day_by : Option Moment → SpanDay
span_day_by None = SpanDay.BeforeClock
span_day_by (Some now) = SpanDay.On now.date

-- a span is set; all else stays
abbrev pub spanned_at : Times → Times
spanned_at times = record { issued = times.issued; clock = times.clock; spanned = span_day_by times.clock }
