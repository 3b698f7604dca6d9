-- R-11, check 19: the date and the minute that event kind 11 may tell. Assumes nothing.
use Rattle.std.specs.Prelude.{ℕ, Option, Some, None, Bool, true, ◌&&◌, ◌||◌, leb, ltb, eqb, ℤ, nat_abs}
use Rattle.std.specs.Int.Signed.{non_neg}
use Rattle.calendar.specs.Dates.{valid_date}
use Rattle.timing.specs.declared.Moment.{Moment}

-- a minute 0 to 1,439
abbrev pub is_minute : ℤ → Bool
is_minute minute = non_neg minute && leb (nat_abs minute) 1439

-- not earlier than the clock that stands: a later date, or the same and no earlier minute. An untold clock lets any stand
abbrev pub not_earlier : Option Moment → ℕ → ℕ → Bool
not_earlier None date minute = true
not_earlier (Some before) date minute = ltb before.date date || (eqb before.date date && leb before.minute minute)

-- what is taken: else 19
unfoldable pub takes_clock : Option Moment → ℕ → ℤ → Bool
takes_clock clock date minute = valid_date date && is_minute minute && not_earlier clock date (nat_abs minute)
