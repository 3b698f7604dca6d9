-- What `times_within` says of its parts, and that a load, a told clock and a span keep to it. Assumes nothing.
use mathlib.Core.Bool.{true, ◌&&◌}
use mathlib.Core.Path.{◌≡◌}
use Prim.Native.Nat.{ℕ, ◌≤◌}
use borrow.Author.Tests.{leb-true}
use lib.Dec.{leb}
use lib.Signed.{non_neg}
use lib.IntN.{ℤ, nat_abs}
use Rattle.std.proofs.Common.{Option}
use Rattle.calendar.specs.Dates.{valid_date}
use Rattle.curve.proofs.Within.{both}
use Rattle.timing.specs.declared.Moment.{Moment}
use Rattle.timing.specs.declared.Times.{Times}
use Rattle.timing.specs.Times.{loaded_times, told_at, spanned_at}
use Rattle.timing.specs.Clock.{is_minute, not_earlier, takes_clock}
use Rattle.timing.specs.Needs.{issue_within, clock_within, times_within}

pub issue_in : (t : Times) → times_within t ≡ true → issue_within t.issued ≡ true
unfolding times_within
issue_in t e = (both (issue_within t.issued) (clock_within t.clock) e).0

pub clock_in : (t : Times) → times_within t ≡ true → clock_within t.clock ≡ true
unfolding times_within
clock_in t e = (both (issue_within t.issued) (clock_within t.clock) e).1

-- what is taken for a clock: its date is one of the calendar, its minute is at most 1,439
pub taken_date : (clock : Option Moment) (date : ℕ) (minute : ℤ) → takes_clock clock date minute ≡ true → valid_date date ≡ true
unfolding takes_clock
taken_date clock date minute e =
    let a = both (valid_date date && is_minute minute) (not_earlier clock date (nat_abs minute)) e in
    (both (valid_date date) (is_minute minute) a.0).0

pub taken_minute : (clock : Option Moment) (date : ℕ) (minute : ℤ) → takes_clock clock date minute ≡ true → nat_abs minute ≤ 1439
unfolding takes_clock
taken_minute clock date minute e =
    let a = both (valid_date date && is_minute minute) (not_earlier clock date (nat_abs minute)) e in
    let m = (both (valid_date date) (is_minute minute) a.0).1 in
    leb-true (nat_abs minute) 1439 (both (non_neg minute) (leb (nat_abs minute) 1439) m).1

pub loaded_within_lem : (issued : ℕ) → issue_within issued ≡ true → times_within (loaded_times issued) ≡ true
unfolding times_within
loaded_within_lem issued e = rw e

pub told_within : (t : Times) (date : ℕ) (minute : ℤ) → times_within t ≡ true → takes_clock t.clock date minute ≡ true
    → times_within (told_at t date minute) ≡ true
unfolding times_within
told_within t date minute e k = rw (issue_in t e, taken_date t.clock date minute k)

pub spanned_within : (t : Times) → times_within t ≡ true → times_within (spanned_at t) ≡ true
unfolding times_within
spanned_within t e = e
