-- Stepping day by day from 1 January 2000 meets exactly the dates of the calendar, each once, 36,525 in all. Assumes nothing.
use mathlib.Core.Path.{◌≡◌, refl, sym, ap, subst, ◌∙◌}
use mathlib.Core.Bool.{Bool, true, false, cond}
use Prim.Native.Nat.{ℕ, zero, suc, ◌+◌, ◌-◌, ◌<◌}
use native.Mathlib.Omega.{arith}
use lib.Dec.{eqb}
use lib.ListN.{length, get_or}
use borrow.Author.Tests.{eq-eqb, ne_eqb}
use Rattle.calendar.specs.Dates.{month_days, valid_date, next_day}
use Rattle.calendar.specs.Count.{days_from, days, how_many, Stepping}
use Rattle.calendar.proofs.Dates.{facts, holds, clash}
use Rattle.calendar.proofs.Number.{day_number, same, positive, last_number}
use Rattle.calendar.proofs.Steps.{step, later, at_least, at_most}
use Rattle.calendar.proofs.Counting.{last_valid, at_most_number, Reached, start, on, in_days}
use Rattle.calendar.proofs.Term.{back, before_valid}

length_from : (n d : ℕ) → length (days_from n d) ≡ n
unfolding days_from
length_from zero d = refl
length_from (suc n) d = ap suc (length_from n (next_day d))

pub days_number : length days ≡ 36525
unfolding days
days_number = length_from 36525 20000101

pub each_once : (d : ℕ) → how_many (eqb d) days ≡ cond (valid_date d) 1 0
each_once d = go (valid_date d) refl
  where
    go : (b : Bool) → valid_date d ≡ b → how_many (eqb d) days ≡ cond b 1 0
    go true e =
        let v = facts d e in
        in_days (eqb d) (day_number d - 1) (day_number d)
        (record {
          ordered = omega arith;
          below = λ x w h. ne_eqb d x (λ q. omega (arith, ap day_number q, positive d v));
          inside = λ x w g h. eq-eqb d x (same d x v w (omega arith));
          above = λ x w h. ne_eqb d x (λ q. omega (arith, ap day_number q));
        })
        (at_most_number d v)
        ∙ omega (arith, positive d v)
    go false e =
        in_days (eqb d) 0 0
        (record {
          ordered = omega arith;
          below = λ x w h. absurd (omega (arith, positive x w));
          inside = λ x w g h. absurd (omega arith);
          above = λ x w h. ne_eqb d x (λ q. clash e (rw (sym q) at (holds x w)));
        })
        (omega arith)

-- the days in their places
next_from : (n d i : ℕ) → suc i < n → get_or (days_from n d) (suc i) 0 ≡ next_day (get_or (days_from n d) i 0)
unfolding days_from
next_from zero d i h = absurd (omega arith)
next_from (suc zero) d i h = absurd (omega arith)
next_from (suc (suc n)) d zero h = refl
next_from (suc (suc n)) d (suc i) h = next_from (suc n) (next_day d) i (omega arith)

reached_from : (n d o i : ℕ) → i < n → Reached d o → Reached (get_or (days_from n d) i 0) (o + i)
unfolding days_from
reached_from zero d o i h r = absurd (omega arith)
reached_from (suc n) d o zero h r = let e : o ≡ o + 0 = omega arith in subst (Reached d) e r
reached_from (suc n) d o (suc i) h r =
    let e : suc o + i ≡ o + suc i = omega arith in rw e at (reached_from n (next_day d) (suc o) i (omega arith) (on d o r))

first_day : get_or days 0 0 ≡ 20000101
unfolding days days_from
first_day = refl

last_day_lem : get_or days 36524 0 ≡ 20991231
unfolding days Reached
last_day_lem =
    let p = reached_from 36525 20000101 0 36524 (omega arith) start (omega arith) in
    same (get_or (days_from 36525 20000101) 36524 0) 20991231 p.valid last_valid (omega (arith, p.numbered, last_number))

each_next : (i : ℕ) → suc i < 36525 → get_or days (suc i) 0 ≡ next_day (get_or days i 0)
unfolding days
each_next i h = next_from 36525 20000101 i h

pub stepping : Stepping
unfolding next_day month_days
stepping =
    record {
      first = first_day;
      each_next = each_next;
      last = last_day_lem;
      each_once = each_once;
      in_all = days_number;
      between = λ d e. (at_least d (facts d e), at_most d (facts d e));
      later = λ d e. later d (facts d e);
      next_date = λ d e h. holds (next_day d) (step d (facts d e) h).valid;
      ends = refl;
      back = λ d e. let v = facts d e in back d (omega (arith, v.year_low)) v.month_low v.month_high v.day_low (omega (arith, v.day_high));
      date_before = λ d e h. before_valid d (facts d e) h;
    }
