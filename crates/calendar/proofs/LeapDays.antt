-- The 29 Februaries among the days that a dated sheet serves: none or one, and two years are 730 days and one for each. Assumes nothing.
use mathlib.Core.Path.{◌≡◌, refl, sym, ap, ◌∙◌}
use mathlib.Core.Bool.{Bool, true, false, cond, ◌&&◌}
use Prim.Native.Nat.{ℕ, ◌+◌, ◌*◌, ◌-◌, ◌/◌, ◌%◌, ◌≤◌, ◌<◌}
use native.Mathlib.Omega.{arith}
use lib.Dec.{leb, ltb, eqb}
use borrow.Author.Tests.{ltb-true, ltb-false, leb-true, leb-false, eqb-true, eqb-false}
use Rattle.calendar.specs.Dates.{year_of, month_of, day_of, date_of, leap_year, month_days, month_length, leap_day}
use Rattle.calendar.specs.Term.{serves}
use Rattle.calendar.specs.Count.{days, how_many}
use Rattle.calendar.proofs.Dates.{Valid, is_leap, leap_is, leap_not}
use Rattle.calendar.proofs.Number.{days_before, year_start, number, day_number, same, positive, before_early, before_late}
use Rattle.calendar.proofs.Counting.{in_days, at_most_number}
use Rattle.calendar.proofs.Term.{leap_day_lem}
use Rattle.calendar.proofs.Served.{two_years, two_years_number, in_term_lem, served}

-- two fourth years less than two years apart
fours : (a b : ℕ) → a % 4 ≡ 0 → b % 4 ≡ 0 → a < b + 2 → b < a + 2 → a ≡ b
fours a b e f g h = omega arith

-- a 29 February stands in a fourth year
fourth : (t : ℕ) → Valid t → leap_day t ≡ true → (year_of t % 4 ≡ 0) × (t ≡ date_of (year_of t) 2 29)
unfolding month_days
fourth t w e =
    let l = leap_day_lem t e in
    let k : 29 ≤ month_length (year_of t) 2 + 0 = rw (l.0, l.1) at w.day_high in
    (go (leap_year (year_of t)) refl k, omega (arith, l))
  where
    go : (b : Bool) → leap_year (year_of t) ≡ b → 29 ≤ month_days b 2 + 0 → year_of t % 4 ≡ 0
    go true e k = leap_is (year_of t) w.year_low w.year_high e
    go false e k = absurd (omega arith)

-- and each fourth year has one
the_leap_day : (y : ℕ) → 2000 ≤ y → y ≤ 2099 → y % 4 ≡ 0 → Valid (date_of y 2 29) × (leap_day (date_of y 2 29) ≡ true)
unfolding month_days
the_leap_day y l h e =
    let a : year_of (date_of y 2 29) ≡ y = omega arith in
    let b : month_of (date_of y 2 29) ≡ 2 = omega arith in
    let c : day_of (date_of y 2 29) ≡ 29 = omega arith in (
      record {
        year_low = omega arith;
        year_high = omega arith;
        month_low = omega arith;
        month_high = omega arith;
        day_low = omega arith;
        day_high = rw (a, b, c, is_leap y l h e) (omega arith);
      },
      rw (b, c),
    )

-- the first year whose 29 February is not past in this month
coming : ℕ → ℕ → ℕ
coming y m = cond (leb m 2) y (y + 1)

-- a day's number is that of a calendar without leap years, and one for each fourth year before the coming one
plain : (y m k : ℕ) → 2000 ≤ y → (3 ≤ m → y ≤ 2099) → number y m k ≡ 365 * (y - 2000) + (coming y m - 1997) / 4 + days_before false m + k
unfolding number year_start coming
plain y m k l h = go (leb m 2) refl
  where
    late : (b : Bool) → leap_year y ≡ b → 3 ≤ m → year_start y + days_before b m + k ≡ 365 * (y - 2000) + (y + 1 - 1997) / 4 + days_before false m + k
    late true e g = omega (arith, leap_is y l (h g) e, before_late m g)
    late false e g = omega (arith, leap_not y l (h g) e)

    go : (b : Bool) → leb m 2 ≡ b → number y m k ≡ 365 * (y - 2000) + (cond b y (y + 1) - 1997) / 4 + days_before false m + k
    go true e = omega (arith, before_early (leap_year y) false m (leb-true m 2 e))
    go false e = late (leap_year y) refl (leb-false m 2 e)

coming_on : (y m : ℕ) → coming (y + 2) m ≡ coming y m + 2
unfolding coming
coming_on y m = go (leb m 2)
  where
    go : (b : Bool) → cond b (y + 2) (y + 2 + 1) ≡ cond b y (y + 1) + 2
    go true = refl
    go false = omega arith

module _ (d : ℕ) (v : Valid d) where
  february : month_of d ≡ 2 → day_of d ≤ 29
  unfolding month_days
  february e = go (leap_year (year_of d)) (rw e at v.day_high)
    where
      go : (b : Bool) → day_of d ≤ month_days b 2 + 0 → day_of d ≤ 29
      go true h = omega arith
      go false h = omega arith

  -- before March the date is at most 29 February
  winter : month_of d ≤ 2 → d ≤ date_of (year_of d) 2 29
  winter h = go (eqb (month_of d) 2) refl
    where
      go : (b : Bool) → eqb (month_of d) 2 ≡ b → d ≤ date_of (year_of d) 2 29
      go true e = let m = eqb-true (month_of d) 2 e in omega (arith, february m)
      go false e = omega (arith, eqb-false (month_of d) 2 e)

  -- the first year whose 29 February can be served
  from : ℕ
  from = coming (year_of d) (month_of d)

  -- a sheet serves on the 29 February of this year and of the next
  record Bounds (w z : ℕ) : Type 0 where
    pub after : w ≤ z → d ≤ date_of z 2 29
    pub before : z < w + 2 → date_of z 2 29 < d + 20000
    pub first : d ≤ date_of z 2 29 → w ≤ z
    pub last : date_of z 2 29 < d + 20000 → z < w + 2

  bounds : (z : ℕ) → Bounds from z
  unfolding from coming
  bounds z = go (leb (month_of d) 2) refl
    where
      go : (b : Bool) → leb (month_of d) 2 ≡ b → Bounds (cond b (year_of d) (year_of d + 1)) z
      go true e =
          let l = winter (leb-true (month_of d) 2 e) in
          record { after = λ h. omega arith; before = λ h. omega arith; first = λ h. omega arith; last = λ h. omega arith }
      go false e =
          let l = leb-false (month_of d) 2 e in
          record { after = λ h. omega arith; before = λ h. omega arith; first = λ h. omega arith; last = λ h. omega arith }

  on_plain : d ≤ 20980101 → two_years d v ≡ day_number d + 730 + ((from + 2 - 1997) / 4 - (from - 1997) / 4)
  unfolding day_number from
  on_plain h =
      let a = plain (year_of d) (month_of d) (day_of d) v.year_low (λ g. v.year_high) in
      let b = plain (year_of d + 2) (month_of d) (day_of d) (omega (arith, v.year_low)) (λ g. omega arith) in
      omega (arith, a, b, two_years_number d v, coming_on (year_of d) (month_of d), v.year_low)

  -- the 29 Februaries among the days served
  abbrev leap_served : ℕ → Bool
  leap_served t = serves d t && leap_day t

  not_leap_served : (t : ℕ) → Valid t → ((d ≤ t) × (t < d + 20000) → leap_day t ≡ true → ⊥) → leap_served t ≡ false
  not_leap_served t w n = go (serves d t) (leap_day t) refl refl
    where
      go : (a b : Bool) → serves d t ≡ a → leap_day t ≡ b → (a && b) ≡ false
      go true true e f = absurd (n (served d v t w e) f)
      go true false e f = refl
      go false b e f = refl

  none : ((t : ℕ) → Valid t → (d ≤ t) × (t < d + 20000) → leap_day t ≡ true → ⊥) → how_many leap_served days ≡ 0
  none n =
      in_days leap_served 0 0
      (record {
        ordered = omega arith;
        below = λ t w h. absurd (omega (arith, positive t w));
        inside = λ t w g h. absurd (omega arith);
        above = λ t w h. not_leap_served t w (n t w);
      })
      (omega arith)

  one : (f : ℕ) → Valid f → leap_day f ≡ true → d ≤ f → f < d + 20000 → how_many leap_served days ≡ 1
  one f z l g h =
      in_days leap_served (day_number f - 1) (day_number f)
      (record {
        ordered = omega arith;
        below = λ t w i. not_leap_served t w (λ s e. omega (arith, ap day_number (unique t w e s), positive f z));
        inside = λ t w i j. let q : f ≡ t = same f t z w (omega arith) in rw (sym q, in_term_lem d v f z g h, l);
        above = λ t w i. not_leap_served t w (λ s e. omega (arith, ap day_number (unique t w e s)));
      })
      (at_most_number f z)
      ∙ omega (arith, positive f z)
    where
      unique : (t : ℕ) → Valid t → leap_day t ≡ true → (d ≤ t) × (t < d + 20000) → t ≡ f
      unique t w e s =
          let p = fourth t w e in let q = fourth f z l in
          let y = fours (year_of t) (year_of f) p.0 q.0 (omega (arith, p.1, q.1)) (omega (arith, p.1, q.1)) in
          omega (arith, p.1, q.1)

  -- so many are served, and two years have one day more for each
  pub record Counted (c : ℕ) : Type 0 where
    pub at_most_one : c ≤ 1
    pub leap_days : how_many leap_served days ≡ c
    pub two_years_are : d ≤ 20980101 → two_years d v ≡ day_number d + 730 + c

  with_leap : (z : ℕ) → z % 4 ≡ 0 → z ≤ 2099 → from ≤ z → z < from + 2 → Counted 1
  with_leap z e h g i =
      let b = bounds z in
      let l = (bounds from).after (omega arith) in
      let f = the_leap_day z (omega (arith, v.year_low)) h e in
      record {
        at_most_one = omega arith;
        leap_days = one (date_of z 2 29) f.0 f.1 (b.after g) (b.before i);
        two_years_are = λ a. omega (arith, on_plain a, v.year_low);
      }

  without_leap : ((z : ℕ) → z % 4 ≡ 0 → z ≤ 2099 → from ≤ z → z < from + 2 → ⊥) → (d ≤ 20980101 → (from + 2 - 1997) / 4 ≡ (from - 1997) / 4) → Counted 0
  without_leap n m =
      record {
        at_most_one = omega arith;
        leap_days =
            none (λ t w s e.
            let f = fourth t w e in
            let b = bounds (year_of t) in
            n (year_of t) f.0 w.year_high (b.first (omega (arith, f.1))) (b.last (omega (arith, f.1))));
        two_years_are = λ a. omega (arith, on_plain a, m a);
      }

  -- by the first fourth year from there on: served, past the calendar, or not served
  pub counted : (c : ℕ) × Counted c
  counted = go (ltb z (from + 2)) (leb z 2099) refl refl
    where
      z : ℕ
      z = (from + 3) / 4 * 4

      go : (a b : Bool) → ltb z (from + 2) ≡ a → leb z 2099 ≡ b → (c : ℕ) × Counted c
      go true true e f = (1, with_leap z (omega arith) (leb-true z 2099 f) (omega arith) (ltb-true z (from + 2) e))
      go true false e f =
          let g = ltb-true z (from + 2) e in
          let h = leb-false z 2099 f in
          (0, without_leap (λ y p q r s. omega arith) (λ a. absurd (omega (arith, (bounds 2098).first (omega arith)))))
      go false b e f =
          let g = ltb-false z (from + 2) e in
          let l = (bounds from).after (omega arith) in
          (0, without_leap (λ y p q r s. omega arith) (λ a. omega (arith, v.year_low)))
