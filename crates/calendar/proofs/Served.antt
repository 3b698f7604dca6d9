-- The days that a dated sheet serves, by their numbers: from the number of its issue to that of the date two years on. Assumes nothing.
use mathlib.Core.Path.{◌≡◌, refl, ap}
use mathlib.Core.Bool.{Bool, true, false, and-false}
use Prim.Native.Nat.{ℕ, ◌+◌, ◌-◌, ◌≤◌, ◌<◌, min}
use native.Mathlib.Omega.{arith}
use lib.Dec.{leb, ltb}
use borrow.Author.Tests.{ltb-true, ltb-false, lt-ltb, le-ltb, le-leb, lt-leb}
use Rattle.calendar.specs.Dates.{year_of, month_of, day_of, leap_year}
use Rattle.calendar.specs.Term.{serves}
use Rattle.calendar.specs.Count.{days, how_many}
use Rattle.calendar.proofs.Dates.{Near, Valid, clash, month_near}
use Rattle.calendar.proofs.Number.{year_start, number, day_number, ahead, order_back, le_back, positive, number_21000101}
use Rattle.calendar.proofs.Counting.{in_days, at_most_number}
use Rattle.calendar.proofs.Term.{serves_numbers}

module _ (d : ℕ) (v : Valid d) where
  -- the number of the date two years on, or of 1 March for a 29 February
  pub two_years : ℕ
  two_years = day_number (d + 20000)

  pub two_years_number : two_years ≡ number (year_of d + 2) (month_of d) (day_of d)
  unfolding two_years day_number
  two_years_number =
      let y : year_of (d + 20000) ≡ year_of d + 2 = omega arith in
      let m : month_of (d + 20000) ≡ month_of d = omega arith in
      let k : day_of (d + 20000) ≡ day_of d = omega arith in
      rw (y, m, k)

  near : year_of d ≤ 2097 → Near 1 (d + 20000)
  near h =
      let y : year_of (d + 20000) ≡ year_of d + 2 = omega arith in
      let m : month_of (d + 20000) ≡ month_of d = omega arith in
      let k : day_of (d + 20000) ≡ day_of d = omega arith in
      record {
        year_low = omega (arith, v.year_low);
        year_high = omega arith;
        month_low = omega (arith, v.month_low);
        month_high = omega (arith, v.month_high);
        day_low = omega (arith, v.day_low);
        day_high = rw (y, m, k) (omega (arith, v.day_high, month_near (leap_year (year_of d)) (leap_year (year_of d + 2)) (month_of d)));
      }

  sooner : (t : ℕ) → Valid t → t < d + 20000 → day_number t < two_years
  unfolding two_years
  sooner t w h = omega (arith, ahead 0 t (d + 20000) w (omega (arith, v.day_low)) h)

  sooner_back : (t : ℕ) → Valid t → day_number t < two_years → t < d + 20000
  unfolding two_years
  sooner_back t w h = go (ltb t (d + 20000)) (ltb (d + 20000) t) refl refl
    where
      go : (a b : Bool) → ltb t (d + 20000) ≡ a → ltb (d + 20000) t ≡ b → t < d + 20000
      go true b e f = ltb-true t (d + 20000) e
      go false true e f =
          let g = ltb-true (d + 20000) t f in
          absurd (omega (arith, ahead 1 (d + 20000) t (near (omega (arith, w.year_high))) w.day_low g))
      go false false e f =
          let q : t ≡ d + 20000 = omega (arith, ltb-false t (d + 20000) e, ltb-false (d + 20000) t f) in
          absurd (omega (arith, ap day_number q))

  pub in_term_lem : (t : ℕ) → Valid t → d ≤ t → t < d + 20000 → serves d t ≡ true
  in_term_lem t w g h = rw (serves_numbers d v t w, le-leb d t g, lt-ltb t (d + 20000) h)

  early : (t : ℕ) → Valid t → t < d → serves d t ≡ false
  early t w h = rw (serves_numbers d v t w, lt-leb d t h)

  late : (t : ℕ) → Valid t → d + 20000 ≤ t → serves d t ≡ false
  late t w h = rw (serves_numbers d v t w, le-ltb t (d + 20000) h) (and-false (leb d t))

  -- what serving says of the day
  pub served : (t : ℕ) → Valid t → serves d t ≡ true → (d ≤ t) × (t < d + 20000)
  served t w e = go (ltb t d) (ltb t (d + 20000)) refl refl
    where
      go : (a b : Bool) → ltb t d ≡ a → ltb t (d + 20000) ≡ b → (d ≤ t) × (t < d + 20000)
      go true b p q = absurd (clash (early t w (ltb-true t d p)) e)
      go false true p q = (ltb-false t d p, ltb-true t (d + 20000) q)
      go false false p q = absurd (clash (late t w (ltb-false t (d + 20000) q)) e)

  two_years_after : day_number d < two_years
  two_years_after = sooner d v (omega arith)

  pub serving_count : how_many (serves d) days ≡ min (two_years - 1) 36525 - (day_number d - 1)
  serving_count =
      in_days (serves d) (day_number d - 1) (min (two_years - 1) 36525)
      (record {
        ordered = omega (arith, two_years_after, at_most_number d v);
        below = λ t w h. early t w (order_back t d w v (omega (arith, positive d v)));
        inside = λ t w g h. in_term_lem t w (le_back d t v w (omega arith)) (sooner_back t w (omega (arith, positive t w)));
        above = λ t w h. late t w (not_sooner t w (omega (arith, at_most_number t w)));
      })
      (omega arith)
    where
      not_sooner : (t : ℕ) → Valid t → two_years ≤ day_number t → d + 20000 ≤ t
      not_sooner t w h = go (ltb t (d + 20000)) refl
        where
          go : (b : Bool) → ltb t (d + 20000) ≡ b → d + 20000 ≤ t
          go true e = absurd (omega (arith, sooner t w (ltb-true t (d + 20000) e)))
          go false e = ltb-false t (d + 20000) e

  pub end_count : how_many (leb d) days ≡ 36525 - (day_number d - 1)
  end_count =
      in_days (leb d) (day_number d - 1) 36525
      (record {
        ordered = omega (arith, at_most_number d v);
        below = λ t w h. lt-leb d t (order_back t d w v (omega (arith, positive d v)));
        inside = λ t w g h. le-leb d t (le_back d t v w (omega arith));
        above = λ t w h. absurd (omega (arith, at_most_number t w));
      })
      (omega arith)

  -- a term that ends in 2099, and one that goes on
  pub ends_within : d ≤ 20980101 → two_years ≤ 36526
  unfolding two_years
  ends_within h = go (ltb d 20980101) refl
    where
      go : (b : Bool) → ltb d 20980101 ≡ b → day_number (d + 20000) ≤ 36526
      go true e =
          let l = ltb-true d 20980101 e in
          omega (arith, ahead 1 (d + 20000) 21000101 (near (omega (arith, v.day_low, v.month_low))) (omega arith) (omega arith), number_21000101)
      go false e = let q : d + 20000 ≡ 21000101 = omega (arith, ltb-false d 20980101 e) in omega (arith, ap day_number q, number_21000101)

  pub ends_after : 20980101 < d → 36526 ≤ two_years
  unfolding number year_start
  ends_after h = omega (arith, two_years_number, v.day_low)
