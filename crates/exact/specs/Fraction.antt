-- Exact values, as document 01 has them: "Such a value is kept as a pair of whole numbers, the lower one above 0; sums, distances
-- and comparisons of such pairs are taken by multiplying across." Each predicate says itself that the lower number is above 0,
-- since with 0 there it would say nothing of the whole number. Assumes nothing.
use Rattle.std.specs.Prelude.{ℕ, ◌*◌, ◌≤◌, ◌<◌, Bool, ◌≡◌, ℤ, pos, nat_abs, ◌+ℤ◌, ◌-ℤ◌, ◌*ℤ◌, ◌≤ℤ◌, ◌<ℤ◌}
use Rattle.std.specs.Int.Signed.{lt_z}

-- num / den
pub record Fraction : Type 0 where
  pub num : ℤ
  pub den : ℕ

-- ---- values

-- a / 1
abbrev pub whole : ℤ → Fraction
whole a = record { num = a; den = 1 }

-- x + y
abbrev pub plus : Fraction → Fraction → Fraction
plus x y = record { num = x.num *ℤ pos y.den +ℤ y.num *ℤ pos x.den; den = x.den * y.den }

-- x − y
abbrev pub minus : Fraction → Fraction → Fraction
minus x y = record { num = x.num *ℤ pos y.den -ℤ y.num *ℤ pos x.den; den = x.den * y.den }

-- x · y
abbrev pub times : Fraction → Fraction → Fraction
times x y = record { num = x.num *ℤ y.num; den = x.den * y.den }

-- x · n
abbrev pub scaled : Fraction → ℕ → Fraction
scaled x n = record { num = x.num *ℤ pos n; den = x.den }

-- x / n
abbrev pub over : Fraction → ℕ → Fraction
over x n = record { num = x.num; den = x.den * n }

-- whether x is below 0: the upper number is, as the lower one is above 0
abbrev pub below_zero : Fraction → Bool
below_zero x = lt_z x.num (pos 0)

-- x and y multiplied across, for `SameValue`, which says that their lower numbers are above 0
abbrev pub Across : Fraction → Fraction → Type 0
Across x y = x.num *ℤ pos y.den ≡ y.num *ℤ pos x.den

-- ---- predicates

-- x and y are one value: x = y
pub record SameValue (x y : Fraction) : Type 0 where
  pub lower : (0 < x.den) × (0 < y.den)
  pub across : Across x y

-- the whole number c lies within bound of x: |c − x| ≤ bound
pub record LiesWithin (c : ℤ) (bound : ℕ) (x : Fraction) : Type 0 where
  pub lower : 0 < x.den
  pub distance : nat_abs (c *ℤ pos x.den -ℤ x.num) ≤ bound * x.den

-- x is at least the whole number m: m ≤ x
pub record AtLeast (x : Fraction) (m : ℤ) : Type 0 where
  pub lower : 0 < x.den
  pub at_least : (m *ℤ pos x.den) ≤ℤ x.num

-- x is less than the whole number m: x < m
pub record LessThan (x : Fraction) (m : ℤ) : Type 0 where
  pub lower : 0 < x.den
  pub less_than : x.num <ℤ (m *ℤ pos x.den)
