-- The area rule of document 02's R-5, 2(Σ − Xs) − (n − 1)(Xs + Xe), over a list of wet values and over a list of exact values. Σ − Xs is
-- written as the sum of what follows the first. The area of an empty list is 0. Assumes nothing.
use mathlib.Core.List.{List, [], ◌∷◌, foldr}
use Rattle.std.specs.Prelude.{◌≡◌, ℕ, ◌-◌, ℤ, pos, ◌+ℤ◌, ◌-ℤ◌, ◌*ℤ◌, length, get_or, drop, replicate}
use Rattle.exact.specs.Fraction.{Fraction, whole, plus, minus, scaled, LiesWithin, SameValue}
use Rattle.exact.specs.Bounds.{against_bound}

-- Xs and Xe: the first of a list and its last, `missing` where it is empty
abbrev pub first_of : {A : Type 0} → A → List A → A
first_of missing xs = get_or xs 0 missing

abbrev pub last_of : {A : Type 0} → A → List A → A
last_of missing xs = get_or xs (length xs - 1) missing

-- ---- of wet values
abbrev pub sum_of : List ℤ → ℤ
sum_of ws = foldr ◌+ℤ◌ (pos 0) ws

-- Xs + Xe
abbrev pub ends_of : List ℤ → ℤ
ends_of ws = first_of (pos 0) ws +ℤ last_of (pos 0) ws

unfoldable pub area_of : List ℤ → ℤ
area_of ws = sum_of (drop 1 ws) *ℤ pos 2 -ℤ ends_of ws *ℤ pos (length ws - 1)

-- ---- of exact values
abbrev pub exact_sum : List Fraction → Fraction
exact_sum xs = foldr plus (whole (pos 0)) xs

-- Xs + Xe
abbrev pub exact_ends : List Fraction → Fraction
exact_ends xs = plus (first_of (whole (pos 0)) xs) (last_of (whole (pos 0)) xs)

unfoldable pub exact_area : List Fraction → Fraction
exact_area xs = minus (scaled (exact_sum (drop 1 xs)) 2) (scaled (exact_ends xs) (length xs - 1))

-- two lists of one length, each wet value within 1,800 of the exact value beside it
pub data EachWithin : List ℤ → List Fraction → Type 0 where
  empty : EachWithin [] []
  next : {w : ℤ} {x : Fraction} {ws : List ℤ} {xs : List Fraction} → LiesWithin w against_bound x → EachWithin ws xs → EachWithin (w ∷ ws) (x ∷ xs)

-- ---- both are the paper's rule to the letter, Σ being the sum of all values, of which the first is taken: the wet one as a number, the exact
-- one as a value, of every list with wet values beside it, as the ledger's series has them
pub record ByTheLetter : Type 0 where
  pub wet : (ws : List ℤ) → area_of ws ≡ (sum_of ws -ℤ first_of (pos 0) ws) *ℤ pos 2 -ℤ ends_of ws *ℤ pos (length ws - 1)
  pub exact : {ws : List ℤ} {xs : List Fraction} → EachWithin ws xs
      → SameValue (exact_area xs) (minus (scaled (minus (exact_sum xs) (first_of (whole (pos 0)) xs)) 2) (scaled (exact_ends xs) (length xs - 1)))

-- values that are all x
pub data AllAre (x : Fraction) : List Fraction → Type 0 where
  none : AllAre x []
  more : {y : Fraction} {ys : List Fraction} → SameValue y x → AllAre x ys → AllAre x (y ∷ ys)

-- ---- a flat line has no area: n times the same wet value, or exact values that are all the same; so of one value, whatever it is
pub record FlatLine : Type 0 where
  pub wet : (n : ℕ) (w : ℤ) → area_of (replicate n w) ≡ pos 0
  pub exact : {x : Fraction} {xs : List Fraction} → AllAre x xs → SameValue (exact_area xs) (whole (pos 0))
