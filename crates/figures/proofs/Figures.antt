-- What holds of every figure (`EveryFigure`), and that texts of digits, signs and spaces have no other bytes. Assumes nothing.
use Prim.Native.Nat.{ℕ, zero, suc, ◌+◌, ◌-◌, ◌/◌, ◌%◌, ◌≤◌}
use native.Mathlib.Omega.{arith}
use mathlib.Core.Bool.{Bool, true, false, cond}
use mathlib.Core.List.{List, [], ◌∷◌, ◌++◌}
use mathlib.Core.Path.{◌≡◌, refl, ap}
use borrow.Author.Tests.{ltb-true, ltb-false, le-ltb}
use lib.Dec.{ltb}
use lib.IntN.{ℤ, pos, negsuc}
use lib.ListN.{length, length-append}
use Rattle.rounding.proofs.Nearest.{near_half}
use Rattle.text.specs.Line.{decimal_in, decimal}
use Rattle.text.proofs.Decimal.{one_digit}
use Rattle.figures.specs.Figures.{spaces, right, hundredths, pointed, signed_pointed, figure, Between, zero_figure, EveryFigure}

-- ---- bytes between two numbers
pub between_append : (low high : ℕ) (a b : List ℕ) → Between low high a → Between low high b → Between low high (a ++ b)
between_append low high [] b ta tb = tb
between_append low high (x ∷ a) b ta tb = (ta.0, ta.1, between_append low high a b ta.2 tb)

module _ {low high : ℕ} (l : low ≤ 48) (h : 57 ≤ high) where
  between_digits : (k n : ℕ) → Between low high (decimal_in k n)
  between_digits zero n = tt
  between_digits (suc k) n = go (ltb n 10) refl (decimal_in k (n / 10)) (between_digits k (n / 10))
    where
      go : (t : Bool) → ltb n 10 ≡ t → (tenth : List ℕ) → Between low high tenth → Between low high (cond t ((48 + n) ∷ []) (tenth ++ ((48 + n % 10) ∷ [])))
      go true e tenth w = let d = ltb-true n 10 e in (omega arith, omega arith, tt)
      go false e tenth w = between_append low high tenth ((48 + n % 10) ∷ []) w (omega arith, omega arith, tt)

  pub between_decimal : (n : ℕ) → Between low high (decimal n)
  unfolding decimal
  between_decimal n = between_digits 20 n

-- from the space to the tilde
abbrev Text : List ℕ → Type 0
Text s = Between 32 126 s

pub text_spaces : (n : ℕ) → Text (spaces n)
text_spaces zero = tt
text_spaces (suc n) = (omega arith, omega arith, text_spaces n)

text_pointed : (n : ℕ) → Text (pointed n)
unfolding pointed
text_pointed n =
    between_append 32 126 (decimal (n / 100)) (46 ∷ (48 + n % 100 / 10) ∷ (48 + n % 10) ∷ []) (between_decimal (omega arith) (omega arith) (n / 100))
    (omega arith, omega arith, (omega arith, omega arith, (omega arith, omega arith, tt)))

text_signed : (z : ℤ) → Text (signed_pointed z)
unfolding signed_pointed
text_signed (pos n) = text_pointed n
text_signed (negsuc n) = (omega arith, omega arith, text_pointed (suc n))

pub text_figure : (x : ℤ) → Text (figure x)
text_figure x = text_signed (hundredths x)

pub text_right : (width : ℕ) (s : List ℕ) → Text s → Text (right width s)
unfolding right
text_right width s h = between_append 32 126 (spaces (width - length s)) s (text_spaces (width - length s)) h

-- ---- a figure that rounds to nothing
unsigned : (x : ℤ) → hundredths x ≡ pos 0 → figure x ≡ zero_figure
unfolding signed_pointed pointed decimal
unsigned x e = rw e

-- no number is without a digit, and none from ten on has one alone
some : (k n : ℕ) → 1 ≤ length (decimal_in (suc k) n)
some k n = go (ltb n 10)
  where
    go : (t : Bool) → 1 ≤ length (cond t ((48 + n) ∷ []) (decimal_in k (n / 10) ++ ((48 + n % 10) ∷ [])))
    go true = omega arith
    go false = rw length-append (omega arith)

two : (n : ℕ) → 10 ≤ n → 2 ≤ length (decimal n)
unfolding decimal
two n h = rw (le-ltb n 10 h, length-append) (omega (arith, some 18 (n / 10)))

-- hundredths that read 0.00 are none
none : (n : ℕ) → pointed n ≡ zero_figure → n ≡ 0
unfolding pointed
none n e = go (ltb (n / 100) 10) refl
  where
    go : (t : Bool) → ltb (n / 100) 10 ≡ t → n ≡ 0
    go true t =
        let d = one_digit (n / 100) (ltb-true _ _ t) in
        let f : (48 + n / 100) ∷ 46 ∷ (48 + n % 100 / 10) ∷ (48 + n % 10) ∷ [] ≡ zero_figure = rw d at e in
        let p : 48 + n / 100 ≡ 48 = cc in
        let q : 48 + n % 100 / 10 ≡ 48 = cc in
        let r : 48 + n % 10 ≡ 48 = cc in
        omega arith
    go false t =
        let l = rw length-append at (ap length e) in
        absurd (omega (arith, l, two (n / 100) (ltb-false _ _ t)))

-- no number without a sign starts with one
unsigned_first : (s rest : List ℕ) → Between 48 57 s → 1 ≤ length s → s ++ rest ≡ 45 ∷ zero_figure → ⊥
unsigned_first [] rest f l e = omega arith
unsigned_first (b ∷ s) rest f l e = let p : b ≡ 45 = cc in omega (arith, f.0)

signed_never : (z : ℤ) → signed_pointed z ≡ 45 ∷ zero_figure → ⊥
unfolding signed_pointed pointed decimal
signed_never (pos n) e = unsigned_first (decimal (n / 100)) _ (between_decimal (omega arith) (omega arith) (n / 100)) (some 19 (n / 100)) e
signed_never (negsuc n) e = let p : pointed (suc n) ≡ zero_figure = cc in omega (arith, none (suc n) p)

pub every_figure : EveryFigure
every_figure x = record { half = (near_half x 10000 (omega arith)).half; nothing = unsigned x; never = signed_never (hundredths x) }
