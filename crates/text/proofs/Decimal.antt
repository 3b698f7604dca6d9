-- Laws of decimal digits: how many a number has, that its last one follows those of its tenth, and how long a line gets.
-- Assumes nothing.
use Prim.Native.Nat.{ℕ, zero, suc, ◌+◌, ◌/◌, ◌%◌, ◌^◌, ◌≤◌, ◌<◌}
use native.Mathlib.Omega.{arith}
use mathlib.Core.Bool.{Bool, true, false, cond}
use mathlib.Core.List.{List, [], ◌∷◌, ◌++◌}
use mathlib.Core.Path.{◌≡◌, refl, ap}
use lib.Dec.{ltb}
use lib.IntN.{ℤ, pos, negsuc, nat_abs}
use lib.ListN.{length, length-append}
use lib.Signed.{lt_z}
use borrow.Author.Tests.{ltb-true, lt-ltb, le-ltb}
use mir.Syntax.{w64}
use mir.Val.{SFits}
use Rattle.layout.specs.declared.AnswerRecord.{AnswerRecord}
use Rattle.text.specs.Line.{decimal_in, decimal, signed_decimal, line_of, line_room}

-- a number's digits, by the test whether it has one, and by those of its tenth
abbrev digits_by : Bool → ℕ → List ℕ → List ℕ
digits_by one n tenth = cond one ((48 + n) ∷ []) (tenth ++ ((48 + n % 10) ∷ []))

one_more : (one : Bool) (n j : ℕ) (tenth : List ℕ) → length tenth ≤ j
    → (1 ≤ length (digits_by one n tenth)) × (length (digits_by one n tenth) ≤ suc j)
one_more true n j tenth h = (omega arith, omega arith)
one_more false n j tenth h = rw length-append (omega arith, omega arith)

-- below a power of ten there are at most as many as its exponent
pub at_most : (k j n : ℕ) → n < 10 ^ suc j → length (decimal_in k n) ≤ suc j
at_most zero j n h = omega arith
at_most (suc k) zero n h = rw (lt-ltb n 10 (omega arith)) (omega arith)
at_most (suc k) (suc j) n h = (one_more (ltb n 10) n (suc j) (decimal_in k (n / 10)) (at_most k j (n / 10) (omega arith))).1

-- where the digits are enough, room for one more makes no difference
pub more : (k n : ℕ) → n < 10 ^ suc k → decimal_in (suc k) n ≡ decimal_in (suc (suc k)) n
more zero n h = rw (lt-ltb n 10 (omega arith))
more (suc k) n h = ap (digits_by (ltb n 10) n) (more k (n / 10) (omega arith))

-- a number of 64 bits has from 1 to 20
pub one_to_twenty : (n : ℕ) → n < 2 ^ 64 → (1 ≤ length (decimal n)) × (length (decimal n) ≤ 20)
unfolding decimal
one_to_twenty n h = one_more (ltb n 10) n 19 (decimal_in 19 (n / 10)) (at_most 19 18 (n / 10) (omega arith))

-- the two ways of the code
pub one_digit : (n : ℕ) → n < 10 → decimal n ≡ (48 + n) ∷ []
unfolding decimal
one_digit n h = rw (lt-ltb n 10 h)

pub last_digit : (n : ℕ) → 10 ≤ n → n < 2 ^ 64 → decimal n ≡ decimal (n / 10) ++ ((48 + n % 10) ∷ [])
unfolding decimal
last_digit n h b = rw (le-ltb n 10 h, more 18 (n / 10) (omega arith))

-- and their lengths
pub one_long : (n : ℕ) → n < 10 → length (decimal n) ≡ 1
one_long n h = rw (one_digit n h)

pub one_longer : (n : ℕ) → 10 ≤ n → n < 2 ^ 64 → length (decimal n) ≡ length (decimal (n / 10)) + 1
one_longer n h b = rw (last_digit n h b, length-append)

-- a signed number by its sign
negative : (x : ℤ) → lt_z x (pos 0) ≡ true → signed_decimal x ≡ 45 ∷ decimal (nat_abs x)
unfolding signed_decimal
negative (pos n) e = absurd (omega (arith, ltb-true n 0 e))
negative (negsuc n) e = refl

nonnegative : (x : ℤ) → lt_z x (pos 0) ≡ false → signed_decimal x ≡ decimal (nat_abs x)
unfolding signed_decimal
nonnegative (pos n) e = refl
nonnegative (negsuc n) e = cc

-- and as the code comes by it: z is the machine's x
module _ {x z : ℤ} {size : ℕ} {below : Bool} (machine : z ≡ x) (sized : size ≡ nat_abs z) (tested : below ≡ lt_z z (pos 0)) where
  pub with_minus : below ≡ true → signed_decimal x ≡ 45 ∷ decimal size
  with_minus e = rw (sized, machine) (negative x (cc))

  pub as_it_is : below ≡ false → signed_decimal x ≡ decimal size
  as_it_is e = rw (sized, machine) (nonnegative x (cc))

-- 19 digits and a sign hold every signed number of 64 bits
pub signed_most : (x : ℤ) → SFits w64 x → length (signed_decimal x) ≤ 20
unfolding signed_decimal decimal
signed_most (pos n) f = let h : n < 2 ^ 63 = f.sfits in omega (arith, at_most 20 18 n (omega arith))
signed_most (negsuc n) f = let h : n < 2 ^ 63 = f.sfits in omega (arith, at_most 20 18 (suc n) (omega arith))

-- so a line has its room
pub line_fits : (ordinal : ℕ) (a : AnswerRecord) → ordinal < 2 ^ 32 → a.kind < 256 → a.refusal < 256 → a.m < 2 ^ 32
    → SFits w64 a.x → SFits w64 a.y → length (line_of ordinal a) ≤ line_room
unfolding decimal line_of
line_fits ordinal a o k r m x y =
    simp length-append
    (omega (
      arith,
      at_most 20 9 ordinal (omega arith),
      at_most 20 2 a.kind (omega arith),
      at_most 20 2 a.refusal (omega arith),
      at_most 20 9 a.m (omega arith),
      signed_most a.x x,
      signed_most a.y y,
    ))
