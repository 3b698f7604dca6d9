-- Laws of columns and figures: text in a column, how long a figure gets, and its sign. Assumes nothing.
use Prim.Native.Nat.{ℕ, suc, ◌+◌, ◌-◌, ◌/◌, ◌%◌, ◌≤◌, ◌<◌}
use native.Mathlib.Omega.{arith}
use mathlib.Core.Bool.{true, false}
use mathlib.Core.List.{List, [], ◌∷◌, ◌++◌, append_assoc, append-nil}
use mathlib.Core.Path.{◌≡◌, refl, sym, ◌∙◌}
use lib.IntN.{ℤ, pos, negsuc, nat_abs}
use lib.Signed.{lt_z}
use lib.ListN.{length, length-append, length-replicate, replicate-append-replicate}
use borrow.Author.Tests.{ltb-true}
use Rattle.layout.specs.Lent.{Puts}
use Rattle.layout.proofs.Lent.{puts_over}
use Rattle.text.specs.Line.{decimal}
use Rattle.text.specs.declared.writer.Writer.{Writer}
use Rattle.text.specs.Writing.{Writes}
use Rattle.text.proofs.Decimal.{at_most}
use Rattle.text.proofs.Writing.{writes_both}
use Rattle.rounding.proofs.Nearest.{near_size}
use Rattle.figures.specs.Figures.{spaces, right, hundredths, pointed, signed_pointed, figure, sign_byte}

-- ---- text in a column
pub right_length : (width : ℕ) (s : List ℕ) → length s ≤ width → length (right width s) ≡ width
unfolding right
right_length width s h = rw (length-append, length-replicate) (omega arith)

-- a column of spaces, and from where the writer is set back to, the text over its right end
pub in_column : (width : ℕ) (s : List ℕ) {old mid new : Writer} {p : ℕ} → length s ≤ width → Writes old (spaces width) mid
    → Writes (record { out = mid.out; at = p }) s new → p ≡ old.at + (width - length s) → Writes old (right width s) new × (new.at ≡ old.at + width)
unfolding right
in_column width s {old} {mid} {new} h f g e =
    let blank = width - length s in
    let l : length (spaces blank) ≡ blank = length-replicate {A = ℕ} blank 32 in
    let z : blank + length s ≡ width = omega arith in
    let c : spaces width ≡ spaces blank ++ spaces (length s) = rw (replicate-append-replicate {A = ℕ} blank (length s) 32, z) in
    let d : Puts mid.out.now (old.at + length (spaces blank)) s new.out.now new.at = rw (l, ← e) g.puts in
    let q = puts_over (spaces blank) (spaces (length s)) s (rw c at f.puts) (length-replicate {A = ℕ} (length s) 32) d in (
      record { same_buffer = g.same_buffer ∙ f.same_buffer; same_length = g.same_length ∙ f.same_length; puts = q },
      omega (arith, q.ends, length-append (spaces blank) s),
    )

-- a column with nothing in it
pub blank_column : (width : ℕ) → right width [] ≡ spaces width
unfolding right
blank_column width = let z : width - 0 ≡ width = omega arith in rw (z, append-nil (spaces width))

-- a space before a text that leaves room for it stands there anyway
pub blank_before : (width : ℕ) (s : List ℕ) → length s < width → right width (32 ∷ s) ≡ right width s
unfolding right
blank_before width s h =
    let e : width - length s ≡ width - suc (length s) + 1 = omega arith in
    let f = replicate-append-replicate {A = ℕ} (width - suc (length s)) 1 32 in
    rw (e, ← f) (sym (append_assoc (spaces (width - suc (length s))) (32 ∷ []) s))

-- ---- a figure
pub pointed_length : (n : ℕ) → length (pointed n) ≡ length (decimal (n / 100)) + 3
unfolding pointed
pointed_length n = rw length-append

-- put piece by piece
pub pointed_put : (n : ℕ) {w0 w1 w2 w3 w4 : Writer} → Writes w0 (decimal (n / 100)) w1 → Writes w1 (46 ∷ []) w2
    → Writes w2 ((48 + n % 100 / 10) ∷ []) w3 → Writes w3 ((48 + n % 10) ∷ []) w4 → Writes w0 (pointed n) w4
unfolding pointed
pointed_put n d p x y =
    let e : decimal (n / 100) ++ (46 ∷ []) ++ ((48 + n % 100 / 10) ∷ []) ++ ((48 + n % 10) ∷ [])
    ≡ decimal (n / 100) ++ (46 ∷ (48 + n % 100 / 10) ∷ (48 + n % 10) ∷ []) = simp append_assoc in
    rw e at (writes_both (writes_both (writes_both d p) x) y)

-- ten digits hold the whole part, and six an ordinal
pub whole_most : (n : ℕ) → n < 1000000000000 → length (decimal (n / 100)) ≤ 10
unfolding decimal
whole_most n h = at_most 20 9 (n / 100) (omega arith)

pub ordinal_most : (n : ℕ) → n < 1000000 → length (decimal n) ≤ 6
unfolding decimal
ordinal_most n h = at_most 20 5 n (omega arith)

pub hundredths_most : (x : ℤ) → nat_abs x ≤ 9990000000000000 → nat_abs (hundredths x) < 1000000000000
hundredths_most x h = omega (arith, near_size x {b = 10000} 999000000000 (omega arith) (omega arith))

-- the sign's byte and the digits, in the column, are the signed number
pub signed_column : (z : ℤ) → nat_abs z < 1000000000000 → right 14 (sign_byte z ∷ pointed (nat_abs z)) ≡ right 14 (signed_pointed z)
unfolding sign_byte signed_pointed
signed_column (pos n) h = blank_before 14 (pointed n) (omega (arith, pointed_length n, whole_most n h))
signed_column (negsuc n) h = refl

signed_length : (z : ℤ) → nat_abs z < 1000000000000 → length (signed_pointed z) ≤ 14
unfolding signed_pointed
signed_length (pos n) h = omega (arith, pointed_length n, whole_most n h)
signed_length (negsuc n) h = omega (arith, pointed_length (suc n), whole_most (suc n) h)

pub figure_length : (x : ℤ) → nat_abs x ≤ 9990000000000000 → length (figure x) ≤ 14
figure_length x h = signed_length (hundredths x) (hundredths_most x h)

-- the two ways of the code
pub minus_byte : (z : ℤ) → lt_z z (pos 0) ≡ true → sign_byte z ≡ 45
unfolding sign_byte
minus_byte (pos n) e = absurd (omega (arith, ltb-true n 0 e))
minus_byte (negsuc n) e = refl

pub space_byte : (z : ℤ) → lt_z z (pos 0) ≡ false → sign_byte z ≡ 32
unfolding sign_byte
space_byte (pos n) e = refl
space_byte (negsuc n) e = cc
