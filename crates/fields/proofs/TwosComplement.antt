-- `signed` and `bits_of` are what the machine makes of its integers' bits, so the one gives the other back. Assumes nothing.
use Prim.Native.Nat.{ℕ, suc, ◌-◌, ◌%◌, ◌^◌, ◌<◌}
use native.Mathlib.Omega.{arith}
use mathlib.Core.Bool.{Bool, true, false, cond}
use mathlib.Core.Path.{◌≡◌, refl, ap, sym, ◌∙◌}
use lib.Dec.{ltb}
use lib.IntN.{ℤ, pos, negsuc}
use lib.Signed.{lt_z}
use borrow.Author.Tests.{ltb-true}
use mir.Facts.{Fits-of_z, of_z-to_z, to_z-of_z, to_z_pos}
use mir.Syntax.{Width, w32, w64}
use mir.Val.{SFits, bits, hbits, sel, to_z, of_z}
use mir.ValLaws.{bits-suc}
use Rattle.fields.specs.Fields.{signed, bits_of, bits32, bits64}

sel_cond : (t : Bool) (x y : ℤ) → cond t x y ≡ sel t x y
sel_cond true x y = refl
sel_cond false x y = refl

pub signed_machine : (w : Width) (n : ℕ) → signed (bits w) n ≡ to_z w n
unfolding signed
signed_machine w n =
    let e : bits w - 1 ≡ hbits w = omega (arith, bits-suc w) in
    rw e (sel_cond (ltb n (2 ^ hbits w)) (pos n) (negsuc (2 ^ bits w - suc n)))

-- where n stands for a negative number: all ones less what is left to them, which is `!` of the machine
pub flipped_back : (w : Width) (n : ℕ) → n < 2 ^ bits w → to_z w (2 ^ bits w - 1 - (2 ^ bits w - 1 - n)) ≡ signed (bits w) n
flipped_back w n h =
    let e : 2 ^ bits w - 1 - (2 ^ bits w - 1 - n) ≡ n = omega arith in
    ap (to_z w) e ∙ sym (signed_machine w n)

pub bits_machine : (w : Width) (z : ℤ) → bits_of (bits w) z ≡ of_z w z
unfolding bits_of
bits_machine w (pos n) = refl
bits_machine w (negsuc m) = refl

pub signed_bits : (w : Width) (z : ℤ) → SFits w z → signed (bits w) (bits_of (bits w) z) ≡ z
signed_bits w z f = rw (bits_machine w z, signed_machine w (of_z w z), to_z-of_z f)

pub bits_signed : (w : Width) (n : ℕ) → n < 2 ^ bits w → bits_of (bits w) (signed (bits w) n) ≡ n
bits_signed w n h = rw (signed_machine w n, bits_machine w (to_z w n)) (of_z-to_z {w = w} (record { fits = h }))

pub bits_below : (w : Width) (z : ℤ) → SFits w z → bits_of (bits w) z < 2 ^ bits w
bits_below w z f = rw (bits_machine w z) (Fits-of_z f).fits

-- ---- the 64 bits of a number, by its sign

-- of a negative x, the number m = −x − 1, which is `!x` of the machine
pub record Negative (x : ℤ) : Type 0 where
  pub m : ℕ
  pub fits : m < 2 ^ 63
  pub flipped : to_z w64 (18446744073709551615 - of_z w64 x) ≡ pos m
  pub bits : bits64 x ≡ 18446744073709551615 - m

pub negative : (x : ℤ) → SFits w64 x → lt_z (to_z w64 (of_z w64 x)) (pos 0) ≡ true → Negative x
unfolding bits_of
negative (pos n) f e =
    let h : n < 0 = ltb-true _ _ (rw (to_z-of_z {w = w64} {z = pos n} f) at e) in
    absurd (omega arith)
negative (negsuc m) f e =
    let h : m < 2 ^ 63 = f.sfits in
    let g : 18446744073709551615 - (2 ^ 64 - suc m) ≡ m = omega arith in
    record { m = m; fits = h; flipped = rw g (to_z_pos w64 h); bits = omega arith }

pub positive : (x : ℤ) → SFits w64 x → lt_z (to_z w64 (of_z w64 x)) (pos 0) ≡ false → (to_z w64 (of_z w64 x) ≡ pos (bits64 x)) × (bits64 x < 2 ^ 63)
unfolding bits_of
positive (pos n) f e = (to_z-of_z f, f.sfits)
positive (negsuc m) f e =
    let h : ◌≡◌ {A = Bool} true false = rw (to_z-of_z {w = w64} {z = negsuc m} f) at e in
    let z : ◌≡◌ {A = ℕ} 0 1 = cc in
    absurd (omega arith)

-- the 32 bits of a number are the lower half of its 64
pub bits_lower : (x : ℤ) → SFits w32 x → bits64 x % 4294967296 ≡ bits32 x
unfolding bits_of
bits_lower (pos n) f = let h : n < 2 ^ 31 = f.sfits in omega arith
bits_lower (negsuc m) f = let h : m < 2 ^ 31 = f.sfits in omega arith
