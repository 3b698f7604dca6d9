-- When an integer fits a machine word, and what a test of its sign says. Assumes nothing.
use mathlib.Core.Path.{◌≡◌, refl, subst}
use mathlib.Core.Bool.{true, false}
use Prim.Native.Nat.{ℕ, suc, ◌-◌, ◌^◌, ◌≤◌, ◌<◌}
use native.Mathlib.Nat.{le_refl, lt_of_le_of_lt}
use native.Mathlib.Omega.{arith}
use lib.Dec.{T}
use lib.IntN.{ℤ, pos, negsuc, nat_abs}
use lib.Signed.{mag, lt_z}
use mir.Syntax.{w64}
use mir.Val.{SFits, to_z, of_z}
use mir.Facts.{to_z-of_z, to_z_pos}
use borrow.Author.Tests.{ltb-true}

mag_abs : (z : ℤ) → mag z ≤ nat_abs z
mag_abs (pos n) = le_refl n
mag_abs (negsuc n) = omega arith

pub sfits : (z : ℤ) → nat_abs z < 9223372036854775808 → SFits w64 z
sfits z h = record { sfits = lt_of_le_of_lt (mag_abs z) h }

pub not_below_0 : (n : ℕ) → lt_z (pos n) (pos 0) ≡ true → ⊥
not_below_0 n e = let l : n < 0 = ltb-true n 0 e in omega arith

-- a word whose test `a < 0` holds is −(k + 1), and its complement is k; one whose test fails is some n
pub below_0 : (a : ℤ) → SFits w64 a → lt_z (to_z w64 (of_z w64 a)) (pos 0) ≡ true
    → (k : ℕ) × (a ≡ negsuc k) × (to_z w64 (18446744073709551615 - of_z w64 a) ≡ pos k) × (k < 2 ^ 63)
below_0 (pos n) f e = absurd (not_below_0 n (rw (to_z-of_z {w = w64} {z = pos n} f) at e))
below_0 (negsuc k) f e =
    let h : k < 2 ^ 63 = f.sfits in
    let g : 18446744073709551615 - (2 ^ 64 - suc k) ≡ k = omega arith in
    (k, refl, rw g (to_z_pos w64 h), h)

pub from_0 : (a : ℤ) → SFits w64 a → lt_z (to_z w64 (of_z w64 a)) (pos 0) ≡ false → (n : ℕ) × (a ≡ pos n) × (n < 2 ^ 63)
from_0 (pos n) f e = (n, refl, f.sfits)
from_0 (negsuc k) f e = absurd (subst T (rw (to_z-of_z {w = w64} {z = negsuc k} f) at e) tt)
