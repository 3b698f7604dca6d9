-- A signed word of 32 bits is zero where its number is. Assumes nothing.
use Prim.Native.Nat.{suc, ◌-◌, ◌^◌, ◌<◌}
use native.Mathlib.Omega.{arith}
use mathlib.Core.Path.{◌≡◌, refl, sym, ◌∙◌}
use borrow.Author.Tests.{ne_eqb}
use lib.Dec.{eqb, eqb-suc-zero}
use lib.IntN.{ℤ, pos, negsuc, nat_abs}
use mir.Syntax.{w32}
use mir.Val.{SFits, of_z}

pub zero_word : (z : ℤ) → SFits w32 z → eqb (of_z w32 z) 0 ≡ eqb (nat_abs z) 0
zero_word (pos n) f = refl
zero_word (negsuc k) f = let h : k < 2 ^ 31 = f.sfits in ne_eqb (2 ^ 32 - suc k) 0 (λ e. omega arith) ∙ sym (eqb-suc-zero k)
