-- What a test of order on integers says, held or failed, and how a fact settles it; and a test that a call answered. Assumes nothing.
use mathlib.Core.Path.{◌≡◌, refl, sym, subst, ◌∙◌}
use mathlib.Core.Bool.{Bool, true, false, not}
use Prim.Native.Nat.{ℕ, ◌+◌, ◌≤◌}
use native.Mathlib.Omega.{arith}
use lib.Dec.{T}
use lib.IntN.{ℤ, pos, nat_abs}
use lib.Signed.{lt_z, le_z, ◌≤ℤ◌, ◌<ℤ◌, le_z_yes, lt_z_yes, lt_z_no, clash_ℤ}
use Rattle.rounding.proofs.Difference.{is_nat, is_parts, up, down, of_le, abs_le, of_abs_le}

holds : (b : Bool) → b ≡ true → T b
holds true e = tt
holds false e = subst T (sym e) tt

fails : (b : Bool) → b ≡ false → T (not b)
fails false e = tt
fails true e = absurd (subst T e tt)

fails_at : (b : Bool) → T b → b ≡ false → ⊥
fails_at b t e = subst T e t

settled : (b : Bool) → T b → b ≡ true
settled true t = refl
settled false t = elim t [ ]

pub lt_true : (a b : ℤ) → lt_z a b ≡ true → a <ℤ b
lt_true a b e = lt_z_yes (holds (lt_z a b) e)

pub lt_false : (a b : ℤ) → lt_z a b ≡ false → b ≤ℤ a
lt_false a b e = lt_z_no (fails (lt_z a b) e)

pub le_true : (a b : ℤ) → le_z a b ≡ true → a ≤ℤ b
le_true a b e = le_z_yes (holds (le_z a b) e)

pub le_false : (a b : ℤ) → le_z a b ≡ false → b <ℤ a
le_false a b e = go (lt_z b a) refl
  where
    go : (t : Bool) → lt_z b a ≡ t → b <ℤ a
    go true h = lt_true b a h
    go false h = absurd (fails_at (le_z a b) (lt_false b a h).le e)

pub true_lt : (a b : ℤ) → a <ℤ b → lt_z a b ≡ true
true_lt a b h = settled (lt_z a b) h.lt

pub true_le : (a b : ℤ) → a ≤ℤ b → le_z a b ≡ true
true_le a b h = settled (le_z a b) h.le

pub false_lt : (a b : ℤ) → b ≤ℤ a → lt_z a b ≡ false
false_lt a b h = go (lt_z a b) refl
  where
    go : (t : Bool) → lt_z a b ≡ t → t ≡ false
    go true e = clash_ℤ (lt_true a b e) h
    go false e = refl

pub false_le : (a b : ℤ) → b <ℤ a → le_z a b ≡ false
false_le a b h = go (le_z a b) refl
  where
    go : (t : Bool) → le_z a b ≡ t → t ≡ false
    go true e = clash_ℤ h (le_true a b e)
    go false e = refl

-- a test that a call answered, where its negation was asked: it failed, or it held
pub answered_no : {answer test : Bool} → answer ≡ test → answer ≡ false → test ≡ false
answered_no e h = sym e ∙ h

pub answered_yes : {answer test : Bool} → answer ≡ test → answer ≡ true → test ≡ true
answered_yes e h = sym e ∙ h

-- a number from one that is at most n in size up to n
pub size_between : {l z : ℤ} {n : ℕ} → nat_abs l ≤ n → l ≤ℤ z → z ≤ℤ pos n → nat_abs z ≤ n
size_between {l} {z} {n} s h k =
    let o = of_abs_le n (is_parts l) s in let p = of_le (is_parts l) (is_parts z) h in let q = of_le (is_parts z) (is_nat n) k in
    abs_le n (is_parts z) (omega arith) (core (up l) (down l) (up z) (down z) o.1 p)
  where
    core : (a b x y : ℕ) → b ≤ a + n → a + y ≤ x + b → y ≤ x + n
    core a b x y f g = omega arith
