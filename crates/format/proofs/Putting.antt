-- Records of 24 bytes put into a lent buffer one after the other, as a loop does it (`Putting`), and what a loop has seen of each (`Seen`).
-- Assumes nothing.
use Prim.Native.Nat.{ℕ, ◌+◌, ◌*◌, ◌<◌, ◌≤◌}
use native.Mathlib.Numerals.{add-one}
use native.Mathlib.Omega.{arith}
use mathlib.Core.Path.{◌≡◌, refl}
use mathlib.Core.List.{List, [], ◌∷◌, ◌++◌, flat_map, append-nil, append_assoc}
use lib.ListN.{length, take, get_or}
use lib.Seq.{take-suc}
use Rattle.layout.specs.Lent.{Puts}
use Rattle.fields.specs.Fields.{splice}
use Rattle.layout.proofs.Lent.{puts_none, puts_both, puts_length}
use Rattle.format.specs.File.{Each}
use Rattle.format.specs.File.Each.{none, more}

flat_append : {A : Type 0} (write : A → List ℕ) (xs ys : List A) → flat_map write (xs ++ ys) ≡ flat_map write xs ++ flat_map write ys
unfolding flat_map
flat_append write [] ys = refl
flat_append write (a ∷ xs) ys = rw (flat_append write xs ys, append_assoc)

each_append : {A : Type 0} {P : A → Type 0} {xs ys : List A} → Each P xs → Each P ys → Each P (xs ++ ys)
each_append none b = b
each_append (more p a) b = more p (each_append a b)

-- the first i of a list have P
pub record Seen {A : Type 0} (P : A → Type 0) (xs : List A) (i : ℕ) : Type 0 where
  pub each : Each P (take i xs)

module _ {A : Type 0} {P : A → Type 0} {xs : List A} where
  pub unseen : Seen P xs 0
  unseen = record { each = none }

  pub seen : {i : ℕ} → Seen P xs i → (d : A) → i < length xs → P (get_or xs i d) → Seen P xs (i + 1)
  seen {i} s d h p = record { each = rw (add-one, take-suc xs i d h) (each_append s.each (more p none)) }

-- i of n elements are put from `at` on in `out`, which was `old`
pub record Putting {A : Type 0} (write : A → List ℕ) (xs : List A) (n : ℕ) (old : List ℕ) (at : ℕ) (out : List ℕ) (i : ℕ) : Type 0 where
  pub passed : i ≤ n
  pub put : Puts old at (flat_map write (take i xs)) out (at + 24 * i)

module _ {A : Type 0} {write : A → List ℕ} {xs : List A} {n : ℕ} {old : List ℕ} {at : ℕ} where
  pub begun : at ≤ length old → Putting write xs n old at old 0
  unfolding flat_map
  begun h = record { passed = omega arith; put = let z : at + 24 * 0 ≡ at = omega arith in rw z (puts_none old at h) }

  module _ {out : List ℕ} {i : ℕ} (p : Putting write xs n old at out i) where
    pub turned : (d : A) {out' : List ℕ} → ((a : A) → length (write a) ≡ 24) → n ≤ length xs → at + 24 * n ≤ length old → i < n
        → out' ≡ splice out (at + 24 * i) (write (get_or xs i d)) → Putting write xs n old at out' (i + 1)
    unfolding flat_map
    turned d {out'} size all room left e =
        let l = size (get_or xs i d) in
        let k = puts_length p.put in
        let one : Puts out (at + 24 * i) (write (get_or xs i d)) out' (at + 24 * (i + 1)) = record { ends = omega arith; room = omega arith; stands = e } in
        let s : flat_map write (take (i + 1) xs) ≡ flat_map write (take i xs) ++ write (get_or xs i d) =
        rw (add-one, take-suc xs i d (omega arith), flat_append write (take i xs) (get_or xs i d ∷ []), append-nil) in
        record { passed = omega arith; put = rw s (puts_both p.put one) }

    -- the loop ends with the last of them
    pub ended : n ≤ i → n ≡ i
    ended h = omega (arith, p.passed)
