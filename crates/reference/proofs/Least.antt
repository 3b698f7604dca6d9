-- The laws of `least`: it is found where the test holds at a number and nowhere before, it is none where the test holds
-- nowhere, and a stretch is searched by its halves. Nothing above this file unfolds it. Assumes nothing.
use Rattle.std.specs.Prelude.{None, Option, Some, is_some}
use Rattle.std.specs.Option.{option_or}
use mathlib.Core.Path.{◌≡◌, refl, sym, ap, subst}
use mathlib.Core.Bool.{Bool, true, false, cond, not}
use Prim.Native.Nat.{ℕ, zero, suc, ◌+◌, ◌-◌, ◌≤◌, ◌<◌}
use native.Mathlib.Omega.{arith}
use lib.Dec.{T, ltb, ltb→lt, nltb→le}
use Rattle.reference.specs.Search.{least}

-- a comparison decides
pub either : (a b : ℕ) {X : Type 0} → (a < b → X) → (b ≤ a → X) → X
either a b {X} f g = go (ltb a b) (ltb→lt a b) (nltb→le a b)
  where
    go : (t : Bool) → (T t → a < b) → (T (not t) → b ≤ a) → X
    go true p q = f (p tt)
    go false p q = g (q tt)

module _ (f : ℕ → Bool) where
  pub least_none : (n count : ℕ) → ((j : ℕ) → n ≤ j → j < n + count → f j ≡ false) → least f n count ≡ None
  unfolding least
  least_none n zero h = refl
  least_none n (suc count) h = rw (h n (omega arith) (omega arith)) (least_none (suc n) count (λ j p q. h j (omega arith) (omega arith)))

  pub least_at : (n count r : ℕ) → n ≤ r → r < n + count → ((j : ℕ) → n ≤ j → j < r → f j ≡ false) → f r ≡ true → least f n count ≡ Some r
  unfolding least
  least_at n zero r p q h e = absurd (no n r p q)
    where
      no : (n r : ℕ) → n ≤ r → r < n + zero → ⊥
      no n r p q = omega arith
  least_at n (suc count) r p q h e =
      either n r
      (λ l. rw (h n (omega arith) l) (least_at (suc n) count r l (omega arith) (λ j p q. h j (omega arith) q) e))
      (λ l. let m : r ≡ n = omega arith in rw (subst (λ (x : ℕ). f x ≡ true) m e) (ap Some (sym m)))

-- r is the first number from n on at which f holds
pub record First (f : ℕ → Bool) (n r : ℕ) : Type 0 where
  pub here : f r ≡ true
  pub low : n ≤ r
  pub before : (j : ℕ) → n ≤ j → j < r → f j ≡ false

at_same : {a b : ℕ} → ◌≡◌ {A = Option ℕ} (Some a) (Some b) → a ≡ b
at_same q = cc

not_found : (r : ℕ) → ◌≡◌ {A = Option ℕ} None (Some r) → ⊥
not_found r q = let z : ◌≡◌ {A = ℕ} 0 1 = cc in omega arith

found_not : (r : ℕ) → ◌≡◌ {A = Option ℕ} (Some r) None → ⊥
found_not r q = not_found r (sym q)

module _ (f : ℕ → Bool) where
  -- what is found is the first, and lies in the stretch
  pub least_first : (n count r : ℕ) → least f n count ≡ Some r → First f n r × (r < n + count)
  unfolding least
  least_first n zero r q = absurd (not_found r q)
  least_first n (suc count) r q = go (f n) refl (least_first (suc n) count r) q
    where
      go : (b : Bool) → f n ≡ b → (least f (suc n) count ≡ Some r → First f (suc n) r × (r < suc n + count))
          → cond b (Some n) (least f (suc n) count) ≡ Some r → First f n r × (r < n + suc count)
      go true e rest q =
          let m = at_same q in
          (record { here = subst (λ (x : ℕ). f x ≡ true) m e; low = omega arith; before = λ j a l. absurd (no j m a l) }, omega arith)
        where
          no : (j : ℕ) → n ≡ r → n ≤ j → j < r → ⊥
          no j m a l = omega arith
      go false e rest q =
          let w = rest q in
          let u = w.0 in
          (record { here = u.here; low = omega arith; before = λ j a l. either n j (λ h. u.before j h l) (λ h. off j (omega arith)) }, omega (arith, w.1))
        where
          off : (j : ℕ) → n ≡ j → f j ≡ false
          off j m = subst (λ (x : ℕ). f x ≡ false) m e

  -- where nothing is found the test holds nowhere
  pub least_nowhere : (n count : ℕ) → least f n count ≡ None → (j : ℕ) → n ≤ j → j < n + count → f j ≡ false
  unfolding least
  least_nowhere n zero q j p l = absurd (no n j p l)
    where
      no : (n j : ℕ) → n ≤ j → j < n + zero → ⊥
      no n j p l = omega arith
  least_nowhere n (suc count) q j p l = go (f n) refl (λ q h. least_nowhere (suc n) count q j h (omega arith)) q
    where
      go : (b : Bool) → f n ≡ b → (least f (suc n) count ≡ None → n < j → f j ≡ false) → cond b (Some n) (least f (suc n) count) ≡ None → f j ≡ false
      go true e rest q = absurd (found_not n q)
      go false e rest q = either n j (λ h. rest q h) (λ h. let m : n ≡ j = omega arith in subst (λ (x : ℕ). f x ≡ false) m e)

-- ---- a stretch of one number
module _ (f : ℕ → Bool) where
  pub least_one : (n : ℕ) → is_some (least f n 1) ≡ f n
  unfolding least
  least_one n = go (f n)
    where
      go : (b : Bool) → is_some (cond b (Some n) None) ≡ b
      go true = refl
      go false = refl

-- ---- halves of the stretch from low up to, not at, high
module _ (f : ℕ → Bool) (low middle high : ℕ) (l : low ≤ middle) (h : middle < high) where
  -- what is found below the middle is found
  pub found_below : {r : ℕ} → least f low (middle - low) ≡ Some r → Some r ≡ least f low (high - low)
  found_below {r} q =
      let w = least_first f low (middle - low) r q in
      sym (least_at f low (high - low) r w.0.low (omega (arith, w.1)) w.0.before w.0.here)

  -- the test holds nowhere from the middle on
  pub lower_half : ((j : ℕ) → middle ≤ j → f j ≡ false) → least f low (middle - low) ≡ least f low (high - low)
  lower_half none = go (least f low (middle - low)) refl
    where
      go : (x : Option ℕ) → least f low (middle - low) ≡ x → x ≡ least f low (high - low)
      go (Some r) q = found_below q
      go None q =
          sym (least_none f low (high - low) (λ j a b. either j middle (λ c. least_nowhere f low (middle - low) q j a (omega arith)) (λ c. none j c)))

  -- the test holds nowhere up to the middle
  pub upper_half : ((j : ℕ) → j ≤ middle → f j ≡ false) → least f (middle + 1) (high - (middle + 1)) ≡ least f low (high - low)
  upper_half none = go (least f (middle + 1) (high - (middle + 1))) refl
    where
      go : (x : Option ℕ) → least f (middle + 1) (high - (middle + 1)) ≡ x → x ≡ least f low (high - low)
      go (Some r) q =
          let w = least_first f (middle + 1) (high - (middle + 1)) r q in
          sym (least_at f low (high - low) r (omega (arith, w.0.low)) (omega (arith, w.1))
          (λ j a b. either middle j (λ c. w.0.before j (omega arith) b) (λ c. none j c)) w.0.here)
      go None q =
          sym (least_none f low (high - low)
          (λ j a b. either middle j (λ c. least_nowhere f (middle + 1) (high - (middle + 1)) q j (omega arith) (omega arith)) (λ c. none j c)))

  -- nothing below the middle, where the test holds
  pub found_here : least f low (middle - low) ≡ None → f middle ≡ true → Some middle ≡ least f low (high - low)
  found_here q e =
      sym (least_at f low (high - low) middle l (omega arith) (λ j a b. least_nowhere f low (middle - low) q j a (omega arith)) e)

  -- what is found below the middle, or the middle, where the test holds
  pub found_or : {x : Option ℕ} → least f low (middle - low) ≡ x → f middle ≡ true → option_or x (Some middle) ≡ least f low (high - low)
  found_or {x = Some r} q e = found_below q
  found_or {x = None} q e = found_here q e
