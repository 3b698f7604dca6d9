-- What a sample leaves stored: within its limits again; what a search gives, where it was so before; and, at the stored P and T, what stood
-- there. So a sample goes by what a search gives. Assumes nothing.
use Rattle.std.specs.Prelude.{None, Option, Some}
use mathlib.Core.Bool.{Bool, true, false, cond, ◌&&◌}
use mathlib.Core.Path.{◌≡◌, refl, sym, ap, subst, ◌∙◌}
use Prim.Native.Nat.{ℕ, ◌≤◌}
use borrow.Author.Tests.{leb-true, le-leb, eqb-true, eq-eqb}
use lib.Dec.{T, eqb}
use Rattle.curve.specs.declared.Sheet.{Sheet}
use Rattle.curve.specs.declared.Air.{Air}
use Rattle.curve.proofs.Within.{both}
use Rattle.reference.specs.Search.{found_value, reference_of}
use Rattle.sampling.specs.declared.Cylinder.{Cylinder}
use Rattle.sampling.specs.declared.Mode.{Mode}
use Rattle.sampling.specs.declared.Measurement.{Measurement}
use Rattle.sampling.specs.Sample.{air_of, checked_on, searched_of}
use Rattle.sampling.proofs.Sizes.{finding_size}
use Rattle.store.specs.Store.{Stored, is_at, stored_as, finding_in, stored_on, stored_within, IsSearched}

-- the limit as the arithmetic asks it
pub stored_size : (x : Stored) → stored_within x ≡ true → found_value (finding_in x) ≤ 150000000
stored_size x e = leb-true (found_value (finding_in x)) 150000000 e

-- a sample that fails check 6 leaves what is stored, and so does one in absolute mode
module _ (s : Sheet) (at : Measurement) (x : Stored) where
  pub left_by_6 : (mode : Mode) → checked_on mode at ≡ false → stored_on s mode at x ≡ x
  unfolding stored_on
  left_by_6 Mode.Absolute c = refl
  left_by_6 (Mode.Against gas) c = rw c

  pub left_absolute : {mode : Mode} → mode ≡ Mode.Absolute → stored_on s mode at x ≡ x
  unfolding stored_on
  left_absolute m = rw m

-- at the stored P and T nothing is searched for
pub stays_at : (s : Sheet) (mode : Mode) (at : Measurement) (x : Stored) → is_at x at ≡ true → stored_on s mode at x ≡ x
unfolding stored_on
stays_at s Mode.Absolute at x h = refl
stays_at s (Mode.Against gas) at x h = go (checked_on (Mode.Against gas) at)
  where
    go : (c : Bool) → cond c (cond (is_at x at) x (stored_as at.p at.t (searched_of s (Mode.Against gas) (air_of at)))) x ≡ x
    go true = rw h
    go false = refl

-- any other sample stores what a search finds
module _ (s : Sheet) (at : Measurement) (x : Stored) where
  pub replaced : {mode : Mode} {gas : Cylinder} → mode ≡ Mode.Against gas → checked_on mode at ≡ true → is_at x at ≡ false
      → stored_on s mode at x ≡ stored_as at.p at.t (searched_of s mode (air_of at))
  unfolding stored_on
  replaced {gas = gas} m c e = go m (subst (λ (n : Mode). checked_on n at ≡ true) m c)
    where
      go : {mode : Mode} → mode ≡ Mode.Against gas → checked_on (Mode.Against gas) at ≡ true → stored_on s mode at x ≡ stored_as at.p at.t (searched_of s mode (air_of at))
      go n d = rw (n, d, e)

-- whatever holds of what is stored and of what a search finds at the sample's P and T holds of what a sample leaves
pub stored_either : (P : Stored → Type 0) (s : Sheet) (mode : Mode) (at : Measurement) (x : Stored) → P x → P (stored_as at.p at.t (searched_of s mode (air_of at)))
    → P (stored_on s mode at x)
unfolding stored_on
stored_either P s Mode.Absolute at x h k = h
stored_either P s (Mode.Against gas) at x h k = go (checked_on (Mode.Against gas) at) (is_at x at)
  where
    go : (c d : Bool) → P (cond c (cond d x (stored_as at.p at.t (searched_of s (Mode.Against gas) (air_of at)))) x)
    go false d = h
    go true true = h
    go true false = k

-- what a search finds may be stored
pub as_within : (p t : ℕ) (f : Option ℕ) → found_value f ≤ 150000000 → stored_within (stored_as p t f) ≡ true
as_within p t f h = le-leb (found_value f) 150000000 h

as_searched : (s : Sheet) (gas : Cylinder) (p t : ℕ) (f : Option ℕ) → reference_of s gas.c (record { p = p; t = t; e = gas.e }) ≡ f
    → IsSearched s (Mode.Against gas) (stored_as p t f)
as_searched s gas p t f e = e

pub finding_as : (p t : ℕ) (f : Option ℕ) → finding_in (stored_as p t f) ≡ f
finding_as p t f = refl

pub is_at_as : (at : Measurement) (f : Option ℕ) → is_at (stored_as at.p at.t f) at ≡ true
is_at_as at f = rw (eq-eqb at.p at.p refl, eq-eqb at.t at.t refl)

pub stays_within : (s : Sheet) (mode : Mode) (at : Measurement) (x : Stored) → stored_within x ≡ true → stored_within (stored_on s mode at x) ≡ true
stays_within s mode at x h =
    stored_either (λ (y : Stored). stored_within y ≡ true) s mode at x h (as_within at.p at.t (searched_of s mode (air_of at)) (finding_size s mode (air_of at)))

-- in absolute mode a sample searches for nothing
pub stays_searched : (s : Sheet) (mode : Mode) (at : Measurement) (x : Stored) → IsSearched s mode x → IsSearched s mode (stored_on s mode at x)
unfolding stored_on
stays_searched s Mode.Absolute at x h = h
stays_searched s (Mode.Against gas) at x h = stored_either (IsSearched s (Mode.Against gas)) s (Mode.Against gas) at x h (as_searched s gas at.p at.t _ refl)

-- ---- what a sample goes by
module _ (s : Sheet) (at : Measurement) where
  -- what a search gave at the stored P and T it gives there again
  again : (gas : Cylinder) (p t : ℕ) {f : Option ℕ} → reference_of s gas.c (record { p = p; t = t; e = gas.e }) ≡ f → (eqb p at.p && eqb t at.t) ≡ true
      → f ≡ searched_of s (Mode.Against gas) (air_of at)
  again gas p t h e =
      let w = both (eqb p at.p) (eqb t at.t) e in
      sym h
      ∙ ap (λ (n : ℕ). reference_of s gas.c (record { p = n; t = t; e = gas.e })) (eqb-true p at.p w.0)
      ∙ ap (λ (n : ℕ). reference_of s gas.c (record { p = at.p; t = n; e = gas.e })) (eqb-true t at.t w.1)

  pub agrees : (mode : Mode) (x : Stored) → IsSearched s mode x → is_at x at ≡ true → finding_in x ≡ searched_of s mode (air_of at)
  agrees mode None h e = absurd (subst T (sym e) tt)
  agrees Mode.Absolute (Some x) h e = absurd h
  agrees (Mode.Against gas) (Some x) h e = again gas x.p x.t h e

  -- where its inputs pass check 6, and what is stored, if it is of its P and T, is what a search gives, a sample goes by what a search gives
  pub goes_by_search : (gas : Cylinder) (x : Stored) → (is_at x at ≡ true → finding_in x ≡ searched_of s (Mode.Against gas) (air_of at))
      → checked_on (Mode.Against gas) at ≡ true → finding_in (stored_on s (Mode.Against gas) at x) ≡ searched_of s (Mode.Against gas) (air_of at)
  unfolding stored_on
  goes_by_search gas x h c = rw c (go (is_at x at) refl)
    where
      go : (d : Bool) → is_at x at ≡ d → finding_in (cond d x (stored_as at.p at.t (searched_of s (Mode.Against gas) (air_of at)))) ≡ searched_of s (Mode.Against gas) (air_of at)
      go true e = h e
      go false e = finding_as at.p at.t (searched_of s (Mode.Against gas) (air_of at))

-- what a search gives is within the limits of what is stored
pub searched_within : (s : Sheet) (mode : Mode) (x : Stored) → IsSearched s mode x → stored_within x ≡ true
searched_within s mode None h = refl
searched_within s Mode.Absolute (Some x) h = absurd h
searched_within s (Mode.Against gas) (Some x) h =
    let a : Air = record { p = x.p; t = x.t; e = gas.e } in
    le-leb (found_value x.r) 150000000 (subst (λ (f : Option ℕ). found_value f ≤ 150000000) h (finding_size s (Mode.Against gas) a))
