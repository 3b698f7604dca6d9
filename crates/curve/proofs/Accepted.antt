-- What an accepted reading says of its signal, of z and of its value. Assumes nothing.
use Rattle.std.specs.Prelude.{Err, Ok}
use mathlib.Core.Path.{◌≡◌, refl, sym, ◌∙◌, subst}
use mathlib.Core.Bool.{Bool, true, false, cond}
use Prim.Native.Nat.{ℕ, ◌≤◌}
use native.Mathlib.Omega.{arith}
use lib.IntN.{ℤ, pos, nat_abs}
use lib.Signed.{◌≤ℤ◌, ◌<ℤ◌, le_z_yes}
use mathlib.Core.Logic.{◌⊎◌, inl, inr, ⊎_elim}
use Rattle.rounding.proofs.Integers.{≤ℤ-trans}
use Rattle.rounding.proofs.Tests.{lt_false, le_false, false_lt, size_between}
use Rattle.curve.specs.declared.Sheet.{Sheet}
use Rattle.curve.specs.declared.Air.{Air}
use Rattle.curve.specs.Reading.{Reading}
use Rattle.curve.specs.declared.OutOfRange.TheVariants.{BelowZero, OverRange}
use Rattle.curve.specs.Limits.{SheetOk, AirOk}
use Rattle.curve.specs.Curve.{reduced_of, wet_of}
use Rattle.curve.specs.Absolute.{lowest_signal, signal_low, signal_high, signal_at_k, reduced_high, wet_high, unless_over, absolute_of}
use Rattle.curve.proofs.Order.{reduced_mono, wet_mono}
use Rattle.curve.proofs.Sizes.{lowest_z, lowest_wet}

pub record Accepted (s : Sheet) (v : ℤ) (a : Air) (c : ℤ) : Type 0 where
  pub from_low : lowest_signal ≤ℤ v
  pub below_k : v <ℤ pos s.k
  pub z_high : reduced_of v a ≤ℤ pos 100000000
  pub c_high : c ≤ℤ pos 3000000000
  pub value : wet_of s v (reduced_of v a) a ≡ c

pub not_value : (r : Reading) (c : ℤ) → r ≡ Ok c → r ≡ Err OverRange → ⊥
not_value r c p q = let z : ◌≡◌ {A = ℕ} 0 1 = cc in omega arith

not_below : (c : ℤ) → ◌≡◌ {A = Reading} (Err BelowZero) (Ok c) → ⊥
not_below c p = let z : ◌≡◌ {A = ℕ} 0 1 = cc in omega arith

pub value_same : {c d : ℤ} → ◌≡◌ {A = Reading} (Ok c) (Ok d) → c ≡ d
value_same p = cc

-- what the other arm of a match on a value knows: it is one of the refusals
pub refused : (r : Reading) → ((c : ℤ) → r ≡ Ok c → ⊥) → (r ≡ (Err BelowZero)) ⊎ (r ≡ (Err OverRange))
refused (Ok c) t = absurd (t c refl)
refused (Err BelowZero) t = inl refl
refused (Err OverRange) t = inr refl

-- a signal from 0 on is not below zero, so that a refused one is over range
pub not_below_zero : (s : Sheet) (v : ℤ) (a : Air) → pos 0 ≤ℤ v → absolute_of s v a ≡ Err BelowZero → ⊥
unfolding absolute_of
not_below_zero s v a h p =
    let z = reduced_of v a in let c = wet_of s v z a in
    not_over (signal_high v) _ (not_over (signal_at_k s v) _ (not_over (reduced_high z) _ (not_over (wet_high c) _ (λ q. not_below c (sym q)))))
    (rw (false_lt v lowest_signal (≤ℤ-trans (le_z_yes tt) h)) at p)
  where
    not_over : (x : Bool) (q : Reading) → (q ≡ Err BelowZero → ⊥) → unless_over x q ≡ Err BelowZero → ⊥
    not_over true q f p = let z : ◌≡◌ {A = ℕ} 0 1 = cc in omega arith
    not_over false q f p = f p

pub over_range : (s : Sheet) (v : ℤ) (a : Air) {r : Reading} → pos 0 ≤ℤ v → r ≡ absolute_of s v a → ((c : ℤ) → r ≡ Ok c → ⊥) → absolute_of s v a ≡ Err OverRange
over_range s v a {r} h e t = ⊎_elim (λ q. absurd (not_below_zero s v a h (sym e ∙ q))) (λ q. sym e ∙ q) (refused r t)

-- a reading past a ground is a value only where the ground fails
passed : (ground : Bool) (r : Reading) {c : ℤ} → unless_over ground r ≡ Ok c → (ground ≡ false) × (r ≡ Ok c)
passed true r {c} q = absurd (not_value (Err OverRange) c q refl)
passed false r q = (refl, q)

not_low : (t : Bool) (r : Reading) {c : ℤ} → cond t (Err BelowZero) r ≡ Ok c → (t ≡ false) × (r ≡ Ok c)
not_low true r {c} q = absurd (not_below c q)
not_low false r q = (refl, q)

pub accepted : (s : Sheet) (v : ℤ) (a : Air) (c : ℤ) → absolute_of s v a ≡ Ok c → Accepted s v a c
unfolding absolute_of
accepted s v a c q =
    let z = reduced_of v a in
    let w = wet_of s v z a in
    let q0 = not_low (signal_low v) _ q in
    let q1 = passed (signal_high v) _ q0.1 in
    let q2 = passed (signal_at_k s v) _ q1.1 in
    let q3 = passed (reduced_high z) _ q2.1 in
    let q4 = passed (wet_high w) _ q3.1 in
    let e = value_same q4.1 in
    record {
      from_low = lt_false v lowest_signal q0.0;
      below_k = le_false (pos s.k) v q2.0;
      z_high = lt_false (pos 100000000) z q3.0;
      c_high = subst (λ (x : ℤ). x ≤ℤ pos 3000000000) e (lt_false (pos 3000000000) w q4.0);
      value = e;
    }

module _ (s : Sheet) (a : Air) (okS : SheetOk s) (okA : AirOk a) {v c : ℤ} (h : Accepted s v a c) where
  pub z_size : nat_abs (reduced_of v a) ≤ 100000000
  z_size = size_between (omega (arith, lowest_z a okA)) (reduced_mono a okA h.from_low) h.z_high

  pub value_size : nat_abs c ≤ 3000000000
  value_size = size_between (lowest_wet s a okS okA) (subst (λ (x : ℤ). wet_of s lowest_signal (reduced_of lowest_signal a) a ≤ℤ x) h.value (wet_mono s a okS okA h.from_low)) h.c_high
