-- The first ground of a signal beside its absolute reading: it says what the tests say, and one is named exactly where the reading is over range;
-- where a reading is over range and the first three tests fail, the last holds. Assumes nothing.
use Rattle.std.specs.Prelude.{Err, Ok}
use mathlib.Core.Bool.{Bool, true, false, cond}
use mathlib.Core.Path.{◌≡◌, refl}
use Prim.Native.Nat.{ℕ}
use native.Mathlib.Omega.{arith}
use lib.Dec.{eqb}
use lib.IntN.{ℤ, pos}
use Rattle.std.specs.Prelude.{Option, Some, None, is_some}
use Rattle.rounding.proofs.Tests.{lt_true, lt_false, le_true, le_false}
use Rattle.curve.specs.declared.Sheet.{Sheet}
use Rattle.curve.specs.declared.Air.{Air}
use Rattle.curve.specs.Reading.{Reading}
use Rattle.curve.specs.declared.OutOfRange.TheVariants.{BelowZero, OverRange}
use Rattle.curve.specs.Curve.{reduced_of, wet_of}
use Rattle.curve.specs.Absolute.{reading_refusal, signal_low, signal_high, signal_at_k, reduced_high, wet_high, unless_over, absolute_of}
use Rattle.curve.proofs.Accepted.{not_value}
use Rattle.grounds.specs.declared.Ground.{Ground}
use Rattle.grounds.specs.Grounds.{first_ground, ground_at}
use Rattle.grounds.specs.Promises.{Passed}

module _ (s : Sheet) (v : ℤ) (a : Air) where
  abbrev z : ℤ
  z = reduced_of v a

  abbrev c : ℤ
  c = wet_of s v z a

  -- the reading and the ground, by their tests
  abbrev reads : Bool → Bool → Bool → Bool → Bool → Reading
  reads low high at_k reduced wet =
      cond low (Err BelowZero) (unless_over high (unless_over at_k (unless_over reduced (unless_over wet (Ok c)))))

  abbrev first : Bool → Bool → Bool → Bool → Option Ground
  first high at_k reduced wet =
      cond high (Some Ground.SignalHigh) (cond at_k (Some Ground.SignalAtK) (cond reduced (Some Ground.ReducedHigh) (cond wet (Some Ground.WetHigh) None)))

  passed_first : Passed s v a (first_ground s v a)
  unfolding first_ground
  passed_first = go (signal_high v) (signal_at_k s v) (reduced_high z) (wet_high c) refl refl refl refl
    where
      go : (h k r w : Bool) → signal_high v ≡ h → signal_at_k s v ≡ k → reduced_high z ≡ r → wet_high c ≡ w → Passed s v a (first h k r w)
      go true k r w e f g i = lt_true (pos 150000000) v e
      go false true r w e f g i = (lt_false (pos 150000000) v e, le_true (pos s.k) v f)
      go false false true w e f g i = (lt_false (pos 150000000) v e, le_false (pos s.k) v f, lt_true (pos 100000000) z g)
      go false false false true e f g i =
          (lt_false (pos 150000000) v e, le_false (pos s.k) v f, lt_false (pos 100000000) z g, lt_true (pos 3000000000) c i)
      go false false false false e f g i = tt

  pub passed_at : Passed s v a (ground_at s v a)
  passed_at = go (signal_low v)
    where
      go : (l : Bool) → Passed s v a (cond l None (first_ground s v a))
      go true = tt
      go false = passed_first

  pub named_at : is_some (ground_at s v a) ≡ eqb (reading_refusal (absolute_of s v a)) 8
  unfolding first_ground absolute_of
  named_at = go (signal_low v) (signal_high v) (signal_at_k s v) (reduced_high z) (wet_high c)
    where
      go : (l h k r w : Bool) → is_some (cond l None (first h k r w)) ≡ eqb (reading_refusal (reads l h k r w)) 8
      go true h k r w = refl
      go false true k r w = refl
      go false false true r w = refl
      go false false false true w = refl
      go false false false false true = refl
      go false false false false false = refl

  -- ---- what the tests say where the reading is over range
  module _ (e : absolute_of s v a ≡ (Err OverRange)) where
    pub not_low : signal_low v ≡ false
    unfolding absolute_of
    not_low = go (signal_low v) e
      where
        go : (l : Bool) → reads l (signal_high v) (signal_at_k s v) (reduced_high z) (wet_high c) ≡ Err OverRange → l ≡ false
        go true q = let n : ◌≡◌ {A = ℕ} 0 1 = cc in absurd (omega arith)
        go false q = refl

    pub the_last : signal_high v ≡ false → signal_at_k s v ≡ false → reduced_high z ≡ false → wet_high c ≡ true
    unfolding absolute_of
    the_last h k r = go (wet_high c) (rw (not_low, h, k, r) at e)
      where
        go : (w : Bool) → unless_over w (Ok c) ≡ Err OverRange → w ≡ true
        go true q = refl
        go false q = absurd (not_value (Ok c) c refl q)
