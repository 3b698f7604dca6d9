-- Demand 3's distances for one accepted reading: of the wet value in both modes, of the dry value, and of equation (11) at the
-- reference signal. All come from one lemma, `reading_distance`. Assumes nothing.
use Rattle.std.specs.Prelude.{Ok}
use mathlib.Core.Path.{◌≡◌, subst}
use Prim.Native.Nat.{ℕ, ◌+◌, ◌*◌, ◌-◌, ◌≤◌, ◌<◌}
use native.Mathlib.Nat.{le_refl, mul-le-mul_right}
use native.Mathlib.Omega.{arith}
use lib.IntN.{ℤ, pos, nat_abs, ◌+ℤ◌, ◌-ℤ◌}
use lib.Signed.{◌≤ℤ◌, ◌<ℤ◌}
use Rattle.rounding.proofs.Difference.{is_nat, is_add, is_minus, is_scale, is_parts, is_le, is_lt, of_le, of_lt, of_abs_le, up, down}
use Rattle.rounding.proofs.Approximation.{within_exactly, within_scale, within_near}
use Rattle.curve.specs.declared.Sheet.{Sheet}
use Rattle.curve.specs.declared.Air.{Air}
use Rattle.curve.specs.Limits.{SheetOk, AirOk}
use Rattle.curve.specs.Curve.{dry_of}
use Rattle.curve.specs.Absolute.{absolute_of}
use Rattle.curve.proofs.Accepted.{accepted, z_size}
use Rattle.reference.specs.Signal.{signal_of, against_of}
use Rattle.exact.specs.Fraction.{Fraction, whole, LiesWithin, AtLeast, LessThan}
use Rattle.exact.specs.Equation.{exact_reduced, exact_wet, exact_dry}
use Rattle.exact.specs.Signal.{exact_signal, exact_against}
use Rattle.exact.specs.Bounds.{absolute_bound, against_bound, dry_bound, reference_bound}
use Rattle.exact.proofs.Lower.{wet_lower, dry_lower, signal_lower, against_lower}
use Rattle.exact.proofs.Chain.{Approx, exact_z_size, wet_within}
use Rattle.exact.proofs.Signals.{signal_within, against_within}

-- ---- what a distance says
module _ {c : ℤ} {bound : ℕ} {x : Fraction} (h : LiesWithin c bound x) where
  pub lies_approx : Approx c x bound 1
  lies_approx = record { within = omega (arith, h.distance) }

  pub lies_weaken : (more : ℕ) → bound ≤ more → LiesWithin c more x
  lies_weaken more l = record { lower = h.lower; distance = omega (arith, h.distance, mul-le-mul_right x.den l) }

  sides : (up c * x.den + down x.num ≤ down c * x.den + up x.num + bound * x.den)
      × (down c * x.den + up x.num ≤ up c * x.den + down x.num + bound * x.den)
  sides = of_abs_le (bound * x.den) (is_minus (is_scale x.den (is_parts c)) (is_parts x.num)) h.distance

  at_least : {m : ℤ} → m ≤ℤ c → AtLeast x (m -ℤ pos bound)
  at_least {m} l =
      let d = x.den in let M = is_parts m in let s = sides in
      record {
        lower = h.lower;
        at_least = is_le (is_scale d (is_minus M (is_nat bound))) (is_parts x.num) (omega (arith, mul-le-mul_right d (of_le M (is_parts c) l)));
      }

  less_than : {m : ℤ} → c <ℤ m → LessThan x (m +ℤ pos bound)
  less_than {m} l =
      let d = x.den in let M = is_parts m in let s = sides in
      record {
        lower = h.lower;
        less_than = is_lt (is_parts x.num) (is_scale d (is_add M (is_nat bound))) (omega (arith, h.lower, mul-le-mul_right d (of_lt (is_parts c) M l)));
      }

pub approx_lies : {c : ℤ} {E : ℕ} {x : Fraction} → 0 < x.den → Approx c x E 1 → LiesWithin c E x
approx_lies l w = record { lower = l; distance = omega (arith, w.within) }

-- ---- the readings
module _ (s : Sheet) (okS : SheetOk s) (a : Air) (okA : AirOk a) where
  -- an accepted reading of a signal at most k / 2 from x, for any k, where the exact z of x is at most 3 above 10^8
  pub value_distance : (k : ℕ) {v : ℤ} {x : Fraction} → Approx v x k 2 → 0 < x.den → nat_abs (exact_reduced x a).num ≤ 100000003 * (exact_reduced x a).den
      → (c : ℤ) → absolute_of s v a ≡ Ok c → LiesWithin c (446 + 600 * k) (exact_wet s x a)
  value_distance k {v} {x} w l size c e =
      let h = accepted s v a c e in
      subst (λ (n : ℤ). LiesWithin n (446 + 600 * k) (exact_wet s x a)) h.value
      (approx_lies (wet_lower s okS a okA x l) (wet_within s okS a okA k w l (z_size s a okS okA h) size))

  pub exact_size : (k : ℕ) → k ≤ 2 → {v : ℤ} {x : Fraction} → Approx v x k 2 → (c : ℤ) → absolute_of s v a ≡ Ok c
      → nat_abs (exact_reduced x a).num ≤ 100000003 * (exact_reduced x a).den
  exact_size k few {v} w c e = exact_z_size a okA k w few (z_size s a okS okA (accepted s v a c e))

  -- the one lemma: a signal at most k / 2 from the exact one reads at most 446 + 600 k from the exact value
  pub reading_distance : (k : ℕ) → k ≤ 2 → {v : ℤ} {x : Fraction} → Approx v x k 2 → 0 < x.den → (c : ℤ) → absolute_of s v a ≡ Ok c
      → LiesWithin c (446 + 600 * k) (exact_wet s x a)
  reading_distance k few w l c e = value_distance k w l (exact_size k few w c e) c e

  -- the dry value of a wet one
  dry_distance : {c : ℤ} {x : Fraction} → LiesWithin c 1646 x → LiesWithin (dry_of c a) dry_bound (exact_dry x a)
  unfolding dry_of exact_dry
  dry_distance {c} {x} h =
      approx_lies (dry_lower a okA x h.lower)
      (within_near (within_scale (lies_approx h) a.p (le_refl a.p)) (omega (arith, okA.p_low, okA.e_high)) (omega arith)
      (numbers a.p (a.p - a.e) (omega (arith, okA.e_high))))
    where
      numbers : (p rest : ℕ) → 9 * p ≤ 10 * rest → (2 * (1646 * p) + rest * 1) * 1 ≤ dry_bound * (2 * rest * 1)
      numbers p rest l = omega arith

  -- ---- a sample
  module _ (raw q : ℤ) (span : ℕ) (c : ℤ) where
    module _ (e : absolute_of s (signal_of raw q span) a ≡ Ok c) where
      absolute_reading : LiesWithin c 1046 (exact_wet s (exact_signal raw q span) a)
      absolute_reading = reading_distance 1 (omega arith) (signal_within raw q span) (signal_lower raw q span) c e

      pub absolute_distance : LiesWithin c absolute_bound (exact_wet s (exact_signal raw q span) a)
      absolute_distance = lies_weaken absolute_reading absolute_bound (omega arith)

      pub absolute_dry_distance : LiesWithin (dry_of c a) dry_bound (exact_dry (exact_wet s (exact_signal raw q span) a) a)
      absolute_dry_distance = dry_distance (lies_weaken absolute_reading 1646 (omega arith))

    module _ (r : ℕ) (l : r < s.k) (e : absolute_of s (against_of (signal_of raw q span) r s.k) a ≡ Ok c) where
      against_reading : LiesWithin c 1646 (exact_wet s (exact_against (exact_signal raw q span) r s.k) a)
      against_reading =
          reading_distance 2 (omega arith) (against_within 1 (signal_within raw q span) r s.k l)
          (against_lower (exact_signal raw q span) r s.k (signal_lower raw q span) (omega arith)) c e

      pub against_distance : LiesWithin c against_bound (exact_wet s (exact_against (exact_signal raw q span) r s.k) a)
      against_distance = lies_weaken against_reading against_bound (omega arith)

      pub against_dry_distance : LiesWithin (dry_of c a) dry_bound (exact_dry (exact_wet s (exact_against (exact_signal raw q span) r s.k) a) a)
      against_dry_distance = dry_distance against_reading

  -- ---- equation (11) at a whole signal
  module _ (v cylinder : ℕ) (c : ℤ) (e : absolute_of s (pos v) a ≡ Ok c) where
    whole_distance : LiesWithin c reference_bound (exact_wet s (whole (pos v)) a)
    whole_distance = lies_weaken (reading_distance 0 (omega arith) (within_exactly (pos v) 2) (omega arith) c e) reference_bound (omega arith)

    -- a reading that is at least the cylinder, as at R
    pub reference_at_least : pos cylinder ≤ℤ c → AtLeast (exact_wet s (whole (pos v)) a) (pos cylinder -ℤ pos reference_bound)
    reference_at_least l = at_least whole_distance l

    -- a reading below the cylinder, as at R − 1
    pub reference_less_than : c <ℤ pos cylinder → LessThan (exact_wet s (whole (pos v)) a) (pos cylinder +ℤ pos reference_bound)
    reference_less_than l = less_than whole_distance l
