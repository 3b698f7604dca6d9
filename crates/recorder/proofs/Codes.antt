-- What is accepted, as facts and as a test; how wide the scale is; and where a held number lies. Assumes nothing.
use mathlib.Core.Path.{◌≡◌, refl}
use mathlib.Core.Bool.{Bool, true, false, ◌&&◌}
use Prim.Native.Nat.{ℕ, ◌≤◌, ◌<◌}
use native.Mathlib.Omega.{arith}
use lib.Dec.{ltb}
use lib.IntN.{ℤ, nat_abs, ◌-ℤ◌}
use lib.Signed.{lt_z, ◌≤ℤ◌, ◌<ℤ◌, ≤ℤ_refl}
use borrow.Author.Tests.{leb-true, ltb-true, le-leb, lt-ltb}
use Rattle.std.proofs.lemmas.Int.{ints, clamps}
use Rattle.std.specs.Int.{int_max, int_min}
use Rattle.rounding.proofs.Difference.{is_minus, is_parts, is_le, of_abs_le, of_le, of_lt}
use Rattle.rounding.proofs.Integers.{≤ℤ-trans}
use Rattle.rounding.proofs.Tests.{lt_true, lt_false, true_lt, false_lt, size_between}
use Rattle.curve.proofs.Within.{both}
use Rattle.recorder.specs.declared.ChannelKind.{ChannelKind}
use Rattle.recorder.specs.declared.ChannelKind.TheVariants.{Voltage, Current}
use Rattle.recorder.specs.Recorder.{Ends, in_range, scales, accepts, lowest_of, highest_of, held_of, code_of, steps_of, ratio_of}

-- ---- what is accepted
pub accepted_ends : (x x0 xf : ℤ) (channel : ℕ) → accepts x x0 xf channel ≡ true → Ends x x0 xf × (channel < 16)
unfolding accepts
accepted_ends x x0 xf channel e =
    let d = both _ (ltb channel 16) e in
    let l = both _ (lt_z x0 xf) d.0 in
    let f = both _ (in_range xf) l.0 in
    let v = both (in_range x) (in_range x0) f.0 in (
      record {
        x_size = leb-true (nat_abs x) 4000000000 v.0;
        x0_size = leb-true (nat_abs x0) 4000000000 v.1;
        xf_size = leb-true (nat_abs xf) 4000000000 f.1;
        above = lt_true x0 xf l.1;
      },
      ltb-true channel 16 d.1,
    )

pub ends_accepted : (x x0 xf : ℤ) (channel : ℕ) → Ends x x0 xf → channel < 16 → accepts x x0 xf channel ≡ true
unfolding accepts
ends_accepted x x0 xf channel e l =
    rw (le-leb (nat_abs x) 4000000000 e.x_size, le-leb (nat_abs x0) 4000000000 e.x0_size, le-leb (nat_abs xf) 4000000000 e.xf_size, true_lt x0 xf e.above, lt-ltb channel 16 l)

-- the value, the scale and the channel number, each by itself
pub accepts_is : (x x0 xf : ℤ) (channel : ℕ) → accepts x x0 xf channel ≡ in_range x && (scales x0 xf && ltb channel 16)
unfolding accepts
accepts_is x x0 xf channel = apart (in_range x) (in_range x0) (in_range xf) (lt_z x0 xf) (ltb channel 16)
  where
    apart : (a b c d e : Bool) → (a && b && c && d && e) ≡ (a && (b && c && d && e))
    apart true b c d e = refl
    apart false b c d e = refl

-- the scale is not empty
pub width_positive : {x0 xf : ℤ} → x0 <ℤ xf → 0 < nat_abs (xf -ℤ x0)
width_positive {x0} {xf} h =
    let A = is_parts x0 in let B = is_parts xf in
    let w = of_abs_le (nat_abs (xf -ℤ x0)) (is_minus B A) (omega arith) in
    omega (arith, of_lt A B h)

-- ---- what is held
pub held_low : (low high z : ℤ) → z <ℤ low → held_of low high z ≡ low
unfolding held_of
held_low low high z h = rw (true_lt z low h)

pub held_high : (low high z : ℤ) → low ≤ℤ high → high <ℤ z → held_of low high z ≡ high
unfolding held_of
held_high low high z l h =
    let L = is_parts low in let H = is_parts high in let Z = is_parts z in
    rw (false_lt z low (is_le L Z (omega (arith, of_le L H l, of_lt H Z h))), true_lt high z h)

pub unheld : (low high z : ℤ) → low ≤ℤ z → z ≤ℤ high → held_of low high z ≡ z
unfolding held_of
unheld low high z l h = rw (false_lt z low l, false_lt high z h)

-- below, above or between: what a number is held at
pub by_hold : {Q : Type 0} (low high z : ℤ) → low ≤ℤ high → (z <ℤ low → held_of low high z ≡ low → Q) → (high <ℤ z → held_of low high z ≡ high → Q)
    → (low ≤ℤ z → z ≤ℤ high → held_of low high z ≡ z → Q) → Q
by_hold {Q} low high z h f g k = go (lt_z z low) (lt_z high z) refl refl
  where
    go : (t u : Bool) → lt_z z low ≡ t → lt_z high z ≡ u → Q
    go true u e d = let l = lt_true z low e in f l (held_low low high z l)
    go false true e d = let l = lt_true high z d in g l (held_high low high z h l)
    go false false e d = let l = lt_false z low e in let m = lt_false high z d in k l m (unheld low high z l m)

pub held_within : (low high z : ℤ) → low ≤ℤ high → (low ≤ℤ held_of low high z) × (held_of low high z ≤ℤ high)
held_within low high z h = by_hold low high z h (λ l e. rw e (≤ℤ_refl low, h)) (λ l e. rw e (h, ≤ℤ_refl high)) (λ l m e. rw e (l, m))

-- std's way to hold a number
pub clamped : (low high z : ℤ) → low ≤ℤ high → int_max low (int_min z high) ≡ held_of low high z
clamped low high z h =
    by_hold low high z h (λ l e. rw e (omega (arith, ints, clamps))) (λ l e. rw e (omega (arith, ints, clamps))) (λ l m e. rw e (omega (arith, ints, clamps)))

pub ordered : (k : ChannelKind) → lowest_of k ≤ℤ highest_of k
ordered Voltage = record { le = tt }
ordered Current = record { le = tt }

pub code_within : (k : ChannelKind) (x x0 xf : ℤ) → (lowest_of k ≤ℤ code_of k x x0 xf) × (code_of k x x0 xf ≤ℤ highest_of k)
code_within k x x0 xf = held_within (lowest_of k) (highest_of k) (ratio_of (steps_of k) x x0 xf) (ordered k)

-- twelve bits hold it
pub size_within : (k : ChannelKind) (z : ℤ) → lowest_of k ≤ℤ z → z ≤ℤ highest_of k → nat_abs z ≤ 4095
size_within Voltage z l h = size_between {l = lowest_of Voltage} (omega arith) l (≤ℤ-trans h (record { le = tt }))
size_within Current z l h = size_between {l = lowest_of Current} (omega arith) l (≤ℤ-trans h (record { le = tt }))
