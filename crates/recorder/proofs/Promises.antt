-- The recorder's promises hold: what is turned away, what a word holds, where a code lies, and the maker's examples. Assumes nothing.
use mathlib.Core.Path.{◌≡◌, refl, sym, ◌∙◌, ap, subst}
use mathlib.Core.Bool.{Bool, true, false, cond}
use mathlib.Core.Logic.{◌⊎◌, inl, inr}
use Prim.Native.Nat.{ℕ, ◌+◌, ◌*◌, ◌-◌, ◌/◌, ◌%◌, ◌≤◌, ◌<◌}
use native.Mathlib.Omega.{arith}
use lib.Dec.{ltb}
use lib.IntN.{ℤ, pos, negsuc, nat_abs, ◌-ℤ◌, ◌*ℤ◌, +ℤ_idr}
use lib.Signed.{◌≤ℤ◌, ◌<ℤ◌, ≤ℤ_refl, clash_ℤ, yes_non_neg, pos-nat_abs}
use borrow.Author.Tests.{ltb-true, ltb-false, lt-ltb, le-ltb}
use Rattle.rounding.proofs.Difference.{is_nat, is_minus, is_parts, is_le, of_le, of_lt}
use Rattle.rounding.proofs.Integers.{abs_mul, ≤ℤ-trans, ≤ℤ-<ℤ-trans, scale_mono}
use Rattle.rounding.specs.Near.{nearest}
use Rattle.rounding.proofs.Nearest.{near_half, near_mono, near_exact}
use Rattle.recorder.specs.declared.ChannelKind.{ChannelKind}
use Rattle.recorder.specs.declared.ChannelKind.TheVariants.{Voltage, Current}
use Rattle.std.proofs.Common.{Some, None}
use Rattle.recorder.specs.Recorder.{Ends, accepts, steps_of, lowest_of, highest_of, ratio_of, held_of, code_of, bits_of, word_of, pack_of, code_in, unpack_of}
use Rattle.recorder.specs.Promises.{TurnedAway, Unheld, HeldLow, HeldHigh, EveryCode, GivenBack}
use Rattle.recorder.specs.Examples.{MakersExamples, Words}
use Rattle.recorder.proofs.Codes.{accepted_ends, ends_accepted, width_positive, held_within, held_low, unheld, by_hold, ordered, code_within, size_within}

-- ---- what is turned away
packed_accepted : (k : ChannelKind) (x x0 xf : ℤ) (channel : ℕ) → Ends x x0 xf → channel < 16 → pack_of k x x0 xf channel ≡ Some (word_of (code_of k x x0 xf) channel)
unfolding pack_of
packed_accepted k x x0 xf channel e l = rw (ends_accepted x x0 xf channel e l)

packed_refused : (k : ChannelKind) (x x0 xf : ℤ) (channel : ℕ) → (Ends x x0 xf → channel < 16 → ⊥) → pack_of k x x0 xf channel ≡ None
unfolding pack_of
packed_refused k x x0 xf channel n = go (accepts x x0 xf channel) refl
  where
    go : (t : Bool) → accepts x x0 xf channel ≡ t → cond t (Some (word_of (code_of k x x0 xf) channel)) None ≡ None
    go true e = let a = accepted_ends x x0 xf channel e in absurd (n a.0 a.1)
    go false e = refl

pub turned_away : TurnedAway
turned_away = record {
  accepted = λ k x x0 xf channel e l. rw (packed_accepted k x x0 xf channel e l) (refl, refl);
  refused = λ k x x0 xf channel n. rw (packed_refused k x x0 xf channel n) (refl, refl);
}

-- ---- what a word holds

-- a word that was packed
packed_word_lem : (t : Bool) (n w : ℕ) → cond t (Some n) None ≡ Some w → w ≡ n
packed_word_lem true n w e = cc
packed_word_lem false n w e = cc

-- the twelve bits of a code between its kind's ends stand for the code
code_of_bits : (k : ChannelKind) (z : ℤ) → lowest_of k ≤ℤ z → z ≤ℤ highest_of k → (bits_of z < 4096) × (code_in k (bits_of z) ≡ z)
unfolding code_in
code_of_bits Voltage (pos n) l h =
    let b = of_le (is_nat n) (is_nat 2047) h in
    (omega arith, rw (lt-ltb n 2048 (omega arith)))
code_of_bits Voltage (negsuc n) l h =
    let b = of_le (is_parts (negsuc 2047)) (is_parts (negsuc n)) l in
    (omega arith, rw (le-ltb (4095 - n) 2048 (omega arith)) (ap negsuc (omega arith)))
code_of_bits Current (pos n) l h =
    let b = of_le (is_nat n) (is_nat 4095) h in (omega arith, refl)
code_of_bits Current (negsuc n) l h = absurd l.le

-- and twelve bits stand for a code between the ends, whose bits they are
pub record Stands (k : ChannelKind) (n : ℕ) (z : ℤ) : Type 0 where
  pub low : lowest_of k ≤ℤ z
  pub high : z ≤ℤ highest_of k
  pub bits : bits_of z ≡ n

bits_of_code : (k : ChannelKind) (n : ℕ) → n < 4096 → Stands k n (code_in k n)
unfolding code_in
bits_of_code Current n h = record { low = is_le (is_nat 0) (is_nat n) (omega arith); high = is_le (is_nat n) (is_nat 4095) (omega arith); bits = refl }
bits_of_code Voltage n h = go (ltb n 2048) refl
  where
    go : (t : Bool) → ltb n 2048 ≡ t → Stands Voltage n (cond t (pos n) (negsuc (4095 - n)))
    go true e =
        let l = ltb-true n 2048 e in
        record { low = is_le (is_parts (negsuc 2047)) (is_nat n) (omega arith); high = is_le (is_nat n) (is_nat 2047) (omega arith); bits = refl }
    go false e =
        let l = ltb-false n 2048 e in
        let z = is_parts (negsuc (4095 - n)) in
        record { low = is_le (is_parts (negsuc 2047)) z (omega arith); high = is_le z (is_nat 2047) (omega arith); bits = omega arith }

-- a packed word is read as what was packed
held_in_word : (k : ChannelKind) (z : ℤ) (channel : ℕ) → lowest_of k ≤ℤ z → z ≤ℤ highest_of k → unpack_of k (word_of z channel) ≡ record { code = z; channel = channel }
held_in_word k z channel l h =
    let r = code_of_bits k z l h in
    let low : (channel * 4096 + bits_of z) % 4096 ≡ bits_of z = omega arith in
    let high : (channel * 4096 + bits_of z) / 4096 ≡ channel = omega arith in
    rw (low, high, r.1)

unpacked : (k : ChannelKind) (x x0 xf : ℤ) (channel w : ℕ) → pack_of k x x0 xf channel ≡ Some w → unpack_of k w ≡ record { code = code_of k x x0 xf; channel = channel }
unfolding pack_of
unpacked k x x0 xf channel w e =
    let b = code_within k x x0 xf in
    ap (unpack_of k) (packed_word_lem (accepts x x0 xf channel) (word_of (code_of k x x0 xf) channel) w e) ∙ held_in_word k (code_of k x x0 xf) channel b.0 b.1

-- on a scale whose steps are 1 a code is its own ratio
own_ratio : (k : ChannelKind) (z : ℤ) → ratio_of (steps_of k) z (pos 0) (pos (steps_of k)) ≡ z
unfolding ratio_of
own_ratio Voltage z = rw (+ℤ_idr z) (near_exact z 2048 (omega arith))
own_ratio Current z = rw (+ℤ_idr z) (near_exact z 4096 (omega arith))

own_ends : (k : ChannelKind) (z : ℤ) → nat_abs z ≤ 4095 → Ends z (pos 0) (pos (steps_of k))
own_ends Voltage z h = record { x_size = omega arith; x0_size = omega arith; xf_size = omega arith; above = record { lt = tt } }
own_ends Current z h = record { x_size = omega arith; x0_size = omega arith; xf_size = omega arith; above = record { lt = tt } }

packed : (k : ChannelKind) (w : ℕ) → w < 65536 → pack_of k (unpack_of k w).code (pos 0) (pos (steps_of k)) (unpack_of k w).channel ≡ Some w
packed k w h =
    let z = code_in k (w % 4096) in
    let s = bits_of_code k (w % 4096) (omega arith) in
    packed_accepted k z (pos 0) (pos (steps_of k)) (w / 4096) (own_ends k z (size_within k z s.low s.high)) (omega arith)
    ∙ ap Some (rw (own_ratio k z, unheld (lowest_of k) (highest_of k) z s.low s.high, s.bits) (omega arith))

reached : (k : ChannelKind) (code : ℤ) (channel : ℕ) → lowest_of k ≤ℤ code → code ≤ℤ highest_of k → channel < 16
    → (word_of code channel < 65536) × (unpack_of k (word_of code channel) ≡ record { code = code; channel = channel })
reached k code channel l h c = let b = (code_of_bits k code l h).0 in (omega arith, held_in_word k code channel l h)

pub given_back : GivenBack
given_back = record { unpacked = unpacked; reached = reached; packed = packed }

-- ---- where a code lies

-- the width of the scale as an integer
width_is : {x0 xf : ℤ} → x0 <ℤ xf → pos (nat_abs (xf -ℤ x0)) ≡ xf -ℤ x0
width_is {x0} {xf} h =
    let A = is_parts x0 in let B = is_parts xf in
    pos-nat_abs (xf -ℤ x0) (yes_non_neg (is_le (is_nat 0) (is_minus B A) (omega (arith, of_lt A B h))))

-- the distance of z from steps (x − x0) / v, times v
abbrev off : ℕ → ℤ → ℤ → ℤ → ℤ → ℕ
off steps x x0 v z = nat_abs (z *ℤ v -ℤ (x -ℤ x0) *ℤ pos steps)

ratio_half : (steps : ℕ) (x x0 xf : ℤ) → x0 <ℤ xf → 2 * off steps x x0 (xf -ℤ x0) (ratio_of steps x x0 xf) ≤ nat_abs (xf -ℤ x0)
unfolding ratio_of
ratio_half steps x x0 xf o =
    let w = nat_abs (xf -ℤ x0) in let a = (x -ℤ x0) *ℤ pos steps in let r = nearest a w in
    let n = near_half a w (width_positive o) in
    subst (λ (v : ℤ). 2 * off steps x x0 v r ≤ w) (width_is o) (omega (arith, n.half, abs_mul (pos 2) (r *ℤ pos w -ℤ a)))

which : (k : ChannelKind) (x x0 xf : ℤ) → x0 <ℤ xf → Unheld k x x0 xf ⊎ HeldLow k x x0 xf ⊎ HeldHigh k x x0 xf
which k x x0 xf o =
    by_hold (lowest_of k) (highest_of k) (ratio_of (steps_of k) x x0 xf) (ordered k)
    (λ l e. inr (inl (record { is = e; beyond = l })))
    (λ l e. inr (inr (record { is = e; beyond = l })))
    (λ l m e. inl (record { is = e; half = subst (λ (z : ℤ). 2 * off (steps_of k) x x0 (xf -ℤ x0) z ≤ nat_abs (xf -ℤ x0)) (sym e) (ratio_half (steps_of k) x x0 xf o) }))

ratio_mono : (steps : ℕ) (x y x0 xf : ℤ) → x0 <ℤ xf → x ≤ℤ y → ratio_of steps x x0 xf ≤ℤ ratio_of steps y x0 xf
unfolding ratio_of
ratio_mono steps x y x0 xf o l =
    let X = is_parts x in let Y = is_parts y in let A = is_parts x0 in
    near_mono (nat_abs (xf -ℤ x0)) (width_positive o) (scale_mono steps (is_le (is_minus X A) (is_minus Y A) (omega (arith, of_le X Y l))))

held_mono : (low high a b : ℤ) → low ≤ℤ high → a ≤ℤ b → held_of low high a ≤ℤ held_of low high b
held_mono low high a b h l =
    by_hold low high b h
    (λ m e. rw (e, held_low low high a (≤ℤ-<ℤ-trans l m)) (≤ℤ_refl low))
    (λ m e. rw e (held_within low high a h).1)
    (λ m n e. rw e (up_to m (≤ℤ-trans l n)))
  where
    -- where b is not held, a is held at b or below
    up_to : low ≤ℤ b → a ≤ℤ high → held_of low high a ≤ℤ b
    up_to m n = by_hold low high a h (λ p e. rw e m) (λ p e. clash_ℤ p n) (λ p q e. rw e l)

pub every_code : EveryCode
every_code = record {
  within = code_within;
  held = which;
  rising = λ k x y x0 xf o l.
      held_mono (lowest_of k) (highest_of k) (ratio_of (steps_of k) x x0 xf) (ratio_of (steps_of k) y x0 xf) (ordered k) (ratio_mono (steps_of k) x y x0 xf o l);
}

-- ---- the examples
pub makers_examples : MakersExamples
unfolding held_of ratio_of nearest
makers_examples = record {
  ma_8_8 = refl;
  volts_0 = refl;
  volts_2_5 = refl;
  volts_5 = refl;
  volts_minus_5 = refl;
  over_half_volts = refl;
  under_half_volts = refl;
  over_half_ma = refl;
  under_half_ma = refl;
}

pub words : Words
unfolding pack_of accepts held_of ratio_of nearest
words = record {
  start = refl;
  middle = refl;
  highest = refl;
  lowest = refl;
  minus_one = refl;
  half_below = refl;
  half_above = refl;
  current_start = refl;
  current_end = refl;
  no_scale = refl;
  channel_16 = refl;
  value_above = refl;
}
