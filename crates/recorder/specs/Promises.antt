-- What R-8 promises of codes and words, as statements about the rules. `proofs/Promises.antt` proves them. Assumes nothing.
use Rattle.std.specs.Prelude.{◌≡◌, ◌⊎◌, ℕ, ◌*◌, ◌≤◌, ◌<◌, ℤ, pos, nat_abs, ◌-ℤ◌, ◌*ℤ◌, ◌≤ℤ◌, ◌<ℤ◌, Some}
use Rattle.recorder.specs.declared.ChannelKind.{ChannelKind}
use Rattle.recorder.specs.Recorder.{Ends, steps_of, lowest_of, highest_of, ratio_of, code_of, word_of, pack_of, packed_refusal, packed_word, unpack_of}

-- 0 and the word for a value, ends and a channel number that are all within their limits; 18 and the word 0 for any others
pub record TurnedAway : Type 0 where
  pub accepted : (k : ChannelKind) (x x0 xf : ℤ) (channel : ℕ) → Ends x x0 xf → channel < 16
      → (packed_refusal (pack_of k x x0 xf channel) ≡ 0) × (packed_word (pack_of k x x0 xf channel) ≡ word_of (code_of k x x0 xf) channel)
  pub refused : (k : ChannelKind) (x x0 xf : ℤ) (channel : ℕ) → (Ends x x0 xf → channel < 16 → ⊥)
      → (packed_refusal (pack_of k x x0 xf channel) ≡ 18) × (packed_word (pack_of k x x0 xf channel) ≡ 0)

-- a code that is the rounded ratio lies within half a step of the exact one: |code (XF − X0) − steps (X − X0)| is at most (XF − X0) / 2
pub record Unheld (k : ChannelKind) (x x0 xf : ℤ) : Type 0 where
  pub is : code_of k x x0 xf ≡ ratio_of (steps_of k) x x0 xf
  pub half : 2 * nat_abs (code_of k x x0 xf *ℤ (xf -ℤ x0) -ℤ (x -ℤ x0) *ℤ pos (steps_of k)) ≤ nat_abs (xf -ℤ x0)

-- a code that is held is at the end that the rounded ratio is beyond
pub record HeldLow (k : ChannelKind) (x x0 xf : ℤ) : Type 0 where
  pub is : code_of k x x0 xf ≡ lowest_of k
  pub beyond : ratio_of (steps_of k) x x0 xf <ℤ lowest_of k

pub record HeldHigh (k : ChannelKind) (x x0 xf : ℤ) : Type 0 where
  pub is : code_of k x x0 xf ≡ highest_of k
  pub beyond : highest_of k <ℤ ratio_of (steps_of k) x x0 xf

pub record EveryCode : Type 0 where
  pub within : (k : ChannelKind) (x x0 xf : ℤ) → (lowest_of k ≤ℤ code_of k x x0 xf) × (code_of k x x0 xf ≤ℤ highest_of k)
  -- every code is of one of the three
  pub held : (k : ChannelKind) (x x0 xf : ℤ) → x0 <ℤ xf → Unheld k x x0 xf ⊎ HeldLow k x x0 xf ⊎ HeldHigh k x x0 xf
  -- it never falls as X rises
  pub rising : (k : ChannelKind) (x y x0 xf : ℤ) → x0 <ℤ xf → x ≤ℤ y → code_of k x x0 xf ≤ℤ code_of k y x0 xf

pub record GivenBack : Type 0 where
  -- a packed word holds the code and the channel number that it was packed from
  pub unpacked : (k : ChannelKind) (x x0 xf : ℤ) (channel w : ℕ) → pack_of k x x0 xf channel ≡ Some w
      → unpack_of k w ≡ record { code = code_of k x x0 xf; channel = channel }
  -- every code of a kind and every channel number is held by its word
  pub reached : (k : ChannelKind) (code : ℤ) (channel : ℕ) → lowest_of k ≤ℤ code → code ≤ℤ highest_of k → channel < 16
      → (word_of code channel < 65536) × (unpack_of k (word_of code channel) ≡ record { code = code; channel = channel })
  -- and every word of sixteen bits is packed from what it holds, on a scale whose steps are 1 pmol/mol
  pub packed : (k : ChannelKind) (w : ℕ) → w < 65536
      → pack_of k (unpack_of k w).code (pos 0) (pos (steps_of k)) (unpack_of k w).channel ≡ Some w
