-- Document 02's R-8, chart recorder output: what is turned away, a wet value's code, code and channel number as one word, and what a word
-- holds. `nearest` is document 01's near, with R-6's halves. Assumes nothing.
use Rattle.std.specs.Prelude.{ℕ, ◌+◌, ◌*◌, ◌-◌, ◌/◌, ◌%◌, ◌≤◌, Bool, cond, Option, Some, None, ◌&&◌, leb, ltb, eqb, ℤ, pos, negsuc, neg_ℤ, nat_abs, ◌-ℤ◌, ◌*ℤ◌, ◌<ℤ◌}
use Rattle.std.specs.Int.Signed.{lt_z}
use Rattle.rounding.specs.Near.{nearest}
use Rattle.recorder.specs.declared.ChannelKind.{ChannelKind}
use Rattle.recorder.specs.declared.ChannelKind.TheVariants.{Voltage, Current}
use Rattle.recorder.specs.declared.Unpacked.{Unpacked}

-- ---- what a channel is

-- the kind that a byte names: 0 voltage, 1 current, any other none
abbrev pub kind_of : ℕ → Option ChannelKind
kind_of code = cond (eqb code 0) (Some Voltage) (cond (eqb code 1) (Some Current) None)

-- ---- what is turned away

-- from −4,000,000,000 to 4,000,000,000 pmol/mol
abbrev pub in_range : ℤ → Bool
in_range x = leb (nat_abs x) 4000000000

-- the ends in their range, XF above X0
abbrev pub scales : ℤ → ℤ → Bool
scales x0 xf = in_range x0 && in_range xf && lt_z x0 xf

-- the value X and the ends X0 and XF in their range, XF above X0, the channel number 0 to 15
unfoldable pub accepts : ℤ → ℤ → ℤ → ℕ → Bool
accepts x x0 xf channel = in_range x && in_range x0 && in_range xf && lt_z x0 xf && ltb channel 16

-- what the first four ask, as facts
pub record Ends (x x0 xf : ℤ) : Type 0 where
  pub x_size : nat_abs x ≤ 4000000000
  pub x0_size : nat_abs x0 ≤ 4000000000
  pub xf_size : nat_abs xf ≤ 4000000000
  pub above : x0 <ℤ xf

-- ---- the code

-- how many steps X0 and XF are apart, and the lowest and the highest code
abbrev pub steps_of : ChannelKind → ℕ
steps_of Voltage = 2048
steps_of Current = 4096

abbrev pub lowest_of : ChannelKind → ℤ
lowest_of Voltage = neg_ℤ (pos 2048)
lowest_of Current = pos 0

abbrev pub highest_of : ChannelKind → ℤ
highest_of Voltage = pos 2047
highest_of Current = pos 4095

-- steps (X − X0) / (XF − X0), rounded; XF being above X0, XF − X0 is its own size
unfoldable pub ratio_of : ℕ → ℤ → ℤ → ℤ → ℤ
ratio_of steps x x0 xf = nearest ((x -ℤ x0) *ℤ pos steps) (nat_abs (xf -ℤ x0))

-- z held within low and high
unfoldable pub held_of : ℤ → ℤ → ℤ → ℤ
held_of low high z = cond (lt_z z low) low (cond (lt_z high z) high z)

abbrev pub code_of : ChannelKind → ℤ → ℤ → ℤ → ℤ
code_of k x x0 xf = held_of (lowest_of k) (highest_of k) (ratio_of (steps_of k) x x0 xf)

-- ---- the word

-- a code's twelve bits, a negative one's in two's complement: −1 is 4095, −2048 is 2048; `negsuc n` is −(n + 1)
abbrev pub bits_of : ℤ → ℕ
bits_of (pos n) = n
bits_of (negsuc n) = 4095 - n

-- the code in the low twelve of sixteen bits, the channel number in the top four
abbrev pub word_of : ℤ → ℕ → ℕ
word_of code channel = channel * 4096 + bits_of code

unfoldable pub pack_of : ChannelKind → ℤ → ℤ → ℤ → ℕ → Option ℕ
pack_of k x x0 xf channel = cond (accepts x x0 xf channel) (Some (word_of (code_of k x x0 xf) channel)) None

-- the paper's numbers of what was packed: the refusal, 0 if accepted, and the word, 0 if turned away
abbrev pub packed_refusal : Option ℕ → ℕ
packed_refusal (Some w) = 0
packed_refusal None = 18

abbrev pub packed_word : Option ℕ → ℕ
packed_word (Some w) = w
packed_word None = 0

-- ---- unpacking

-- the code that twelve bits stand for: of a voltage from 2048 on n − 4096, which is −(4095 − n + 1)
unfoldable pub code_in : ChannelKind → ℕ → ℤ
code_in Voltage n = cond (ltb n 2048) (pos n) (negsuc (4095 - n))
code_in Current n = pos n

abbrev pub unpack_of : ChannelKind → ℕ → Unpacked
unpack_of k word = record { code = code_in k (word % 4096); channel = word / 4096 }
