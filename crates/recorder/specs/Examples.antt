-- The examples of source document 001, "Measuring Linear Analyzer Output" and "Resolution", as codes, and words at the ends. Assumes nothing.
use Rattle.std.specs.Prelude.{◌≡◌, ℕ, ◌*◌, ℤ, pos, neg_ℤ, Some, None}
use Rattle.recorder.specs.declared.ChannelKind.TheVariants.{Voltage, Current}
use Rattle.recorder.specs.Recorder.{code_of, pack_of}

-- so many µmol/mol in pmol/mol, and the same below zero
abbrev pub umol : ℕ → ℤ
umol n = pos (n * 1000000)

abbrev pub minus : ℕ → ℤ
minus n = neg_ℤ (umol n)

pub record MakersExamples : Type 0 where
  -- "to allow a range of −100 to +100": −40 is 8.8 mA, and so 0.3 of 4 to 20 mA; 1,228.8 of 4,096 steps
  pub ma_8_8 : code_of Current (minus 40) (minus 100) (umol 100) ≡ pos 1229
  -- "zero volts corresponds to 0", "full scale corresponds to 100": the highest code is a step short of 5 V, the lowest is −5 V
  pub volts_0 : code_of Voltage (umol 0) (umol 0) (umol 100) ≡ pos 0
  pub volts_2_5 : code_of Voltage (umol 50) (umol 0) (umol 100) ≡ pos 1024
  pub volts_5 : code_of Voltage (umol 100) (umol 0) (umol 100) ≡ pos 2047
  pub volts_minus_5 : code_of Voltage (minus 100) (umol 0) (umol 100) ≡ neg_ℤ (pos 2048)
  -- "if XF = 1000 and X0 = 0": steps of about 0.5 on a voltage channel, 0.25 on a current channel. Just over half of one is 1, just under it 0
  pub over_half_volts : code_of Voltage (pos 244141) (umol 0) (umol 1000) ≡ pos 1
  pub under_half_volts : code_of Voltage (pos 244140) (umol 0) (umol 1000) ≡ pos 0
  pub over_half_ma : code_of Current (pos 122071) (umol 0) (umol 1000) ≡ pos 1
  pub under_half_ma : code_of Current (pos 122070) (umol 0) (umol 1000) ≡ pos 0

-- channel 3 on a voltage scale of 0 to 4,000 µmol/mol; −1 on one of 1 pmol/mol a step, halves on one of 2; and the ends of a current channel
pub record Words : Type 0 where
  pub start : pack_of Voltage (umol 0) (umol 0) (umol 4000) 3 ≡ Some 0x3000
  pub middle : pack_of Voltage (umol 2000) (umol 0) (umol 4000) 3 ≡ Some 0x3400
  pub highest : pack_of Voltage (umol 4000) (umol 0) (umol 4000) 3 ≡ Some 0x37FF
  pub lowest : pack_of Voltage (minus 4000) (umol 0) (umol 4000) 3 ≡ Some 0x3800
  pub minus_one : pack_of Voltage (neg_ℤ (pos 1)) (pos 0) (pos 2048) 3 ≡ Some 0x3FFF
  pub half_below : pack_of Voltage (neg_ℤ (pos 1)) (pos 0) (pos 4096) 0 ≡ Some 0x0FFF
  pub half_above : pack_of Voltage (pos 1) (pos 0) (pos 4096) 0 ≡ Some 0x0001
  pub current_start : pack_of Current (neg_ℤ (pos 1)) (pos 0) (pos 4096) 15 ≡ Some 0xF000
  pub current_end : pack_of Current (pos 4096) (pos 0) (pos 4096) 15 ≡ Some 0xFFFF
  -- turned away: ends that are the same, a channel number of 16, and a value one above the range
  pub no_scale : pack_of Current (pos 0) (pos 5) (pos 5) 0 ≡ None
  pub channel_16 : pack_of Current (pos 0) (pos 0) (pos 5) 16 ≡ None
  pub value_above : pack_of Voltage (pos 4000000001) (pos 0) (pos 5) 0 ≡ None
