-- A chart recorder (R-8) for a host, which names the kind of a channel by a byte: 0 voltage, 1 current; any other is turned away with 18.
-- Assumes nothing.
use Rattle.std.specs.Prelude.{ℕ, Option, Some, None, cond, eqb, ℤ}
use Rattle.recorder.specs.declared.ChannelKind.TheVariants.{Voltage, Current}
use Rattle.recorder.specs.declared.Unpacked.{Unpacked}
use Rattle.recorder.specs.Recorder.{pack_of, unpack_of}

unfoldable pub pack_for : ℕ → ℤ → ℤ → ℤ → ℕ → Option ℕ
pack_for kind x x0 xf channel =
    cond (eqb kind 0) (pack_of Voltage x x0 xf channel) (cond (eqb kind 1) (pack_of Current x x0 xf channel) None)

unfoldable pub unpack_for : ℕ → ℕ → Option Unpacked
unpack_for kind word =
    cond (eqb kind 0) (Some (unpack_of Voltage word)) (cond (eqb kind 1) (Some (unpack_of Current word)) None)

-- the number of what was unpacked, and the two places that a host lends: what the word holds, or as they were
abbrev pub unpacked_refusal : Option Unpacked → ℕ
unpacked_refusal (Some u) = 0
unpacked_refusal None = 18

abbrev pub code_left : Option Unpacked → ℤ → ℤ
code_left (Some u) old = u.code
code_left None old = old

abbrev pub channel_left : Option Unpacked → ℕ → ℕ
channel_left (Some u) old = u.channel
channel_left None old = old
