-- No wet value is too large for a chart recorder (R-8): whatever the state and the entry, the wet value of an accepted sample has a word
-- on every channel and on every scale within the limits. `proofs/Drawn.antt` proves it. Assumes nothing.
use Rattle.std.specs.Prelude.{ℕ, ◌≤◌, ◌<◌, List, ◌≡◌, ℤ, nat_abs, ◌<ℤ◌}
use Rattle.rules.specs.declared.State.{State}
use Rattle.rules.specs.declared.Entry.{Entry}
use Rattle.rules.specs.declared.Answer.{Answer}
use Rattle.engine.specs.Step.{step_of}
use Rattle.recorder.specs.declared.ChannelKind.{ChannelKind}
use Rattle.recorder.specs.Recorder.{pack_of, packed_refusal}

abbrev pub EveryWetDrawn : Type 0
EveryWetDrawn =
    (sheets : List ℕ) (st : State) (entry : Entry) (r : ℕ) (wet dry : ℤ) → (step_of sheets st entry).answer ≡ Answer.Reading r wet dry
    → (k : ChannelKind) (x0 xf : ℤ) (channel : ℕ) → nat_abs x0 ≤ 4000000000 → nat_abs xf ≤ 4000000000 → x0 <ℤ xf → channel < 16
    → packed_refusal (pack_of k wet x0 xf channel) ≡ 0
