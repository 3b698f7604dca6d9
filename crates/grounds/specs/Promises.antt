-- What R-9 promises of the ground: it is named exactly where the engine answers with 8, and the named limit is passed while those before it are
-- not. `proofs/Promises.antt` proves it. Assumes nothing.
use Rattle.std.specs.Prelude.{ℕ, List, ◌≡◌, eqb, ℤ, pos, ◌≤ℤ◌, ◌<ℤ◌, Option, Some, None, is_some}
use Rattle.curve.specs.declared.Sheet.{Sheet}
use Rattle.curve.specs.declared.Air.{Air}
use Rattle.curve.specs.Curve.{reduced_of, wet_of}
use Rattle.sampling.specs.declared.Measurement.{Measurement}
use Rattle.sampling.specs.Sample.{air_of}
use Rattle.rules.specs.declared.State.{State}
use Rattle.rules.specs.declared.Entry.{Entry}
use Rattle.rules.specs.Answer.{refusal_of}
use Rattle.engine.specs.Step.{step_of}
use Rattle.grounds.specs.declared.Ground.{Ground}
use Rattle.grounds.specs.Grounds.{signal_on, finding_for, ground_of, entry_ground}

-- what a ground says of the signal V, of z and of the wet value c, with the numbers: the named limit is passed, and those before it are not
abbrev pub Passed : Sheet → ℤ → Air → Option Ground → Type 0
Passed s v a None = Unit
Passed s v a (Some Ground.SignalHigh) = pos 150000000 <ℤ v
Passed s v a (Some Ground.SignalAtK) = (v ≤ℤ pos 150000000) × (pos s.k ≤ℤ v)
Passed s v a (Some Ground.ReducedHigh) = (v ≤ℤ pos 150000000) × (v <ℤ pos s.k) × (pos 100000000 <ℤ reduced_of v a)
Passed s v a (Some Ground.WetHigh) =
    (v ≤ℤ pos 150000000) × (v <ℤ pos s.k) × (reduced_of v a ≤ℤ pos 100000000) × (pos 3000000000 <ℤ wet_of s v (reduced_of v a) a)

-- the signal at which a sample is read at a state, under its sheet
abbrev pub signal_at : Sheet → State → Measurement → ℤ
signal_at s st at = signal_on s st.q st.s st.mode at (finding_for st at)

-- of every record, altered ones too, under every list of sheets
pub record EveryGround : Type 0 where
  -- of every entry: a ground is named exactly where the engine's step answers it with 8
  pub exactly : (sheets : List ℕ) (st : State) (entry : Entry) → is_some (entry_ground st entry) ≡ eqb (refusal_of (step_of sheets st entry).answer) 8
  -- of every sample, under the loaded sheet
  pub passed : (st : State) (at : Measurement) (s : Sheet) → st.loaded ≡ Some s → Passed s (signal_at s st at) (air_of at) (ground_of st at)
