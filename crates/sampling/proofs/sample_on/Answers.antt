-- `sample_on` meets its contract: the checks in their order, and what they leave is what the reading asks. Assumes nothing.
use mathlib.Core.Path.{◌≡◌, sym, ◌∙◌}
use mathlib.Core.Bool.{true}
use borrow.Author.Rules.{rules}
use mir.Facts.{to_z-of_z}
use mir.Syntax.{w32, w64}
use mir.Val.{SFits}
use Rattle.curve.proofs.Within.{both}
use Rattle.reference.specs.Signal.{signal_of}
use Rattle.sampling.specs.Sample.{air_of, input_within, vapour_within, sampled_on}
use Rattle.sampling.proofs.Within.{InputOk, input_ok}
use Rattle.sampling.proofs.Sizes.{signal_size}
use Rattle.sampling.proofs.sample_on.Goals as goal
use Rattle.sampling.proofs.sample_on.Goals.{After-from_raw-v, After-from, Else-not-inputs_within}

-- ---- what is known after check 6, and each result in the sample's terms
passed : (c : Else-not-inputs_within) → (input_within c.args.at ≡ true) × (vapour_within c.args.mode (air_of c.args.at) ≡ true)
passed c =
    both (input_within c.args.at) (vapour_within c.args.mode (air_of c.args.at)) (sym c.inputs_within.ensures ∙ c.if-not-inputs_within.false)

input : (c : Else-not-inputs_within) → InputOk c.args.at
input c = input_ok c.args.at (passed c).0

raw_is : (c : After-from) → c.from.result ≡ c.args.at.raw
raw_is c =
    let f : SFits w32 c.args.at.raw = search rules in
    simp to_z-of_z at c.from.ensures

signal_is : (c : After-from_raw-v) → c.from_raw-v.result ≡ signal_of c.args.at.raw c.args.q c.args.span
signal_is c =
    let fq = c.ranges.q in
    let fw : SFits w64 c.from.result = search rules in
    rw (raw_is c.before) at (simp to_z-of_z at c.from_raw-v.ensures)

pub returns-then-not-inputs_within : goal.returns-then-not-inputs_within
unfolding sampled_on
returns-then-not-inputs_within c = rw (sym c.inputs_within.ensures ∙ c.if-not-inputs_within.true)

pub read-requires : goal.read-requires
read-requires c =
    let i = input (goal.at.read-requires c).Else-not-inputs_within in
    let n = signal_size c.args.at.raw c.args.q c.args.span i.raw c.requires.1 c.requires.2 in
    let f : SFits w64 c.from_raw-v.result = search rules in
    simp to_z-of_z (c.requires.0, rw c.air_of-a.ensures i.air, rw (signal_is (goal.at.read-requires c).After-from_raw-v) n, c.requires.4)

pub returns : goal.returns
unfolding sampled_on
returns c =
    let f : SFits w64 c.from_raw-v.result = search rules in
    rw ((passed (goal.at.returns c).Else-not-inputs_within).0, (passed (goal.at.returns c).Else-not-inputs_within).1, ← signal_is (goal.at.returns c).After-from_raw-v, ← c.air_of-a.ensures) (simp to_z-of_z at c.read.ensures)
