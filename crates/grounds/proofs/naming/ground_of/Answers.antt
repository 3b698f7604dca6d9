-- `grounds::naming::ground_of` meets its contract: without an answer of 8 there is no ground, an entry that is no sample has none, and a sample that is
-- refused with 8 has what `named` finds with the finding that it left stored. Assumes nothing.
use mathlib.Core.Bool.{true}
use mathlib.Core.Path.{◌≡◌, sym, ap, ◌∙◌}
use lib.Dec.{eqb}
use Rattle.rounding.proofs.Tests.{answered_no, answered_yes}
use Rattle.sampling.specs.declared.Measurement.{Measurement}
use Rattle.rules.specs.declared.State.{State}
use Rattle.rules.specs.declared.Event.TheVariants.{Sample}
use Rattle.rules.specs.declared.Entry.{Entry}
use Rattle.rules.specs.declared.Stepped.{Stepped}
use Rattle.rules.specs.Answer.{refusal_of}
use Rattle.engine.specs.Step.{step_of, SteppedBy}
use Rattle.grounds.proofs.Samples.{Over, over}
use Rattle.grounds.proofs.Promises.{unnamed}
use Rattle.grounds.proofs.naming.ground_of.Goals as goal
use Rattle.grounds.proofs.naming.ground_of.Goals.{After-finding_in}

-- ---- a sample that was answered with 8
eight : {st : State} {entry : Entry} {next : Stepped} (at : Measurement) → SteppedBy st entry next → entry ≡ Entry.Known (Sample at)
    → eqb (refusal_of next.answer) 8 ≡ true → Over st at next.state
eight {st} at x e h =
    let q : _ ≡ step_of x.sheets st (Entry.Known (Sample at)) = rw e at x.is in
    rw q (over x.sheets st at (rw q at h))

entry_is : (c : After-finding_in) → c.args.entry ≡ Entry.Known (Sample c.in-Known-Sample.at)
entry_is c = let x = c.in-Known-Sample in x.is ∙ ap Entry.Known (rw x.is at x.field-0-is)

told : (c : After-finding_in) → Over c.args.st c.in-Known-Sample.at c.args.next.state
told c =
    eight _ c.requires (entry_is c) (answered_yes c.over_range.ensures c.if-not-over_range.false)

pub returns-then-not-over_range : goal.returns-then-not-over_range
returns-then-not-over_range c =
    let n = answered_no c.over_range.ensures c.if-not-over_range.true in
    sym (unnamed c.requires.sheets c.args.st c.args.entry (rw c.requires.is at n))

pub named-requires : goal.named-requires
named-requires c =
    let o = told (goal.at.named-requires c).After-finding_in in
    (o.loaded, o.q, o.s, rw c.finding_in.ensures o.refuses, rw c.finding_in.ensures o.finding)

pub returns : goal.returns
returns c =
    rw (entry_is (goal.at.returns c).After-finding_in) (rw c.finding_in.ensures at c.named.ensures ∙ (told (goal.at.returns c).After-finding_in).ground)
