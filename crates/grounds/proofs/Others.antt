-- Only a sample is answered with 8. Assumes nothing.
use mathlib.Core.Bool.{Bool, true, false, cond}
use mathlib.Core.List.{List}
use mathlib.Core.Path.{◌≡◌, refl, subst}
use Prim.Native.Nat.{ℕ}
use lib.Dec.{T, eqb}
use Rattle.rules.specs.declared.State.{State}
use Rattle.rules.specs.declared.Entry.{Entry}
use Rattle.rules.specs.declared.Stepped.{Stepped}
use Rattle.rules.specs.Answer.{refusal_of, kind_of}
use Rattle.rules.specs.Rules.{refused}
use Rattle.rules.specs.Limits.{workable}
use Rattle.events.specs.Events.{rules}
use Rattle.engine.specs.Step.{step_of}
use Rattle.engine.proofs.Cases.{Ruled, refuses, malformed, loads, zeroes, spans, refers, absolute, samples, closes, starts, stops, totals, ruled}

by_case : {sheets : List ℕ} {st : State} {entry : Entry} {r : Stepped} → eqb (kind_of entry) 6 ≡ false → Ruled sheets st entry r → eqb (refusal_of r.answer) 8 ≡ false
by_case e (refuses other n) = other.1
by_case e malformed = refl
by_case e (loads s w) = refl
by_case e (zeroes n) = refl
by_case e (spans l u) = refl
by_case e (refers g) = refl
by_case e absolute = refl
by_case e (samples x) = refl
by_case e (closes n) = absurd (subst T e tt)
by_case e (starts s) = refl
by_case e stops = refl
by_case e (totals t) = refl

pub not_8 : (sheets : List ℕ) (st : State) (entry : Entry) → eqb (kind_of entry) 6 ≡ false → eqb (refusal_of (step_of sheets st entry).answer) 8 ≡ false
unfolding step_of
not_8 sheets st entry e = go (workable st)
  where
    go : (w : Bool) → eqb (refusal_of (cond w (rules sheets st entry) (refused st 1)).answer) 8 ≡ false
    go true = by_case e (ruled sheets st entry)
    go false = refl

-- nor is an entry that is malformed, whatever its kind byte
pub malformed_11 : (sheets : List ℕ) (st : State) (kind : ℕ) → eqb (refusal_of (step_of sheets st (Entry.Malformed kind)).answer) 8 ≡ false
unfolding step_of
malformed_11 sheets st kind = go (workable st)
  where
    go : (w : Bool) → eqb (refusal_of (cond w (rules sheets st (Entry.Malformed kind)) (refused st 1)).answer) 8 ≡ false
    go true = refl
    go false = refl
