-- R-9's promises: a ground is named exactly where the engine answers with 8, and its limit is the first that is passed. Assumes nothing.
use mathlib.Core.Bool.{false}
use mathlib.Core.List.{List}
use mathlib.Core.Path.{◌≡◌, refl, sym, subst}
use Prim.Native.Nat.{ℕ}
use lib.Dec.{T, eqb}
use Rattle.std.specs.Prelude.{Option, Some, None, is_some}
use Rattle.rules.specs.declared.State.{State}
use Rattle.rules.specs.declared.Entry.{Entry}
use Rattle.rules.specs.declared.Entry.TheVariants.{Known, Malformed}
use Rattle.rules.specs.declared.Event.TheVariants.{Load, Zero, Span, Reference, Absolute, Sample, Start, Stop, Area, StartShort}
use Rattle.rules.specs.Answer.{refusal_of}
use Rattle.engine.specs.Step.{step_of}
use Rattle.grounds.specs.declared.Ground.{Ground}
use Rattle.grounds.specs.Grounds.{entry_ground}
use Rattle.grounds.specs.Promises.{EveryGround}
use Rattle.grounds.proofs.Samples.{named_sample, passed_sample}
use Rattle.grounds.proofs.Others.{not_8, malformed_11}

pub exactly : (sheets : List ℕ) (st : State) (entry : Entry) → is_some (entry_ground st entry) ≡ eqb (refusal_of (step_of sheets st entry).answer) 8
exactly sheets st (Known (Load index)) = sym (not_8 sheets st (Known (Load index)) refl)
exactly sheets st (Known (Zero raw)) = sym (not_8 sheets st (Known (Zero raw)) refl)
exactly sheets st (Known (Span at cylinder)) = sym (not_8 sheets st (Known (Span at cylinder)) refl)
exactly sheets st (Known (Reference cylinder e)) = sym (not_8 sheets st (Known (Reference cylinder e)) refl)
exactly sheets st (Known Absolute) = sym (not_8 sheets st (Known Absolute) refl)
exactly sheets st (Known (Sample at)) = named_sample st at sheets
exactly sheets st (Known Start) = sym (not_8 sheets st (Known Start) refl)
exactly sheets st (Known Stop) = sym (not_8 sheets st (Known Stop) refl)
exactly sheets st (Known Area) = sym (not_8 sheets st (Known Area) refl)
exactly sheets st (Known StartShort) = sym (not_8 sheets st (Known StartShort) refl)
exactly sheets st (Malformed kind) = sym (malformed_11 sheets st kind)

pub every_ground : EveryGround
every_ground = record { exactly = exactly; passed = passed_sample }

-- without an answer of 8 there is none
pub unnamed : (sheets : List ℕ) (st : State) (entry : Entry) → eqb (refusal_of (step_of sheets st entry).answer) 8 ≡ false → entry_ground st entry ≡ None
unnamed sheets st entry e = go (entry_ground st entry) (rw (← exactly sheets st entry) at e)
  where
    go : (g : Option Ground) → is_some g ≡ false → g ≡ None
    go None h = refl
    go (Some g) h = absurd (subst T h tt)
