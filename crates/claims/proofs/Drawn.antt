-- Every wet value can be drawn: it is at most 3,000,000,000 in size. Assumes nothing.
use mathlib.Core.Bool.{Bool, true, false, cond}
use mathlib.Core.List.{List}
use mathlib.Core.Path.{◌≡◌, refl, subst}
use Prim.Native.Nat.{ℕ, ◌≤◌}
use native.Mathlib.Omega.{arith}
use lib.IntN.{nat_abs}
use Rattle.rules.specs.declared.State.{State}
use Rattle.rules.specs.declared.Entry.{Entry}
use Rattle.rules.specs.declared.Answer.{Answer}
use Rattle.rules.specs.declared.Stepped.{Stepped}
use Rattle.rules.specs.Rules.{refused}
use Rattle.rules.specs.Limits.{workable}
use Rattle.rules.proofs.Workable.{work, Workable}
use Rattle.events.specs.Events.{rules}
use Rattle.events.proofs.Inversion.{wet_in}
use Rattle.engine.specs.Step.{step_of}
use Rattle.engine.proofs.Cases.{Ruled, refuses, malformed, loads, zeroes, spans, refers, absolute, samples, closes, starts, stops, totals, ruled}
use Rattle.recorder.proofs.Promises.{turned_away}
use Rattle.claims.specs.Drawn.{EveryWetDrawn}

-- of a reading the wet value; of any other answer nothing
abbrev WetSmall : Answer → Type 0
WetSmall (Answer.Reading r wet dry) = nat_abs wet ≤ 3000000000
WetSmall Answer.Done = Unit
WetSmall (Answer.Zeroed q) = Unit
WetSmall (Answer.Spanned s) = Unit
WetSmall (Answer.Area n area) = Unit
WetSmall (Answer.Refused number) = Unit

by_case : {sheets : List ℕ} {st : State} {entry : Entry} {r : Stepped} → Workable st → Ruled sheets st entry r → WetSmall r.answer
by_case w (samples x) = wet_in w.loaded x
by_case w (refuses kind n) = tt
by_case w malformed = tt
by_case w (loads e s) = tt
by_case w (zeroes n) = tt
by_case w (spans low high) = tt
by_case w (refers g) = tt
by_case w absolute = tt
by_case w (closes n) = tt
by_case w (starts s) = tt
by_case w stops = tt
by_case w (totals i) = tt

small : (sheets : List ℕ) (st : State) (entry : Entry) → WetSmall (step_of sheets st entry).answer
unfolding step_of
small sheets st entry = go (workable st) refl
  where
    go : (t : Bool) → workable st ≡ t → WetSmall (cond t (rules sheets st entry) (refused st 1)).answer
    go true e = by_case (work st e) (ruled sheets st entry)
    go false e = tt

pub every_wet_drawn : EveryWetDrawn
every_wet_drawn sheets st entry r wet dry e k x0 xf channel l h a c =
    let s : nat_abs wet ≤ 3000000000 = subst WetSmall e (small sheets st entry) in
    (turned_away.accepted k wet x0 xf channel (record { x_size = omega arith; x0_size = l; xf_size = h; above = a }) c).0
