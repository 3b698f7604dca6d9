-- A step leaves stored what a search gives, where that was stored before it. Assumes nothing.
use mathlib.Core.Bool.{Bool, true, false, cond}
use mathlib.Core.List.{List}
use Prim.Native.Nat.{ℕ}
use lib.Dec.{eqb}
use Rattle.rules.specs.declared.State.{State}
use Rattle.rules.specs.declared.Entry.{Entry}
use Rattle.rules.specs.declared.Stepped.{Stepped}
use Rattle.events.specs.Sample.{StoredIsSearched}
use Rattle.events.proofs.Stored.{storing_searched}
use Rattle.engine.proofs.Cases.{closing, Ruled, refuses, malformed, loads, zeroes, spans, refers, absolute, samples, closes, starts, stops, totals}

pub step_searched : {sheets : List ℕ} {st : State} {entry : Entry} {r : Stepped} → Ruled sheets st entry r → StoredIsSearched st → StoredIsSearched r.state
step_searched (refuses kind n) h = h
step_searched {st = st} (malformed {kind}) h = go (eqb kind 6)
  where
    go : (t : Bool) → StoredIsSearched (cond t (closing st) st)
    go true = h
    go false = h
step_searched (loads e w) h = tt
step_searched (zeroes n) h = h
step_searched (spans l u) h = h
step_searched (refers e) h = tt
step_searched absolute h = tt
step_searched {st = st} (samples {at} x) h = storing_searched st at h
step_searched {st = st} (closes {at} n) h = storing_searched st at h
step_searched (starts s) h = h
step_searched stops h = h
step_searched (totals t) h = h
