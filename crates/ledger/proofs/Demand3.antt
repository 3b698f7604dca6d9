-- Demand 3 holds, for every list of sheets and every list of entries of any length, from a fresh engine: one induction over the
-- list, the state, the ledger and the wet values answered going together. And at every state that a list leaves the code's step goes by the rules. Assumes
-- nothing.
use mathlib.Core.Bool.{true, false}
use mathlib.Core.List.{List, [], ◌∷◌}
use mathlib.Core.Path.{◌≡◌, refl}
use Prim.Native.Nat.{ℕ}
use native.Mathlib.Omega.{arith}
use lib.IntN.{ℤ}
use Rattle.rules.specs.declared.State.{State}
use Rattle.rules.specs.declared.Entry.{Entry}
use Rattle.rules.specs.Rules.{fresh}
use Rattle.rules.specs.Limits.{workable}
use Rattle.events.specs.Events.{rules}
use Rattle.engine.specs.Transcript.{transcript, leaves}
use Rattle.events.specs.Sample.{StoredIsSearched}
use Rattle.events.proofs.Stored.{within_searched}
use Rattle.engine.proofs.Laws.{by_rules}
use Rattle.engine.proofs.Cases.{ruled}
use Rattle.engine.proofs.Stored.{step_searched}
use Rattle.ledger.specs.Ledger.{Ledger, fresh_ledger}
use Rattle.ledger.specs.Claim.{Holds, Demand3, Reachable}
use Rattle.ledger.proofs.Tallies.{idle}
use Rattle.ledger.proofs.Lines.{Settings, workable_is, Together, entry_good}

fresh_settings : Settings fresh
fresh_settings = record { sheet = refl; zero = omega arith; span_low = omega arith; span_high = omega arith; gas = refl }

-- a state that goes together with some ledger and some wet values, whose stored finding is a search's, and with which the code works
pub record Kept (st : State) : Type 0 where
  pub ledger : Ledger
  pub wets : List ℤ
  pub together : Together st ledger wets
  pub searched : StoredIsSearched st
  pub works : workable st ≡ true

works : (st : State) {g : Ledger} {ws : List ℤ} → Together st g ws → StoredIsSearched st → workable st ≡ true
works st t f = workable_is st t.settings t.keeps (within_searched st f)

-- from such a state every line of a list holds, and what the list leaves is such a state again
pub kept : (sheets : List ℕ) (st : State) {g : Ledger} {ws : List ℤ} → Together st g ws → StoredIsSearched st → (entries : List Entry)
    → Holds sheets st g ws (transcript sheets st entries) × Kept (leaves sheets st entries)
kept sheets st t f [] = (tt, record { ledger = _; wets = _; together = t; searched = f; works = works st t f })
kept sheets st t f (entry ∷ entries) =
    rw (t.same, by_rules sheets st entry (works st t f))
    (let n = entry_good sheets st t.settings t.keeps f entry in
    let k = kept sheets (rules sheets st entry).state n.next (step_searched (ruled sheets st entry) f) entries in
    ((refl, record { by_rules = refl; refusal = n.refusal; by_ledger = n.ledger }, k.0), k.1))

fresh_together : Together fresh fresh_ledger []
fresh_together = record { xs = []; runs = false; limit = 0; settings = fresh_settings; keeps = idle; same = refl }

pub demand_3 : (sheets : List ℕ) (entries : List Entry) → Demand3 sheets entries
demand_3 sheets entries = (kept sheets fresh fresh_together tt entries).0

pub from_fresh : (sheets : List ℕ) (entries : List Entry) → Kept (leaves sheets fresh entries)
from_fresh sheets entries = (kept sheets fresh fresh_together tt entries).1

-- every state that a list of events leaves from a fresh engine keeps to the limits
pub reachable : (sheets : List ℕ) (entries : List Entry) → Reachable sheets entries
reachable sheets entries =
    let w = (from_fresh sheets entries).works in
    record { within = w; by_rules = λ (entry : Entry). by_rules sheets (leaves sheets fresh entries) entry w }
