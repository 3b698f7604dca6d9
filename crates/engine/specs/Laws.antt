-- Three laws of a step: what it sees of the list of sheets; that an accepted load leaves nothing of the state before it; and that kind 10 is
-- accepted and refused as kind 7 is, and what either leaves (R-10). Assumes nothing.
use Rattle.std.specs.Prelude.{ℕ, Bool, true, false, List, ◌≡◌}
use Rattle.counting.specs.declared.Chart.{Chart}
use Rattle.counting.specs.Integration.{started}
use Rattle.sheets.specs.Sheets.{lookup_refusal, lookup_of}
use Rattle.rules.specs.declared.State.{State}
use Rattle.rules.specs.declared.Event.{Event}
use Rattle.rules.specs.declared.Entry.{Entry}
use Rattle.rules.specs.Answer.{refusal_of, accepted}
use Rattle.rules.specs.Limits.{workable}
use Rattle.events.specs.Events.{with_integration}
use Rattle.engine.specs.Step.{step_of}

abbrev pub load_at : ℕ → Entry
load_at index = Entry.Known (Event.Load index)

abbrev pub is_load : Entry → Bool
is_load (Entry.Known (Event.Load index)) = true
is_load (Entry.Known (Event.Zero raw)) = false
is_load (Entry.Known (Event.Span at cylinder)) = false
is_load (Entry.Known (Event.Reference cylinder e)) = false
is_load (Entry.Known Event.Absolute) = false
is_load (Entry.Known (Event.Sample at)) = false
is_load (Entry.Known Event.Start) = false
is_load (Entry.Known Event.Stop) = false
is_load (Entry.Known Event.Area) = false
is_load (Entry.Known Event.StartShort) = false
is_load (Entry.Malformed kind) = false

-- of two lists of sheets: a load goes by what it finds alone, at whichever index of whichever list; any other entry, a malformed one of
-- kind byte 1 too, sees no sheets
pub record SeesLookup (a b : List ℕ) (st : State) : Type 0 where
  pub load : (i j : ℕ) → lookup_of a i ≡ lookup_of b j → step_of a st (load_at i) ≡ step_of b st (load_at j)
  pub other : (entry : Entry) → is_load entry ≡ false → step_of a st entry ≡ step_of b st entry

-- of a load: its refusal is that of the lookup, at every state that the code works with; and where it is accepted at one state, every such
-- state gives the same answer and the same state after it
pub record LoadForgets (sheets : List ℕ) (index : ℕ) : Type 0 where
  pub refusal : (st : State) → workable st ≡ true → refusal_of (step_of sheets st (load_at index)).answer ≡ lookup_refusal (lookup_of sheets index)
  pub forgets : (st other : State) → accepted (step_of sheets st (load_at index)).answer ≡ true → workable other ≡ true
      → step_of sheets other (load_at index) ≡ step_of sheets st (load_at index)

-- of an event that starts an integration for a chart: refused, the state stays; accepted, an integration for this chart runs that has counted
-- nothing, whatever stood before, one that runs too, and all else stays
pub record Begins (sheets : List ℕ) (st : State) (event : Event) (chart : Chart) : Type 0 where
  pub refused : accepted (step_of sheets st (Entry.Known event)).answer ≡ false → (step_of sheets st (Entry.Known event)).state ≡ st
  pub begun : accepted (step_of sheets st (Entry.Known event)).answer ≡ true
      → (step_of sheets st (Entry.Known event)).state ≡ with_integration st (started chart)

-- R-10, at every record, altered ones too: a short start gets the answer that a start gets there, but for the kind byte of its record, and each
-- begins for its chart
pub record StartsAlike (sheets : List ℕ) (st : State) : Type 0 where
  pub answer : (step_of sheets st (Entry.Known Event.StartShort)).answer ≡ (step_of sheets st (Entry.Known Event.Start)).answer
  pub long : Begins sheets st Event.Start Chart.Long
  pub short : Begins sheets st Event.StartShort Chart.Short
