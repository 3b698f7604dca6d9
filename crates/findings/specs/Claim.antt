-- R-7's claims: what each event does to what is stored; over every list of events, that what is stored is what a search gives, and that no answer
-- shows it; and what a record gets that was altered to hold another finding. Assumes nothing.
use Rattle.std.specs.Prelude.{ℕ, ◌≤◌, Bool, true, false, List, map, ◌≡◌, None, Option, Some}
use Rattle.curve.specs.declared.Sheet.{Sheet}
use Rattle.curve.specs.Absolute.{absolute_of}
use Rattle.reference.specs.Search.{found_value, reference_of}
use Rattle.reference.specs.Signal.{signal_of, against_of}
use Rattle.counting.specs.Integration.{closed_of}
use Rattle.sampling.specs.declared.Cylinder.{Cylinder}
use Rattle.sampling.specs.declared.Mode.{Mode}
use Rattle.sampling.specs.declared.Measurement.{Measurement}
use Rattle.sampling.specs.Sample.{air_of, checked_on, reference_air, values_of}
use Rattle.store.specs.Store.{Stored}
use Rattle.store.specs.Store.{is_at, stored_as, stored_within}
use Rattle.rules.specs.declared.State.{State}
use Rattle.rules.specs.declared.Event.{Event}
use Rattle.rules.specs.declared.Entry.{Entry}
use Rattle.rules.specs.Answer.{accepted}
use Rattle.rules.specs.Rules.{refused, fresh}
use Rattle.rules.specs.Limits.{workable}
use Rattle.events.specs.Sample.{with_stored, sampled_of, StoredIsSearched}
use Rattle.events.specs.Events.{with_integration, sample_by}
use Rattle.engine.specs.Step.{step_of}
use Rattle.engine.specs.Transcript.{Line, transcript, leaves}
use Rattle.findings.specs.Searching.{searching_answers, searching_leaves}

abbrev pub sample_of : Measurement → Entry
sample_of at = Entry.Known (Event.Sample at)

-- the finding f at the sample's P and T
abbrev pub found_at : Measurement → Option ℕ → Stored
found_at at f = stored_as at.p at.t f

-- what stands stored after an entry
abbrev pub stored_after : List ℕ → State → Entry → Stored
stored_after sheets st entry = (step_of sheets st entry).state.stored

-- ---- what each event does to what is stored

-- load, reference and absolute
abbrev pub empties : Entry → Bool
empties (Entry.Known (Event.Load index)) = true
empties (Entry.Known (Event.Zero raw)) = false
empties (Entry.Known (Event.Span at cylinder)) = false
empties (Entry.Known (Event.Reference cylinder e)) = true
empties (Entry.Known Event.Absolute) = true
empties (Entry.Known (Event.Sample at)) = false
empties (Entry.Known Event.Start) = false
empties (Entry.Known Event.Stop) = false
empties (Entry.Known Event.Area) = false
empties (Entry.Known Event.StartShort) = false
empties (Entry.Malformed kind) = false

-- a sample, refused or not, that searches and stores: against a reference, its inputs passing check 6, with nothing stored or at another P or T
pub record Searches (st : State) (s : Sheet) (gas : Cylinder) (at : Measurement) : Type 0 where
  pub loaded : st.loaded ≡ Some s
  pub mode : st.mode ≡ Mode.Against gas
  pub checked : checked_on (Mode.Against gas) at ≡ true
  pub other : is_at st.stored at ≡ false

-- one that does not
pub data SearchesNot (st : State) (at : Measurement) : Type 0 where
  no_sheet : st.loaded ≡ None → SearchesNot st at
  absolute : st.mode ≡ Mode.Absolute → SearchesNot st at
  by_6 : checked_on st.mode at ≡ false → SearchesNot st at
  stored_there : is_at st.stored at ≡ true → SearchesNot st at

-- of every record that the code works with
pub record StoreMoves (sheets : List ℕ) (st : State) : Type 0 where
  -- accepted load, reference and absolute empty it
  pub emptied : (entry : Entry) → empties entry ≡ true → accepted (step_of sheets st entry).answer ≡ true → stored_after sheets st entry ≡ None
  -- refused they leave it, and every other entry but a sample leaves it: zero, span, both starts, stop, area and a malformed one
  pub refused_leaves : (entry : Entry) → empties entry ≡ true → accepted (step_of sheets st entry).answer ≡ false → stored_after sheets st entry ≡ st.stored
  pub other_leaves : (entry : Entry) → empties entry ≡ false → ((at : Measurement) → entry ≡ sample_of at → ⊥) → stored_after sheets st entry ≡ st.stored
  -- a sample replaces it by what a search finds at its P and T, whatever its answer, or leaves it
  pub replaced : (s : Sheet) (gas : Cylinder) (at : Measurement) → Searches st s gas at
      → stored_after sheets st (sample_of at) ≡ found_at at (reference_of s gas.c (reference_air (air_of at) gas))
  pub sample_leaves : (at : Measurement) → SearchesNot st at → stored_after sheets st (sample_of at) ≡ st.stored

-- ---- over a list of events from a fresh engine
pub record StoreHolds (sheets : List ℕ) (entries : List Entry) : Type 0 where
  -- after the list the stored finding, if any, is the one that a search would give at its P and T under the state's sheet and cylinder
  pub searched : StoredIsSearched (leaves sheets fresh entries)
  -- the answers are those of the engine without it
  pub answers : map (λ (l : Line). l.answer) (transcript sheets fresh entries) ≡ searching_answers sheets fresh entries
  -- and so is the state, but for what is stored, where that engine has nothing
  pub states : with_stored (leaves sheets fresh entries) None ≡ searching_leaves sheets fresh entries

-- ---- a record altered to hold another finding: st being any that the code works with, as those are that a list leaves, and f an R from 0 to
-- 150,000,000, at or above K too, or nothing
pub record AlteredHolds (sheets : List ℕ) (st : State) : Type 0 where
  -- at the stored P and T a sample gets what the rules give with f, accepted or refused, and what is stored stays
  pub with_finding : (at : Measurement) (f : Option ℕ) → found_value f ≤ 150000000
      → step_of sheets (with_stored st (found_at at f)) (sample_of at) ≡ sample_by (with_stored st (found_at at f)) (sampled_of st at f)
  -- in document 01's words: against a reference, the inputs passing check 6, the signal R + V − near(V R / K) is read as an absolute one
  pub with_signal : (s : Sheet) (gas : Cylinder) → st.loaded ≡ Some s → st.mode ≡ Mode.Against gas
      → (at : Measurement) → checked_on (Mode.Against gas) at ≡ true → (r : ℕ) → r ≤ 150000000
      → step_of sheets (with_stored st (found_at at (Some r))) (sample_of at)
      ≡ sample_by (with_stored st (found_at at (Some r)))
      (values_of r (air_of at) (absolute_of s (against_of (signal_of at.raw st.q st.s) r s.k) (air_of at)))
  -- and where nothing was found the answer is 9
  pub with_nothing : (s : Sheet) (gas : Cylinder) → st.loaded ≡ Some s → st.mode ≡ Mode.Against gas
      → (at : Measurement) → checked_on (Mode.Against gas) at ≡ true
      → step_of sheets (with_stored st (found_at at None)) (sample_of at)
      ≡ refused (with_integration (with_stored st (found_at at None)) (closed_of st.integration)) 9
  -- at another P or T what was altered is not looked at: answer and state are those of the record with nothing stored
  pub elsewhere : (s : Sheet) (gas : Cylinder) (at : Measurement) (x : Stored) → stored_within x ≡ true → Searches (with_stored st x) s gas at
      → step_of sheets (with_stored st x) (sample_of at) ≡ step_of sheets (with_stored st None) (sample_of at)

-- ---- R-7, for one list of sheets
pub record ReferenceStored (sheets : List ℕ) : Type 0 where
  pub moves : (st : State) → workable st ≡ true → StoreMoves sheets st
  pub holds : (entries : List Entry) → StoreHolds sheets entries
  pub altered : (st : State) → workable st ≡ true → AlteredHolds sheets st
