-- R-7's claims hold, for every list of sheets, every list of entries and every record that the code works with. Assumes nothing.
use Rattle.refusals.specs.declared.Refusal.{Refusal}
use Rattle.std.specs.Prelude.{Err, None, Option, Some}
use mathlib.Core.Bool.{Bool, true, false, cond}
use mathlib.Core.List.{List, []}
use mathlib.Core.Path.{◌≡◌, refl, sym, ap, subst, ◌∙◌}
use Prim.Native.Nat.{ℕ, ◌≤◌}
use native.Mathlib.Omega.{arith}
use borrow.Author.Tests.{ne_eqb}
use lib.Dec.{T, eqb}
use Rattle.curve.specs.declared.Sheet.{Sheet}
use Rattle.curve.specs.Absolute.{absolute_of}
use Rattle.curve.proofs.Within.{range}
use Rattle.reference.specs.Search.{found_value, reference_of}
use Rattle.reference.specs.Signal.{signal_of, against_of}
use Rattle.sampling.specs.declared.Cylinder.{Cylinder}
use Rattle.sampling.specs.declared.Mode.{Mode}
use Rattle.sampling.specs.declared.Measurement.{Measurement}
use Rattle.sampling.specs.Sample.{Sampled}
use Rattle.sampling.specs.Sample.{air_of, checked_on, reference_air, searched_of, values_of, sampled_on}
use Rattle.store.specs.Store.{Stored}
use Rattle.store.specs.Store.{stored_on, stored_within}
use Rattle.store.proofs.Keeping.{left_absolute, left_by_6, replaced, as_within, finding_as, is_at_as}
use Rattle.rules.specs.declared.State.{State}
use Rattle.rules.specs.declared.Entry.{Entry}
use Rattle.rules.specs.declared.Stepped.{Stepped}
use Rattle.rules.specs.Answer.{accepted}
use Rattle.rules.specs.Rules.{fresh}
use Rattle.rules.specs.Limits.{workable}
use Rattle.rules.proofs.Workable.{work_holding}
use Rattle.events.specs.Sample.{stored_under, with_stored, storing, sampled_of}
use Rattle.events.specs.Events.{sample_by, sample_read}
use Rattle.events.proofs.Stored.{stored_under_lem, storing_at}
use Rattle.engine.specs.Step.{step_of}
use Rattle.engine.proofs.Laws.{by_rules}
use Rattle.engine.proofs.Cases.{long, short, closing, Ruled, refuses, malformed, loads, zeroes, spans, refers, samples, closes, starts, stops, totals, ruled}
use Rattle.ledger.proofs.Demand3.{from_fresh}
use Rattle.findings.specs.Claim.{sample_of, found_at, stored_after, empties, Searches, SearchesNot, no_sheet, by_6, stored_there, StoreMoves, StoreHolds, AlteredHolds, ReferenceStored}
use Rattle.findings.proofs.Searching.{same}

pub store_holds : (sheets : List ℕ) (entries : List Entry) → StoreHolds sheets entries
store_holds sheets entries =
    let k = from_fresh sheets entries in
    let s = same sheets fresh (from_fresh sheets []) entries in
    record { searched = k.searched; answers = s.0; states = s.1 }

-- ---- what each event does
record Leaves (st : State) (entry : Entry) (r : Stepped) : Type 0 where
  pub emptied : empties entry ≡ true → accepted r.answer ≡ true → r.state.stored ≡ None
  pub refused : empties entry ≡ true → accepted r.answer ≡ false → r.state.stored ≡ st.stored
  pub other : empties entry ≡ false → ((at : Measurement) → entry ≡ sample_of at → ⊥) → r.state.stored ≡ st.stored

never : {b : Bool} → b ≡ true → b ≡ false → ⊥
never e f = subst T (sym e ∙ f) tt

module _ {st : State} {entry : Entry} {r : Stepped} where
  empty_after : empties entry ≡ true → accepted r.answer ≡ true → r.state.stored ≡ None → Leaves st entry r
  empty_after e a s = record { emptied = λ x y. s; refused = λ x y. absurd (never a y); other = λ x y. absurd (never e x) }

  -- of an event that is none of the three
  as_before : empties entry ≡ false → r.state.stored ≡ st.stored → Leaves st entry r
  as_before e s = record { emptied = λ x y. absurd (never x e); refused = λ x y. s; other = λ x y. s }

sampled_after : {st : State} (at : Measurement) {r : Stepped} → Leaves st (sample_of at) r
sampled_after at = record { emptied = λ x y. absurd (never x refl); refused = λ x y. absurd (never x refl); other = λ x y. absurd (y at refl) }

-- case by case; a refusal's number is never 0
moved : {sheets : List ℕ} {st : State} {entry : Entry} {r : Stepped} → Ruled sheets st entry r → Leaves st entry r
moved (refuses {number = number} k n) =
    let m = range 1 11 number n in
    record { emptied = λ x y. absurd (never y (ne_eqb number 0 (omega arith))); refused = λ x y. refl; other = λ x y. refl }
moved {st = st} (malformed {kind}) = as_before refl (go (eqb kind 6))
  where
    go : (t : Bool) → (cond t (closing st) st).stored ≡ st.stored
    go true = refl
    go false = refl
moved (loads e s) = empty_after refl refl refl
moved (zeroes n) = as_before refl refl
moved (spans low high) = as_before refl refl
moved (refers g) = empty_after refl refl refl
moved Ruled.absolute = empty_after refl refl refl
moved (samples {at} x) = sampled_after at
moved (closes {at} n) = sampled_after at
moved (starts long) = as_before refl refl
moved (starts short) = as_before refl refl
moved stops = as_before refl refl
moved (totals i) = as_before refl refl

module _ (sheets : List ℕ) (st : State) (w : workable st ≡ true) where
  leaves_it : (entry : Entry) → Leaves st entry (step_of sheets st entry)
  leaves_it entry = rw (by_rules sheets st entry w) (moved (ruled sheets st entry))

  -- a sample leaves what the definition says, whatever its answer
  by_sample : (at : Measurement) → stored_after sheets st (sample_of at) ≡ (storing st at).stored
  by_sample at = ap (λ (r : Stepped). r.state.stored) (by_rules sheets st (sample_of at) w)

  under_any : (at : Measurement) → ((s : Sheet) → stored_on s st.mode at st.stored ≡ st.stored) → (storing st at).stored ≡ st.stored
  under_any at h = go st.loaded
    where
      go : (l : Option Sheet) → stored_under l st.mode at st.stored ≡ st.stored
      go None = refl
      go (Some s) = h s

  sample_leaves : (at : Measurement) → SearchesNot st at → (storing st at).stored ≡ st.stored
  sample_leaves at (no_sheet e) = ap (λ (l : Option Sheet). stored_under l st.mode at st.stored) e
  sample_leaves at (SearchesNot.absolute e) = under_any at (λ s. left_absolute s at st.stored e)
  sample_leaves at (by_6 e) = under_any at (λ s. left_by_6 s at st.stored st.mode e)
  sample_leaves at (stored_there e) = storing_at st at e

-- a sample that searches stores what it finds
searches_stores : (st : State) (s : Sheet) (gas : Cylinder) (at : Measurement) → Searches st s gas at
    → (storing st at).stored ≡ found_at at (reference_of s gas.c (reference_air (air_of at) gas))
searches_stores st s gas at h =
    stored_under_lem st.mode at st.stored h.loaded
    ∙ replaced s at st.stored h.mode (subst (λ (m : Mode). checked_on m at ≡ true) (sym h.mode) h.checked) h.other
    ∙ ap (λ (m : Mode). found_at at (searched_of s m (air_of at))) h.mode

store_moves : (sheets : List ℕ) (st : State) → workable st ≡ true → StoreMoves sheets st
store_moves sheets st w =
    record {
      emptied = λ entry. (leaves_it sheets st w entry).emptied;
      refused_leaves = λ entry. (leaves_it sheets st w entry).refused;
      other_leaves = λ entry. (leaves_it sheets st w entry).other;
      replaced = λ s gas at h. by_sample sheets st w at ∙ searches_stores st s gas at h;
      sample_leaves = λ at h. by_sample sheets st w at ∙ sample_leaves sheets st w at h;
    }

-- ---- a record that was altered
module _ (sheets : List ℕ) (st : State) (w : workable st ≡ true) where
  -- at the stored P and T
  with_finding : (at : Measurement) (f : Option ℕ) → found_value f ≤ 150000000
      → step_of sheets (with_stored st (found_at at f)) (sample_of at) ≡ sample_by (with_stored st (found_at at f)) (sampled_of st at f)
  unfolding sampled_of
  with_finding at f h =
      by_rules sheets (with_stored st (found_at at f)) (sample_of at) (work_holding st (found_at at f) w (as_within at.p at.t f h))
      ∙ ap (λ (x : Stored). sample_read (with_stored st x) at) (storing_at (with_stored st (found_at at f)) at (is_at_as at f))
      ∙ ap (λ (g : Option ℕ). sample_by (with_stored st (found_at at f)) (sampled_of st at g)) (finding_as at.p at.t f)

  module _ (s : Sheet) (gas : Cylinder) (l : st.loaded ≡ Some s) (m : st.mode ≡ Mode.Against gas) (at : Measurement)
      (c : checked_on (Mode.Against gas) at ≡ true) where
    signal_read_lem : (r : ℕ)
        → sampled_of st at (Some r) ≡ values_of r (air_of at) (absolute_of s (against_of (signal_of at.raw st.q st.s) r s.k) (air_of at))
    unfolding sampled_of sampled_on
    signal_read_lem r = rw (l, m, c)

    nothing_read : sampled_of st at None ≡ Err Refusal.NoReference
    unfolding sampled_of sampled_on
    nothing_read = rw (l, m, c)

  -- at another P or T: two records alike but for what is stored, both of which search
  elsewhere : (s : Sheet) (gas : Cylinder) (at : Measurement) (x : Stored) → stored_within x ≡ true → Searches (with_stored st x) s gas at
      → step_of sheets (with_stored st x) (sample_of at) ≡ step_of sheets (with_stored st None) (sample_of at)
  elsewhere s gas at x v h =
      let none : Searches (with_stored st None) s gas at = record { loaded = h.loaded; mode = h.mode; checked = h.checked; other = refl } in
      by_rules sheets (with_stored st x) (sample_of at) (work_holding st x w v)
      ∙ ap (λ (y : Stored). sample_read (with_stored st y) at) (searches_stores (with_stored st x) s gas at h)
      ∙ sym (ap (λ (y : Stored). sample_read (with_stored st y) at) (searches_stores (with_stored st None) s gas at none))
      ∙ sym (by_rules sheets (with_stored st None) (sample_of at) (work_holding st None w refl))

  altered_holds : AlteredHolds sheets st
  altered_holds =
      record {
        with_finding = with_finding;
        with_signal = λ s gas l m at c r h.
            with_finding at (Some r) h ∙ ap (λ (x : Sampled). sample_by (with_stored st (found_at at (Some r))) x) (signal_read_lem s gas l m at c r);
        with_nothing = λ s gas l m at c.
            with_finding at None (omega arith)
            ∙ ap (λ (x : Sampled). sample_by (with_stored st (found_at at None)) x) (nothing_read s gas l m at c);
        elsewhere = elsewhere;
      }

pub reference_stored : (sheets : List ℕ) → ReferenceStored sheets
reference_stored sheets = record { moves = store_moves sheets; holds = store_holds sheets; altered = altered_holds sheets }
