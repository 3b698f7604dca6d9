-- A record that the code works with is stepped by the rules, and no other gets an accepted answer. A step sees the sheets through the lookup of
-- its load alone, an accepted load forgets the state before it, and a short start is answered as a start is. Assumes nothing.
use Rattle.std.specs.Prelude.{Err, None, Ok, Option, Some}
use mathlib.Core.Bool.{Bool, true, false, cond}
use mathlib.Core.List.{List}
use mathlib.Core.Path.{◌≡◌, refl, sym, subst, ◌∙◌}
use Prim.Native.Nat.{ℕ}
use lib.Dec.{T}
use Rattle.curve.specs.declared.Sheet.{Sheet}
use Rattle.counting.specs.declared.Chart.{Chart}
use Rattle.counting.specs.Integration.{started}
use Rattle.sheets.specs.Sheets.{Lookup}
use Rattle.sheets.specs.Sheets.{lookup_refusal, lookup_of}
use Rattle.refusals.proofs.Listed.{not_0}
use Rattle.rules.specs.declared.State.{State}
use Rattle.rules.specs.declared.Event.{Event}
use Rattle.rules.specs.declared.Entry.{Entry}
use Rattle.rules.specs.declared.Answer.{Answer}
use Rattle.rules.specs.declared.Stepped.{Stepped}
use Rattle.rules.specs.Answer.{refusal_of, accepted}
use Rattle.rules.specs.Rules.{answered, refused, needing_sheet, load_by}
use Rattle.events.specs.Events.{with_integration, rules}
use Rattle.rules.specs.Limits.{workable}
use Rattle.engine.specs.Step.{step_of}
use Rattle.engine.specs.Laws.{load_at, is_load, SeesLookup, LoadForgets, StartsAlike}

-- ---- the rules, or refusal 1
module _ (sheets : List ℕ) (st : State) (entry : Entry) where
  pub by_rules : workable st ≡ true → step_of sheets st entry ≡ rules sheets st entry
  unfolding step_of
  by_rules e = rw e

  pub worked : accepted (step_of sheets st entry).answer ≡ true → workable st ≡ true
  unfolding step_of
  worked = go (workable st)
    where
      go : (w : Bool) → accepted (cond w (rules sheets st entry) (refused st 1)).answer ≡ true → w ≡ true
      go true k = refl
      go false k = k

-- ---- what a step sees of the sheets
module _ (a b : List ℕ) (st : State) where
  by_lookup : (i j : ℕ) → lookup_of a i ≡ lookup_of b j → step_of a st (load_at i) ≡ step_of b st (load_at j)
  unfolding step_of
  by_lookup i j e = rw e

  rules_same : (entry : Entry) → is_load entry ≡ false → rules a st entry ≡ rules b st entry
  rules_same (Entry.Known (Event.Load index)) e = absurd (subst T e tt)
  rules_same (Entry.Known (Event.Zero raw)) e = refl
  rules_same (Entry.Known (Event.Span at cylinder)) e = refl
  rules_same (Entry.Known (Event.Reference cylinder v)) e = refl
  rules_same (Entry.Known Event.Absolute) e = refl
  rules_same (Entry.Known (Event.Sample at)) e = refl
  rules_same (Entry.Known Event.Start) e = refl
  rules_same (Entry.Known Event.Stop) e = refl
  rules_same (Entry.Known Event.Area) e = refl
  rules_same (Entry.Known Event.StartShort) e = refl
  rules_same (Entry.Malformed kind) e = refl

  no_load : (entry : Entry) → is_load entry ≡ false → step_of a st entry ≡ step_of b st entry
  unfolding step_of
  no_load entry e = rw (rules_same entry e)

  pub sees_lookup : SeesLookup a b st
  sees_lookup = record { load = by_lookup; other = no_load }

-- ---- what a load leaves: found, every state gives the same; refused, none accepts
module _ (sheets : List ℕ) (index : ℕ) where
  numbered : (st : State) (x : Lookup) → refusal_of (load_by st x).answer ≡ lookup_refusal x
  numbered st (Ok s) = refl
  numbered st (Err why) = refl

  same : (st other : State) (x : Lookup) → accepted (load_by st x).answer ≡ true → load_by other x ≡ load_by st x
  same st other (Ok s) k = refl
  same st other (Err why) k = absurd (subst T (sym k ∙ not_0 why) tt)

  forget : (st other : State) → accepted (step_of sheets st (load_at index)).answer ≡ true → workable other ≡ true
      → step_of sheets other (load_at index) ≡ step_of sheets st (load_at index)
  forget st other k e =
      let here = by_rules sheets st (load_at index) (worked sheets st (load_at index) k) in
      rw (by_rules sheets other (load_at index) e, here) (same st other (lookup_of sheets index) (rw here at k))

  pub load_forgets : LoadForgets sheets index
  load_forgets =
      record { refusal = λ st e. rw (by_rules sheets st (load_at index) e) (numbered st (lookup_of sheets index)); forgets = forget }

-- ---- what the two starts leave: refusal 1 without a sheet, or at a record that the code does not work with
module _ (sheets : List ℕ) (st : State) where
  abbrev given : Bool → Option Sheet → Chart → Stepped
  given w l chart = cond w (needing_sheet l st (λ (s : Sheet). answered Answer.Done (with_integration st (started chart)))) (refused st 1)

  alike : (w : Bool) (l : Option Sheet) → (given w l Chart.Short).answer ≡ (given w l Chart.Long).answer
  alike true None = refl
  alike true (Some s) = refl
  alike false l = refl

  stays : (w : Bool) (l : Option Sheet) (chart : Chart) → accepted (given w l chart).answer ≡ false → (given w l chart).state ≡ st
  stays true None chart e = refl
  stays true (Some s) chart e = absurd (subst T e tt)
  stays false l chart e = refl

  begun : (w : Bool) (l : Option Sheet) (chart : Chart) → accepted (given w l chart).answer ≡ true → (given w l chart).state ≡ with_integration st (started chart)
  begun true None chart e = absurd (subst T (sym e) tt)
  begun true (Some s) chart e = refl
  begun false l chart e = absurd (subst T (sym e) tt)

  pub starts_alike : StartsAlike sheets st
  unfolding step_of
  starts_alike =
      record {
        answer = alike (workable st) st.loaded;
        long = record { refused = stays (workable st) st.loaded Chart.Long; begun = begun (workable st) st.loaded Chart.Long };
        short = record { refused = stays (workable st) st.loaded Chart.Short; begun = begun (workable st) st.loaded Chart.Short };
      }
