-- The engine without a store answers as the engine with one, and leaves the same state with nothing stored: rule by rule, then over a list.
-- Assumes nothing.
use Rattle.std.specs.Prelude.{None, Option, Some, Ok, Err}
use mathlib.Core.Bool.{Bool, true, false, cond, ◌&&◌}
use mathlib.Core.List.{List, [], ◌∷◌, map}
use mathlib.Core.Path.{◌≡◌, refl, sym, ap, subst, ◌∙◌}
use Prim.Native.Nat.{ℕ}
use lib.Dec.{leb, eqb}
use lib.IntN.{nat_abs}
use Rattle.curve.specs.declared.Sheet.{Sheet}
use Rattle.counting.specs.declared.Integration.{Integration}
use Rattle.counting.specs.Integration.{closed_of}
use Rattle.sampling.specs.declared.Mode.{Mode}
use Rattle.sampling.specs.declared.Measurement.{Measurement}
use Rattle.sampling.specs.Sample.{Sampled}
use Rattle.sampling.specs.Span.{spanned_on, Spanned}
use Rattle.sheets.specs.Sheets.{lookup_of, Lookup}
use Rattle.rules.specs.declared.State.{State}
use Rattle.rules.specs.declared.Event.{Event}
use Rattle.rules.specs.declared.Entry.{Entry}
use Rattle.rules.specs.declared.Answer.{Answer}
use Rattle.rules.specs.declared.Stepped.{Stepped}
use Rattle.rules.specs.Rules.{answered, refused, needing_sheet, load_by, span_by, span_in}
use Rattle.events.specs.Sample.{with_stored, storing, sampled_of, searched_for, StoredIsSearched}
use Rattle.events.specs.Events.{with_integration, sample_by, sample_rule, stop_in, rules}
use Rattle.events.proofs.Stored.{agrees_in, same_sample}
use Rattle.engine.specs.Step.{step_of}
use Rattle.engine.specs.Transcript.{Line, transcript, leaves}
use Rattle.engine.proofs.Laws.{by_rules}
use Rattle.ledger.proofs.Demand3.{Kept, kept}
use Rattle.findings.specs.Searching.{searching_sample, searching_rules, searching_answers, searching_leaves}

abbrev pub emptied : State → State
emptied st = with_stored st None

abbrev emptying : Stepped → Stepped
emptying r = answered r.answer (emptied r.state)

-- the first is the second with nothing stored
record Beside (a x : Stepped) : Type 0 where
  pub is : a ≡ emptying x

here : (x : Stepped) → Beside (emptying x) x
here x = record { is = refl }

either : (t : Bool) {a b x y : Stepped} → Beside a x → Beside b y → Beside (cond t a b) (cond t x y)
either true h k = h
either false h k = k

module _ (sheets : List ℕ) (st : State) where
  on_sheet : (l : Option Sheet) {f g : Sheet → Stepped} → ((s : Sheet) → Beside (f s) (g s)) → Beside (needing_sheet l (emptied st) f) (needing_sheet l st g)
  on_sheet None h = here _
  on_sheet (Some s) h = h s

  load_by_lem : (x : Lookup) → Beside (load_by (emptied st) x) (load_by st x)
  load_by_lem (Ok s) = here _
  load_by_lem (Err why) = here _

  span_by_lem : (x : Spanned) → Beside (span_by (emptied st) x) (span_by st x)
  span_by_lem (Ok s) = here _
  span_by_lem (Err why) = here _

  span_in_lem : (s : Sheet) (at : Measurement) (cylinder : ℕ) (m : Mode) → Beside (span_in m (emptied st) s at cylinder) (span_in m st s at cylinder)
  span_in_lem s at cylinder (Mode.Against gas) = here _
  span_in_lem s at cylinder Mode.Absolute = span_by_lem (spanned_on s st.q at cylinder)

  stop_in_lem : (i : Integration) → Beside (stop_in i (emptied st)) (stop_in i st)
  stop_in_lem Integration.Idle = here _
  stop_in_lem (Integration.Running chart t) = here _
  stop_in_lem (Integration.Closed t) = here _

  malformed : (t : Bool)
      → Beside (refused (cond t (with_integration (emptied st) (closed_of st.integration)) (emptied st)) 11)
      (refused (cond t (with_integration st (closed_of st.integration)) st) 11)
  malformed true = here _
  malformed false = here _

  -- what is stored does not show in what a search finds
  sample : (at : Measurement) → StoredIsSearched st → Beside (searching_sample (emptied st) at) (sample_rule st at)
  unfolding sampled_of
  sample at h =
      subst (λ (x : Sampled). Beside (searching_sample (emptied st) at) (sample_by (storing st at) x)) (sym (same_sample st at (agrees_in st at h)))
      (here (sample_by (storing st at) (sampled_of st at (searched_for st at))))

  beside : StoredIsSearched st → (entry : Entry) → Beside (searching_rules sheets (emptied st) entry) (rules sheets st entry)
  beside h (Entry.Known (Event.Load index)) = load_by_lem (lookup_of sheets index)
  beside h (Entry.Known (Event.Zero raw)) = on_sheet st.loaded (λ s. either (leb (nat_abs raw) 20000000) (here _) (here _))
  beside h (Entry.Known (Event.Span at cylinder)) = on_sheet st.loaded (λ s. span_in_lem s at cylinder st.mode)
  beside h (Entry.Known (Event.Reference cylinder e)) = on_sheet st.loaded (λ s. either (leb cylinder 3000000000 && leb e 11500) (here _) (here _))
  beside h (Entry.Known Event.Absolute) = on_sheet st.loaded (λ s. here _)
  beside h (Entry.Known (Event.Sample at)) = sample at h
  beside h (Entry.Known Event.Start) = on_sheet st.loaded (λ s. here _)
  beside h (Entry.Known Event.Stop) = on_sheet st.loaded (λ s. stop_in_lem st.integration)
  beside h (Entry.Known Event.Area) = on_sheet st.loaded (λ s. here _)
  beside h (Entry.Known Event.StartShort) = on_sheet st.loaded (λ s. here _)
  beside h (Entry.Malformed kind) = malformed (eqb kind 6)

-- over a list, from a state that some list leaves
pub same : (sheets : List ℕ) (st : State) → Kept st → (entries : List Entry)
    → (map (λ (l : Line). l.answer) (transcript sheets st entries) ≡ searching_answers sheets (emptied st) entries)
    × (emptied (leaves sheets st entries) ≡ searching_leaves sheets (emptied st) entries)
same sheets st k [] = (refl, refl)
same sheets st k (entry ∷ entries) =
    let e : emptying (step_of sheets st entry) ≡ searching_rules sheets (emptied st) entry =
    ap emptying (by_rules sheets st entry k.works) ∙ sym (beside sheets st k.searched entry).is in
    let n = (kept sheets st k.together k.searched (entry ∷ [])).1 in
    let r = same sheets (step_of sheets st entry).state n entries in (
      ap (λ (rest : List Answer). (step_of sheets st entry).answer ∷ rest) r.0
          ∙ ap (λ (x : Stepped). x.answer ∷ searching_answers sheets x.state entries) e,
      r.1 ∙ ap (λ (x : Stepped). searching_leaves sheets x.state entries) e,
    )
