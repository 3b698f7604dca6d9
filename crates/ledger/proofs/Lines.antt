-- One event under the rules, from a state whose settings are within their limits, whose integration keeps to the ledger's
-- series, and whose stored finding is a search's: what the claim says of the answer holds, and the next state and ledger are such a pair again. Assumes nothing.
use Rattle.std.specs.Prelude.{Option}
use mathlib.Core.Bool.{Bool, true, false, cond}
use mathlib.Core.List.{List, []}
use mathlib.Core.Path.{◌≡◌, refl, sym, ◌∙◌}
use Prim.Native.Nat.{ℕ, ◌≤◌}
use native.Mathlib.Omega.{arith}
use borrow.Author.Tests.{le-leb, ne_eqb}
use lib.Dec.{eqb}
use lib.IntN.{ℤ, nat_abs}
use Rattle.curve.specs.declared.Sheet.{Sheet}
use Rattle.curve.specs.Limits.{within}
use Rattle.curve.proofs.Within.{range}
use Rattle.exact.specs.Fraction.{Fraction}
use Rattle.exact.specs.Area.{EachWithin}
use Rattle.exact.proofs.Area.{same_length, area_distance}
use Rattle.sampling.specs.declared.Mode.{Mode}
use Rattle.counting.specs.declared.Chart.{Chart}
use Rattle.counting.specs.declared.Tally.{Tally}
use Rattle.rules.specs.declared.State.{State}
use Rattle.rules.specs.declared.Event.{Event}
use Rattle.rules.specs.declared.Entry.{Entry}
use Rattle.rules.specs.declared.Answer.{Answer}
use Rattle.rules.specs.declared.Stepped.{Stepped}
use Rattle.counting.specs.Integration.{tally_area}
use Rattle.sampling.specs.Sample.{mode_within}
use Rattle.rules.specs.Rules.{answered, refused}
use Rattle.rules.specs.Limits.{loaded_within, workable}
use Rattle.store.specs.Store.{stored_within}
use Rattle.events.specs.Sample.{searched_for, StoredIsSearched}
use Rattle.events.specs.Events.{rules}
use Rattle.events.proofs.Inversion.{accepted_in, given_in, wet_in}
use Rattle.events.proofs.Stored.{agrees_in, same_sample}
use Rattle.engine.proofs.Cases.{long, short, closing, Ruled, refuses, malformed, loads, zeroes, spans, refers, absolute, samples, closes, starts, stops, totals, ruled}
use Rattle.ledger.specs.Ledger.{Ledger, with_series, taken, exact_value, refused_by, ledger_step}
use Rattle.ledger.specs.Wets.{wets_step}
use Rattle.ledger.specs.Claim.{RefusalHolds, LedgerHolds}
use Rattle.ledger.proofs.Tallies.{tally_of, tally_area_lem, Keeps, idle, keeps_started, keeps_closed, keeps_counted, keeps_tally, keeps_within, taken_at_end, taken_runs}
use Rattle.ledger.proofs.Samples.{ledger_at, sample_worth}

-- ---- settings within their limits
pub record SettingsOk (loaded : Option Sheet) (q : ℤ) (s : ℕ) (mode : Mode) : Type 0 where
  pub sheet : loaded_within loaded ≡ true
  pub zero : nat_abs q ≤ 20000000
  pub span_low : 500000 ≤ s
  pub span_high : s ≤ 2000000
  pub gas : mode_within mode ≡ true

abbrev pub Settings : State → Type 0
Settings st = SettingsOk st.loaded st.q st.s st.mode

pub workable_is : (st : State) {ws : List ℤ} {xs : List Fraction} {b : Bool} {limit : ℕ} → Settings st → Keeps st.integration ws xs b limit
    → stored_within st.stored ≡ true → workable st ≡ true
unfolding workable
workable_is st h k f =
    rw (
      h.sheet,
      le-leb (nat_abs st.q) 20000000 h.zero,
      le-leb 500000 st.s h.span_low,
      le-leb st.s 2000000 h.span_high,
      h.gas,
      keeps_within k,
    )
    f

-- ---- a state, a ledger and the wet values answered that go together
pub record Together (st : State) (g : Ledger) (ws : List ℤ) : Type 0 where
  pub xs : List Fraction
  pub runs : Bool
  pub limit : ℕ
  pub settings : Settings st
  pub keeps : Keeps st.integration ws xs runs limit
  pub same : g ≡ ledger_at st xs runs limit

-- what is to be shown of what a rule gives
pub record Good (sheets : List ℕ) (g : Ledger) (ws : List ℤ) (entry : Entry) (r : Stepped) : Type 0 where
  pub refusal : RefusalHolds r.answer
  pub ledger : LedgerHolds g ws entry r.answer
  pub next : Together r.state (ledger_step sheets g entry r.answer) (wets_step g.runs ws entry r.answer)

module _ (sheets : List ℕ) (st : State) {ws : List ℤ} {xs : List Fraction} {b : Bool} {m : ℕ} (h : Settings st) (k : Keeps st.integration ws xs b m)
    (f : StoredIsSearched st) where
  abbrev g : Ledger
  g = ledger_at st xs b m

  -- ---- by the next state and the series beside it
  makes : {entry : Entry} {a : Answer} {next : State} (ys : List Fraction) (runs : Bool) (limit : ℕ) → RefusalHolds a → LedgerHolds g ws entry a
      → Settings next → Keeps next.integration (wets_step b ws entry a) ys runs limit → ledger_step sheets g entry a ≡ ledger_at next ys runs limit
      → Good sheets g ws entry (answered a next)
  makes ys runs limit e l set i same =
      record {
        refusal = e;
        ledger = l;
        next = record { xs = ys; runs = runs; limit = limit; settings = set; keeps = i; same = same };
      }

  -- ---- refused by a number of the list: the settings, the wet values and the series stay
  refusal : {entry : Entry} {next : State} (number : ℕ) (runs : Bool) → within 1 11 number ≡ true
      → LedgerHolds g ws entry (Answer.Refused number) → Settings next → Keeps next.integration ws xs runs m
      → refused_by g entry ≡ ledger_at next xs runs m → Good sheets g ws entry (refused next number)
  unfolding ledger_step wets_step
  refusal number runs w l set i same =
      let r = range 1 11 number w in
      let n : eqb number 0 ≡ false = ne_eqb number 0 (λ z. omega (arith, r.0)) in
      makes xs runs m (r.0, r.1, refl, refl, refl) l set (rw n i) (rw n same)

  -- the ledger has nothing to compare with a known event that is refused
  unasked : (event : Event) (number : ℕ) → LedgerHolds g ws (Entry.Known event) (Answer.Refused number)
  unasked (Event.Load index) number = tt
  unasked (Event.Zero raw) number = tt
  unasked (Event.Span at cylinder) number = tt
  unasked (Event.Reference cylinder e) number = tt
  unasked Event.Absolute number = tt
  unasked (Event.Sample at) number = tt
  unasked Event.Start number = tt
  unasked Event.Stop number = tt
  unasked Event.Area number = tt
  unasked Event.StartShort number = tt

  malformed_good : (kind : ℕ) (t : Bool) → eqb kind 6 ≡ t → Good sheets g ws (Entry.Malformed kind) (refused (cond t (closing st) st) 11)
  malformed_good kind true e = refusal 11 false refl refl h (keeps_closed k) (rw e)
  malformed_good kind false e = refusal 11 b refl refl h k (rw e)

  -- ---- a sample
  taken_is : (x : Fraction) → taken g x ≡ with_series g (taken_at_end xs b x) (taken_runs xs b m)
  taken_is x = go b
    where
      go : (t : Bool) → taken (ledger_at st xs t m) x ≡ with_series (ledger_at st xs t m) (taken_at_end xs t x) (taken_runs xs t m)
      go true = refl
      go false = refl

  -- ---- an area
  area_good : {t : Tally} → t ≡ tally_of ws → EachWithin ws xs → Good sheets g ws (Entry.Known Event.Area) (answered (Answer.Area t.n (tally_area t)) st)
  unfolding ledger_step wets_step
  area_good e d =
      rw e
      (makes xs b m tt
      (record {
        count = same_length d;
        wet_count = refl;
        wet_area = tally_area_lem ws;
        distance = rw (tally_area_lem ws) (rw (← same_length d) at (area_distance d));
      }) h k refl)

  -- ---- every entry
  good : {entry : Entry} {r : Stepped} → Ruled sheets st entry r → Good sheets g ws entry r
  unfolding ledger_step wets_step
  good (refuses {event} {number} other n) = refusal number b n (unasked event number) h k (rw other.0)
  good (malformed {kind}) = malformed_good kind (eqb kind 6) refl
  good (loads e w) = makes [] false 0 tt tt (record { sheet = w; zero = omega arith; span_low = omega arith; span_high = omega arith; gas = refl }) idle (rw e)
  good (zeroes n) = makes [] false 0 tt tt (record { sheet = h.sheet; zero = n; span_low = h.span_low; span_high = h.span_high; gas = h.gas }) idle refl
  good (spans l u) = makes [] false 0 tt tt (record { sheet = h.sheet; zero = h.zero; span_low = l; span_high = u; gas = h.gas }) idle refl
  good (refers e) = makes [] false 0 tt tt (record { sheet = h.sheet; zero = h.zero; span_low = h.span_low; span_high = h.span_high; gas = e }) idle refl
  good absolute = makes [] false 0 tt tt (record { sheet = h.sheet; zero = h.zero; span_low = h.span_low; span_high = h.span_high; gas = refl }) idle refl
  good (samples {at} {r} y) =
      let x = accepted_in st at (searched_for st at) (sym (same_sample st at (agrees_in st at f)) ∙ given_in _ _ _ y) in
      let w = sample_worth st xs b m h.sheet at x in
      let v = exact_value g at r in
      makes (taken_at_end xs b v) (taken_runs xs b m) m tt w.holds h (keeps_counted k w.near (wet_in h.sheet x)) (taken_is v)
  good (closes {number = number} n) = refusal number false n tt h (keeps_closed k) refl
  good (starts long) = makes [] true _ tt tt h (keeps_started Chart.Long) refl
  good (starts short) = makes [] true _ tt tt h (keeps_started Chart.Short) refl
  good stops = makes xs false m tt tt h (keeps_closed k) refl
  good (totals t) = area_good (keeps_tally k t).0 (keeps_tally k t).1

  pub entry_good : (entry : Entry) → Good sheets g ws entry (rules sheets st entry)
  entry_good entry = good (ruled sheets st entry)
