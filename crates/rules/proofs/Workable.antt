-- What a workable record tells: the tests of `workable`, taken apart into the facts that the arithmetic asks. Assumes nothing.
use Rattle.std.specs.Prelude.{Option, Some}
use mathlib.Core.Path.{◌≡◌, subst}
use mathlib.Core.Bool.{Bool, true, ◌&&◌}
use Prim.Native.Nat.{◌≤◌}
use lib.Dec.{leb}
use lib.IntN.{nat_abs}
use borrow.Author.Tests.{leb-true}
use Rattle.curve.specs.declared.Sheet.{Sheet}
use Rattle.curve.specs.Limits.{within, SheetOk}
use Rattle.curve.proofs.Within.{both, range, sheet_ok}
use Rattle.counting.specs.Limits.{integration_within}
use Rattle.sampling.specs.Sample.{mode_within}
use Rattle.store.specs.Store.{Stored, stored_within}
use Rattle.rules.specs.declared.State.{State}
use Rattle.rules.specs.Limits.{loaded_within, workable}

pub record Workable (st : State) : Type 0 where
  pub loaded : loaded_within st.loaded ≡ true
  pub q : nat_abs st.q ≤ 20000000
  pub s : st.s ≤ 2000000
  pub mode : mode_within st.mode ≡ true
  pub integration : integration_within st.integration ≡ true
  pub stored : stored_within st.stored ≡ true

-- the limits but for what is stored
abbrev set_within : State → Bool
set_within st =
    loaded_within st.loaded && leb (nat_abs st.q) 20000000 && within 500000 2000000 st.s && mode_within st.mode
    && integration_within st.integration

pub work : (st : State) → workable st ≡ true → Workable st
unfolding workable
work st e =
    let x = both (set_within st) (stored_within st.stored) e in
    let i = both _ (integration_within st.integration) x.0 in
    let m = both _ (mode_within st.mode) i.0 in
    let s = both _ (within 500000 2000000 st.s) m.0 in
    let q = both (loaded_within st.loaded) (leb (nat_abs st.q) 20000000) s.0 in
    record {
      loaded = q.0;
      q = leb-true (nat_abs st.q) 20000000 q.1;
      s = (range 500000 2000000 st.s s.1).1;
      mode = m.1;
      integration = i.1;
      stored = x.1;
    }

-- a record with something else stored that is within its limits
pub work_holding : (st : State) (x : Stored) → workable st ≡ true → stored_within x ≡ true
    → workable (record { loaded = st.loaded; q = st.q; s = st.s; mode = st.mode; stored = x; integration = st.integration }) ≡ true
unfolding workable
work_holding st x e h = rw (both (set_within st) (stored_within st.stored) e).0 h

-- the sheet of a state that has one
pub sheet_in : {l : Option Sheet} {s : Sheet} → loaded_within l ≡ true → l ≡ Some s → SheetOk s
sheet_in {s} e q = sheet_ok s (subst (λ (l : Option Sheet). loaded_within l ≡ true) q e)
