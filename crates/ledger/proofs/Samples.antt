-- What an accepted sample is worth: its wet and dry value beside the exact ones, and equation (11) at its reference signal. Assumes
-- nothing.
use Rattle.std.specs.Prelude.{None, Option, Some}
use mathlib.Core.Bool.{Bool, true}
use mathlib.Core.List.{List}
use mathlib.Core.Path.{◌≡◌, refl, ap, subst}
use Prim.Native.Nat.{ℕ, ◌<◌}
use native.Mathlib.Omega.{arith}
use lib.IntN.{ℤ, pos}
use Rattle.rounding.proofs.Difference.{is_nat, of_lt}
use Rattle.curve.specs.declared.Sheet.{Sheet}
use Rattle.curve.specs.Limits.{SheetOk, AirOk}
use Rattle.curve.proofs.Accepted.{accepted}
use Rattle.reference.specs.Search.{reference_refusal, found_value, reference_of}
use Rattle.reference.proofs.Bracket.{at_reference, below_reference}
use Rattle.exact.specs.Fraction.{Fraction, LiesWithin}
use Rattle.exact.specs.Bounds.{against_bound}
use Rattle.exact.proofs.Distance.{absolute_distance, absolute_dry_distance, against_distance, against_dry_distance, lies_weaken}
use Rattle.exact.proofs.Distance.{reference_at_least, reference_less_than}
use Rattle.sampling.specs.declared.Cylinder.{Cylinder}
use Rattle.sampling.specs.declared.Mode.{Mode}
use Rattle.sampling.specs.declared.Measurement.{Measurement}
use Rattle.sampling.specs.Sample.{air_of, reference_air, searched_of}
use Rattle.sampling.proofs.Within.{input_ok, reference_air_ok}
use Rattle.sampling.proofs.Inversion.{AcceptedOn}
use Rattle.rules.specs.declared.State.{State}
use Rattle.rules.specs.Limits.{loaded_within}
use Rattle.rules.proofs.Workable.{sheet_in}
use Rattle.events.specs.Sample.{searched_under, searched_for}
use Rattle.events.proofs.Inversion.{AcceptedIn}
use Rattle.ledger.specs.Ledger.{Ledger, exact_value}
use Rattle.ledger.specs.Claim.{AtSignal, SampleHolds}

-- the ledger beside a state
abbrev pub ledger_at : State → List Fraction → Bool → ℕ → Ledger
ledger_at st xs b limit = record { sheet = st.loaded; q = st.q; s = st.s; mode = st.mode; series = xs; runs = b; limit = limit }

-- an accepted sample holds, and lies within 1,800 of its exact value in either mode
pub record Worth (g : Ledger) (at : Measurement) (r : ℕ) (wet dry : ℤ) : Type 0 where
  pub holds : SampleHolds g at r wet dry
  pub near : LiesWithin wet against_bound (exact_value g at r)

-- ---- the reference signal that is answered
found_at : (f : Option ℕ) (r : ℕ) → reference_refusal f ≡ 0 → r ≡ found_value f → f ≡ Some r
found_at (Some n) r e q = cc
found_at None r e q = absurd (omega arith)

module _ (s : Sheet) (okS : SheetOk s) (at : Measurement) (gas : Cylinder) (okR : AirOk (reference_air (air_of at) gas)) (r : ℕ)
    (f : reference_of s gas.c (reference_air (air_of at) gas) ≡ Some r) where
  signal_at_lem : AtSignal s gas at r
  signal_at_lem =
      let a = reference_air (air_of at) gas in
      let h = at_reference s a gas.c r f in
      record {
        here = reference_at_least s okS a okR r gas.c h.c h.value h.high;
        below = λ v e.
            let l = below_reference s a gas.c okS okR v (subst (λ (n : ℕ). reference_of s gas.c a ≡ Some n) e f) in
            reference_less_than s okS a okR v gas.c l.c l.value l.low;
      }

  below_k : r < s.k
  below_k =
      let a = reference_air (air_of at) gas in
      let h = at_reference s a gas.c r f in
      omega (arith, of_lt (is_nat r) (is_nat s.k) (accepted s (pos r) a h.c h.value).below_k)

-- ---- by the mode
module _ (st : State) (xs : List Fraction) (b : Bool) (limit : ℕ) (s : Sheet) (okS : SheetOk s) (loaded : st.loaded ≡ Some s) (at : Measurement)
    {r : ℕ} {wet dry : ℤ} where
  worth : (mode : Mode) → st.mode ≡ mode → AcceptedOn s st.q st.s mode at (searched_of s mode (air_of at)) r wet dry
      → Worth (ledger_at st xs b limit) at r wet dry
  worth Mode.Absolute m x =
      let okA = (input_ok at x.input).air in
      let near = absolute_distance s okS (air_of at) okA at.raw st.q st.s wet x.wet_is in
      let dry-near = absolute_dry_distance s okS (air_of at) okA at.raw st.q st.s wet x.wet_is in
      record {
        holds = record { wet_holds = rw (loaded, m) near; dry_holds = rw (loaded, m, x.dry_is) dry-near; signal_holds = rw (loaded, m) x.signal_is };
        near = rw (loaded, m) (lies_weaken near against_bound (omega arith));
      }
  worth (Mode.Against gas) m x =
      let okA = (input_ok at x.input).air in
      let okR = reference_air_ok (air_of at) {gas = gas} okA x.vapour refl in
      let f = found_at (reference_of s gas.c (reference_air (air_of at) gas)) r x.finding x.signal_is in
      let signal = signal_at_lem s okS at gas okR r f in
      let low = below_k s okS at gas okR r f in
      let reads = rw f at x.wet_is in
      let near = against_distance s okS (air_of at) okA at.raw st.q st.s wet r low reads in
      let dry-near = against_dry_distance s okS (air_of at) okA at.raw st.q st.s wet r low reads in
      record {
        holds = record { wet_holds = rw (loaded, m) near; dry_holds = rw (loaded, m, x.dry_is) dry-near; signal_holds = rw (loaded, m) signal };
        near = rw (loaded, m) near;
      }

-- the sample under whatever is loaded, with what a search finds there
pub sample_worth : (st : State) (xs : List Fraction) (b : Bool) (limit : ℕ) → loaded_within st.loaded ≡ true → (at : Measurement) {r : ℕ} {wet dry : ℤ}
    → AcceptedIn st at (searched_for st at) r wet dry → Worth (ledger_at st xs b limit) at r wet dry
sample_worth st xs b limit w at {r} {wet} {dry} x =
    let f = ap (λ (l : Option Sheet). searched_under l st.mode at) x.loaded in
    worth st xs b limit x.sheet (sheet_in w x.loaded) x.loaded at st.mode refl
    (subst (λ (y : Option ℕ). AcceptedOn x.sheet st.q st.s st.mode at y r wet dry) f x.sample)
