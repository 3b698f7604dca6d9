-- Demand 3: what holds at each event of every list, refused ones included, from a fresh engine, with the exact ledger going
-- through the same list, and beside it the wet values counted since the start. Assumes nothing.
use Rattle.std.specs.Prelude.{true, ℕ, suc, ◌≤◌, List, [], ◌∷◌, ◌≡◌, ℤ, pos, ◌+ℤ◌, ◌-ℤ◌, length, None, Option, Some}
use Rattle.curve.specs.declared.Sheet.{Sheet}
use Rattle.exact.specs.Fraction.{whole, LiesWithin, AtLeast, LessThan}
use Rattle.exact.specs.Equation.{exact_wet, exact_dry}
use Rattle.exact.specs.Area.{area_of, exact_area}
use Rattle.exact.specs.Bounds.{absolute_bound, against_bound, dry_bound, reference_bound, area_bound}
use Rattle.sampling.specs.declared.Cylinder.{Cylinder}
use Rattle.sampling.specs.declared.Mode.{Mode}
use Rattle.rules.specs.declared.State.{State}
use Rattle.sampling.specs.declared.Measurement.{Measurement}
use Rattle.rules.specs.declared.Event.{Event}
use Rattle.rules.specs.declared.Entry.{Entry}
use Rattle.rules.specs.declared.Answer.{Answer}
use Rattle.rules.specs.Answer.{refusal_of, m_of, x_of, y_of}
use Rattle.sampling.specs.Sample.{air_of, reference_air}
use Rattle.rules.specs.Rules.{fresh, answered}
use Rattle.events.specs.Events.{rules}
use Rattle.rules.specs.Limits.{workable}
use Rattle.engine.specs.Step.{step_of}
use Rattle.engine.specs.Transcript.{Line, transcript, leaves}
use Rattle.ledger.specs.Ledger.{Ledger, fresh_ledger, exact_value, ledger_step}
use Rattle.ledger.specs.Wets.{wets_step}

-- ---- what holds of an answer

-- a refused answer has a number of the list, 1 to 11, and its fields are zero. What this adds is the range, so that 0 stands for
-- accepted answers alone: the fields are zero by `m_of`, `x_of` and `y_of`, whatever the number, and `by_rules` below fixes which it is
abbrev pub RefusalHolds : Answer → Type 0
RefusalHolds (Answer.Refused number) =
    (1 ≤ number) × (number ≤ 11) × (m_of (Answer.Refused number) ≡ 0) × (x_of (Answer.Refused number) ≡ pos 0) × (y_of (Answer.Refused number) ≡ pos 0)
RefusalHolds Answer.Done = Unit
RefusalHolds (Answer.Zeroed q) = Unit
RefusalHolds (Answer.Spanned s) = Unit
RefusalHolds (Answer.Reading r wet dry) = Unit
RefusalHolds (Answer.Area n area) = Unit

-- the bound of a wet value by the mode
abbrev pub wet_bound : Mode → ℕ
wet_bound Mode.Absolute = absolute_bound
wet_bound (Mode.Against gas) = against_bound

-- equation (11) at the reference signal R that the answer reports, with the cylinder's vapour pressure and the sample's P and
-- T, is at least the cylinder less 450; one unit lower, if R isn't zero, it is less than the cylinder plus 450
pub record AtSignal (s : Sheet) (gas : Cylinder) (at : Measurement) (r : ℕ) : Type 0 where
  pub here : AtLeast (exact_wet s (whole (pos r)) (reference_air (air_of at) gas)) (pos gas.c -ℤ pos reference_bound)
  pub below : (v : ℕ) → r ≡ suc v → LessThan (exact_wet s (whole (pos v)) (reference_air (air_of at) gas)) (pos gas.c +ℤ pos reference_bound)

abbrev pub SignalHolds : Option Sheet → Mode → Measurement → ℕ → Type 0
SignalHolds None mode at r = ⊥
SignalHolds (Some s) Mode.Absolute at r = r ≡ 0
SignalHolds (Some s) (Mode.Against gas) at r = AtSignal s gas at r

-- an accepted sample: its wet value beside the ledger's exact value, its dry value beside that times P / (P − e), and its R
pub record SampleHolds (g : Ledger) (at : Measurement) (r : ℕ) (wet dry : ℤ) : Type 0 where
  pub wet_holds : LiesWithin wet (wet_bound g.mode) (exact_value g at r)
  pub dry_holds : LiesWithin dry dry_bound (exact_dry (exact_value g at r) (air_of at))
  pub signal_holds : SignalHolds g.sheet g.mode at r

-- an accepted area: the ledger's n, the area rule over the wet values counted since the start, which are n as well, and beside
-- the ledger's area
pub record AreaHolds (g : Ledger) (ws : List ℤ) (n : ℕ) (area : ℤ) : Type 0 where
  pub count : n ≡ length g.series
  pub wet_count : n ≡ length ws
  pub wet_area : area ≡ area_of ws
  pub distance : LiesWithin area (area_bound n) (exact_area g.series)

-- by the entry and its answer, the ledger and the wet values being those before the event: a sample is answered by a reading or
-- refused, an area by an area or refused
abbrev pub SampleAnswered : Ledger → Measurement → Answer → Type 0
SampleAnswered g at (Answer.Reading r wet dry) = SampleHolds g at r wet dry
SampleAnswered g at (Answer.Refused number) = Unit
SampleAnswered g at Answer.Done = ⊥
SampleAnswered g at (Answer.Zeroed q) = ⊥
SampleAnswered g at (Answer.Spanned s) = ⊥
SampleAnswered g at (Answer.Area n area) = ⊥

abbrev pub AreaAnswered : Ledger → List ℤ → Answer → Type 0
AreaAnswered g ws (Answer.Area n area) = AreaHolds g ws n area
AreaAnswered g ws (Answer.Refused number) = Unit
AreaAnswered g ws Answer.Done = ⊥
AreaAnswered g ws (Answer.Zeroed q) = ⊥
AreaAnswered g ws (Answer.Spanned s) = ⊥
AreaAnswered g ws (Answer.Reading r wet dry) = ⊥

-- the ledger has exact values to compare with samples and areas alone; a malformed entry is refused with 11
abbrev pub LedgerHolds : Ledger → List ℤ → Entry → Answer → Type 0
LedgerHolds g ws (Entry.Known (Event.Sample at)) a = SampleAnswered g at a
LedgerHolds g ws (Entry.Known Event.Area) a = AreaAnswered g ws a
LedgerHolds g ws (Entry.Known (Event.Load index)) a = Unit
LedgerHolds g ws (Entry.Known (Event.Zero raw)) a = Unit
LedgerHolds g ws (Entry.Known (Event.Span at cylinder)) a = Unit
LedgerHolds g ws (Entry.Known (Event.Reference cylinder e)) a = Unit
LedgerHolds g ws (Entry.Known Event.Absolute) a = Unit
LedgerHolds g ws (Entry.Known Event.Start) a = Unit
LedgerHolds g ws (Entry.Known Event.Stop) a = Unit
LedgerHolds g ws (Entry.Known Event.StartShort) a = Unit
LedgerHolds g ws (Entry.Malformed kind) a = refusal_of a ≡ 11

-- demands 1 and 2 at the event: answer and state after are the rules' at the state before; and the ledger's facts
pub record LineHolds (sheets : List ℕ) (g : Ledger) (ws : List ℤ) (l : Line) : Type 0 where
  pub by_rules : answered l.answer l.after ≡ rules sheets l.before l.entry
  pub refusal : RefusalHolds l.answer
  pub by_ledger : LedgerHolds g ws l.entry l.answer

-- ---- the claim: at each event of the list, which gets the state that the last one left, the ledger and the wet values moving on
-- beside it
abbrev pub Holds : List ℕ → State → Ledger → List ℤ → List Line → Type 0
Holds sheets st g ws [] = Unit
Holds sheets st g ws (l ∷ ls) =
    (l.before ≡ st) × LineHolds sheets g ws l
    × Holds sheets l.after (ledger_step sheets g l.entry l.answer) (wets_step g.runs ws l.entry l.answer) ls

-- demand 3, for one list of sheets and one list of events, from a fresh engine; no wet value is answered yet
abbrev pub Demand3 : List ℕ → List Entry → Type 0
Demand3 sheets entries = Holds sheets fresh fresh_ledger [] (transcript sheets fresh entries)

-- the state that a list leaves: its numbers keep to the limits within which every sum fits, and the code's step goes by the
-- rules there, whatever comes next
pub record Reachable (sheets : List ℕ) (entries : List Entry) : Type 0 where
  pub within : workable (leaves sheets fresh entries) ≡ true
  pub by_rules : (entry : Entry) → step_of sheets (leaves sheets fresh entries) entry ≡ rules sheets (leaves sheets fresh entries) entry
