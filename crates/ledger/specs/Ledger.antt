-- The exact ledger of document 01: it is given the list of sheets and fed each entry with its answer, and nothing else of the
-- engine. Assumes nothing.
use Rattle.std.specs.Prelude.{ℕ, ◌+◌, ◌*◌, Bool, true, false, not, cond, List, [], ◌∷◌, ◌++◌, eqb, ℤ, pos, length, None, Option, Some}
use Rattle.curve.specs.declared.Sheet.{Sheet}
use Rattle.exact.specs.Fraction.{Fraction, whole}
use Rattle.exact.specs.Equation.{exact_wet}
use Rattle.exact.specs.Signal.{exact_signal, exact_against}
use Rattle.layout.specs.Records.{sheet_at}
use Rattle.sampling.specs.declared.Mode.{Mode}
use Rattle.sampling.specs.declared.Measurement.{Measurement}
use Rattle.rules.specs.declared.Event.{Event}
use Rattle.rules.specs.declared.Entry.{Entry}
use Rattle.rules.specs.declared.Answer.{Answer}
use Rattle.rules.specs.Answer.{m_of, accepted, kind_of}
use Rattle.sheets.specs.Sheets.{as_sheet}
use Rattle.sampling.specs.Sample.{air_of}

-- a sheet, Q, S, a mode, and a series of exact values that runs or doesn't; since R-10 the series knows how many values it takes
pub record Ledger : Type 0 where
  pub sheet : Option Sheet
  pub q : ℤ
  pub s : ℕ
  pub mode : Mode
  pub series : List Fraction
  pub runs : Bool
  pub limit : ℕ

-- the settings with the series empty and not running; it takes no value before a start says how many
abbrev pub settled : Option Sheet → ℤ → ℕ → Mode → Ledger
settled sheet q s mode = record { sheet = sheet; q = q; s = s; mode = mode; series = []; runs = false; limit = 0 }

-- it begins with no sheet, Q = 0, S = 1,000,000, absolute, the series empty and not running
abbrev pub fresh_ledger : Ledger
fresh_ledger = settled None (pos 0) 1000000 Mode.Absolute

-- the same with another series; its limit is the one that its start set
abbrev pub with_series : Ledger → List Fraction → Bool → Ledger
with_series g series runs = record { sheet = g.sheet; q = g.q; s = g.s; mode = g.mode; series = series; runs = runs; limit = g.limit }

-- ---- the exact value of raw, P, T and e under a sheet, Q, S and mode, with the answer's R against a reference

abbrev pub exact_in : Mode → Sheet → Fraction → Measurement → ℕ → Fraction
exact_in Mode.Absolute s x at r = exact_wet s x (air_of at)
exact_in (Mode.Against gas) s x at r = exact_wet s (exact_against x r s.k) (air_of at)

-- with no sheet there is no value, and no accepted sample: 0 stands for it
abbrev pub exact_on : Option Sheet → Ledger → Measurement → ℕ → Fraction
exact_on None g at r = whole (pos 0)
exact_on (Some s) g at r = exact_in g.mode s (exact_signal at.raw g.q g.s) at r

abbrev pub exact_value : Ledger → Measurement → ℕ → Fraction
exact_value g at r = exact_on g.sheet g at r

-- ---- per event

-- refused: nothing changes, but with kind byte 6 a running series no longer runs
abbrev pub refused_by : Ledger → Entry → Ledger
refused_by g entry = cond (eqb (kind_of entry) 6) (with_series g g.series false) g

-- how many values a series takes: after a start 600,000, after a short start 6,000 (R-10); the ledger's own numbers, and none of the engine's
abbrev pub long_series : ℕ
long_series = 600000

abbrev pub short_series : ℕ
short_series = 6000

-- the series is empty, runs, and takes so many values
abbrev pub started_with : Ledger → ℕ → Ledger
started_with g limit = record { sheet = g.sheet; q = g.q; s = g.s; mode = g.mode; series = []; runs = true; limit = limit }

-- a running series takes the value at its end; after as many as its limit it no longer runs
abbrev pub taken : Ledger → Fraction → Ledger
taken g x =
    cond g.runs (with_series g (g.series ++ (x ∷ [])) (not (eqb (length g.series + 1) g.limit))) g

abbrev pub accepted_by : List ℕ → Ledger → Entry → Answer → Ledger
accepted_by sheets g (Entry.Known (Event.Load index)) a = settled (Some (as_sheet (sheet_at sheets (24 * index)))) (pos 0) 1000000 Mode.Absolute
accepted_by sheets g (Entry.Known (Event.Zero raw)) a = settled g.sheet raw g.s g.mode
accepted_by sheets g (Entry.Known (Event.Span at cylinder)) a = settled g.sheet g.q (m_of a) g.mode
accepted_by sheets g (Entry.Known (Event.Reference cylinder e)) a = settled g.sheet g.q g.s (Mode.Against (record { c = cylinder; e = e }))
accepted_by sheets g (Entry.Known Event.Absolute) a = settled g.sheet g.q g.s Mode.Absolute
accepted_by sheets g (Entry.Known (Event.Sample at)) a = taken g (exact_value g at (m_of a))
accepted_by sheets g (Entry.Known Event.Start) a = started_with g long_series
accepted_by sheets g (Entry.Known Event.Stop) a = with_series g g.series false
accepted_by sheets g (Entry.Known Event.Area) a = g
accepted_by sheets g (Entry.Known Event.StartShort) a = started_with g short_series
-- a malformed entry is never accepted
accepted_by sheets g (Entry.Malformed kind) a = g

unfoldable pub ledger_step : List ℕ → Ledger → Entry → Answer → Ledger
ledger_step sheets g entry a = cond (accepted a) (accepted_by sheets g entry a) (refused_by g entry)
