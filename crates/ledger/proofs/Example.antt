-- Document 01's example holds. The sheet of its bytes is the bench sheet, and reference and sample are starred cases. Assumes nothing.
use Rattle.std.specs.Prelude.{Ok, Some, None}
use mathlib.Core.Path.{◌≡◌, refl}
use lib.IntN.{pos}
use Rattle.curve.specs.Limits.{sheet_within}
use Rattle.curve.specs.Bench.{bench_sheet}
use Rattle.fields.specs.Fields.{signed}
use Rattle.layout.specs.Records.{sheet_of}
use Rattle.rules.specs.declared.State.{State}
use Rattle.rules.specs.declared.Answer.{Answer}
use Rattle.sheets.specs.Sheets.{lookup_of}
use Rattle.rules.specs.Rules.{fresh, answered, refused}
use Rattle.rules.specs.Limits.{workable}
use Rattle.engine.specs.Step.{step_of}
use Rattle.engine.specs.Bench.{bench_state, reference_state, found_there}
use Rattle.engine.proofs.Bench.{starred_cases}
use Rattle.ledger.specs.Example.{example_sheets, example_load, example_reference, example_sample, example_area, Example}

sheet : lookup_of example_sheets 0 ≡ Ok bench_sheet
unfolding lookup_of sheet_of signed sheet_within
sheet = refl

load : step_of example_sheets fresh example_load ≡ answered Answer.Done bench_state
unfolding step_of workable
load = rw sheet

reference : step_of example_sheets bench_state example_reference ≡ answered Answer.Done (reference_state None)
unfolding step_of workable sheet_within
reference = starred_cases.reference

-- R stays stored
abbrev sampled : State
sampled = reference_state (found_there (Some 40000000))

sample : step_of example_sheets (reference_state None) example_sample ≡ answered (Answer.Reading 40000000 (pos 1388160000) (pos 1388160000)) sampled
unfolding step_of workable sheet_within
sample = starred_cases.raw_10000000

area : step_of example_sheets sampled example_area ≡ refused sampled 10
unfolding step_of workable sheet_within
area = refl

pub example : Example
example = record { sheet = sheet; rows = rw (load, reference, sample, area) refl }
