-- The starred reference and span cases of document 01, "Readings on the bench", as statements about the rules. Assumes
-- nothing.
use Rattle.std.specs.Prelude.{◌≡◌, ℕ, ℤ, pos, negsuc, Ok, Option, Some}
use Rattle.curve.specs.declared.Sheet.{Sheet}
use Rattle.curve.specs.Reading.{Reading}
use Rattle.curve.specs.Absolute.{absolute_of}
use Rattle.curve.specs.Bench.{bench_sheet, bench_air}
use Rattle.reference.specs.Signal.{signal_of, against_of}
use Rattle.reference.specs.Search.{reference_refusal, span_refusal, reference_of, span_of}

-- the bench sheet with K 10,000,000
abbrev pub small_sheet : Sheet
small_sheet = record { a1 = 150000000; a2 = 5000000; a3 = 5000000; t0 = 29815; k = 10000000 }

-- the reading of raw against the reference signal 40,000,000
abbrev pub read_against : ℤ → Reading
read_against raw = absolute_of bench_sheet (against_of (signal_of raw (pos 0) 1000000) 40000000 bench_sheet.k) bench_air

-- the span setting of raw to 1,000,000,000
abbrev pub span_to : ℤ → Option ℕ
span_to raw = span_of bench_sheet raw (pos 0) 1000000000 bench_air

pub record StarredReferences : Type 0 where
  pub reference : reference_of bench_sheet 1000000000 bench_air ≡ Some 40000000
  pub raw_0 : read_against (pos 0) ≡ Ok (pos 1000000000)
  pub raw_10000000 : read_against (pos 10000000) ≡ Ok (pos 1388160000)
  -- raw −10,000,000
  pub raw_minus : read_against (negsuc 9999999) ≡ Ok (pos 695040000)
  -- refusal 9
  pub k_10000000 : reference_refusal (reference_of small_sheet 1000000000 bench_air) ≡ 9
  pub span_800000 : span_to (pos 50000000) ≡ Some 800000
  pub span_2000000 : span_to (pos 20000000) ≡ Some 2000000
  -- refusal 5
  pub span_beyond : span_refusal (span_to (pos 19999999)) ≡ 5
  pub span_500000 : span_to (pos 80000000) ≡ Some 500000
  -- refusal 5
  pub span_below : span_refusal (span_to (pos 90000000)) ≡ 5
