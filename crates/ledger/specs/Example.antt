-- Document 01's example, "Session file and program": one sheet of the bench, load 0, reference C 1,000,000,000 e 0, sample raw
-- 10,000,000 at P 101,300 T 29,815 e 0, area; and what it prints of them. Assumes nothing.
use Rattle.std.specs.Prelude.{ℕ, List, [], ◌∷◌, ◌++◌, map, ◌≡◌, pos, Ok}
use Rattle.curve.specs.Bench.{bench_sheet}
use Rattle.layout.specs.declared.AnswerRecord.{AnswerRecord}
use Rattle.rules.specs.declared.Event.{Event}
use Rattle.rules.specs.declared.Entry.{Entry}
use Rattle.sheets.specs.Sheets.{lookup_of}
use Rattle.rules.specs.Rules.{fresh}
use Rattle.engine.specs.Transcript.{transcript, record_of_line}

-- four bytes, the lowest first
abbrev pub word : ℕ → ℕ → ℕ → ℕ → List ℕ
word a b c d = a ∷ b ∷ c ∷ d ∷ []

-- the list of sheets: the 24 bytes of the one sheet
abbrev pub example_sheets : List ℕ
example_sheets =
    -- A1 150,000,000
    word 128 209 240 8
    -- A2 5,000,000
    ++ word 64 75 76 0
    -- A3 5,000,000
    ++ word 64 75 76 0
    -- T0 29,815
    ++ word 119 116 0 0
    -- K 200,000,000
    ++ word 0 194 235 11
    -- four zero bytes
    ++ word 0 0 0 0

-- the four events
abbrev pub example_load : Entry
example_load = Entry.Known (Event.Load 0)

abbrev pub example_reference : Entry
example_reference = Entry.Known (Event.Reference 1000000000 0)

abbrev pub example_sample : Entry
example_sample = Entry.Known (Event.Sample (record { raw = pos 10000000; p = 101300; t = 29815; e = 0 }))

abbrev pub example_area : Entry
example_area = Entry.Known Event.Area

abbrev pub example_entries : List Entry
example_entries = example_load ∷ example_reference ∷ example_sample ∷ example_area ∷ []

-- a row in numbers, as it is printed after its ordinal: kind, refusal, m, x, y
abbrev pub row : ℕ → ℕ → ℕ → ℕ → ℕ → AnswerRecord
row kind refusal m x y = record { kind = kind; refusal = refusal; m = m; x = pos x; y = pos y }

-- the four lines as document 01 prints them
abbrev pub example_rows : List AnswerRecord
example_rows =
    row 1 0 0 0 0
    ∷ row 4 0 0 0 0
    ∷ row 6 0 40000000 1388160000 1388160000
    ∷ row 9 10 0 0 0
    ∷ []

-- document 01's example, from a fresh engine
pub record Example : Type 0 where
  -- the bytes say the sheet of the bench
  pub sheet : lookup_of example_sheets 0 ≡ Ok bench_sheet
  -- the answers are as printed
  pub rows : map record_of_line (transcript example_sheets fresh example_entries) ≡ example_rows
