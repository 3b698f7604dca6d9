-- Document 01's example of "Session file and program": the file, byte for byte, and the lines that the paper shows. `proofs/Example.antt`
-- proves that they are what the program prints. Assumes nothing.
use Rattle.std.specs.Prelude.{ℕ, List, [], ◌∷◌, ◌++◌, ◌≡◌}
use Rattle.ledger.specs.Example.{word, example_sheets}
use Rattle.printing.specs.Text.{printed_of}

abbrev pub zero_word : List ℕ
zero_word = word 0 0 0 0

-- one sheet from byte 16 on, and four events from byte 40 on; the header has these four numbers
abbrev pub example_header : List ℕ
example_header = word 1 0 0 0 ++ word 16 0 0 0 ++ word 4 0 0 0 ++ word 40 0 0 0

-- an event: kind and three zero bytes; raw; C; P; T; e
abbrev pub example_events : List ℕ
example_events =
    -- load 0
    word 1 0 0 0 ++ zero_word ++ zero_word ++ zero_word ++ zero_word ++ zero_word
    -- reference C 1,000,000,000 e 0
    ++ word 4 0 0 0 ++ zero_word ++ word 0 202 154 59 ++ zero_word ++ zero_word ++ zero_word
    -- sample raw 10,000,000 at P 101,300 T 29,815 e 0
    ++ word 6 0 0 0 ++ word 128 150 152 0 ++ zero_word ++ word 180 139 1 0 ++ word 119 116 0 0 ++ zero_word
    -- area
    ++ word 9 0 0 0 ++ zero_word ++ zero_word ++ zero_word ++ zero_word ++ zero_word

abbrev pub example_file : List ℕ
example_file = example_header ++ example_sheets ++ example_events

-- in ASCII: 32 is the space, 10 the line feed, 48 to 57 the digits 0 to 9
abbrev pub example_text : List ℕ
example_text =
    -- 1 1 0 0 0 0
    (49 ∷ 32 ∷ 49 ∷ 32 ∷ 48 ∷ 32 ∷ 48 ∷ 32 ∷ 48 ∷ 32 ∷ 48 ∷ 10 ∷ [])
    -- 2 4 0 0 0 0
    ++ (50 ∷ 32 ∷ 52 ∷ 32 ∷ 48 ∷ 32 ∷ 48 ∷ 32 ∷ 48 ∷ 32 ∷ 48 ∷ 10 ∷ [])
    -- 3 6 0 40000000 1388160000 1388160000
    ++ (51 ∷ 32 ∷ 54 ∷ 32 ∷ 48 ∷ 32 ∷ 52 ∷ 48 ∷ 48 ∷ 48 ∷ 48 ∷ 48 ∷ 48 ∷ 48 ∷ 32 ∷ [])
    ++ (49 ∷ 51 ∷ 56 ∷ 56 ∷ 49 ∷ 54 ∷ 48 ∷ 48 ∷ 48 ∷ 48 ∷ 32 ∷ 49 ∷ 51 ∷ 56 ∷ 56 ∷ 49 ∷ 54 ∷ 48 ∷ 48 ∷ 48 ∷ 48 ∷ 10 ∷ [])
    -- 4 9 10 0 0 0
    ++ (52 ∷ 32 ∷ 57 ∷ 32 ∷ 49 ∷ 48 ∷ 32 ∷ 48 ∷ 32 ∷ 48 ∷ 32 ∷ 48 ∷ 10 ∷ [])

-- the file prints these lines
abbrev pub ExamplePrinted : Type 0
ExamplePrinted = printed_of example_file ≡ example_text
