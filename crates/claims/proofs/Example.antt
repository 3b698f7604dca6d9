-- Document 01's example file prints the lines that the paper shows: its bytes say the sheet and the entries of the example, which the
-- ledger's crate has answered, and the lines of those answers are computed. Assumes nothing.
use Prim.Native.Nat.{ℕ, ◌+◌}
use mathlib.Core.Bool.{true}
use mathlib.Core.List.{List, [], ◌∷◌, ◌++◌, map}
use mathlib.Core.Path.{◌≡◌, refl, ap, ◌∙◌}
use Rattle.layout.specs.declared.AnswerRecord.{AnswerRecord}
use Rattle.fields.specs.Fields.{signed}
use Rattle.layout.specs.Records.{event_of}
use Rattle.text.specs.Line.{decimal, signed_decimal, line_of}
use Rattle.rules.specs.declared.Entry.{Entry}
use Rattle.rules.specs.Rules.{fresh}
use Rattle.engine.specs.Transcript.{Line, transcript, record_of_line}
use Rattle.ledger.specs.Example.{example_sheets, example_entries, example_rows}
use Rattle.ledger.proofs.Example.{example}
use Rattle.format.specs.Header.{well_formed}
use Rattle.entries.specs.Entries.{entry_of}
use Rattle.forms.specs.declared.Form.{Form}
use Rattle.session.specs.Transcript.{entries_of, transcript_of}
use Rattle.forms.specs.Forms.{emitted_from}
use Rattle.printing.specs.Text.{printed_of}
use Rattle.claims.specs.Example.{example_file, example_text, ExamplePrinted}

well : well_formed example_file ≡ true
unfolding well_formed
well = refl

entries : entries_of example_file ≡ example_entries
unfolding signed event_of entry_of
entries = refl

records : map record_of_line (transcript_of example_file) ≡ example_rows
records = ap (λ (es : List Entry). map record_of_line (transcript example_sheets fresh es)) entries ∙ example.rows

-- the lines go by the records alone
printed_rows : ℕ → List AnswerRecord → List ℕ
printed_rows ordinal [] = []
printed_rows ordinal (a ∷ rest) = line_of ordinal a ++ printed_rows (ordinal + 1) rest

by_records : (ordinal : ℕ) (ls : List Line) → emitted_from Form.Lines ordinal ls ≡ printed_rows ordinal (map record_of_line ls)
unfolding printed_rows
by_records ordinal [] = refl
by_records ordinal (l ∷ ls) = ap (λ (rest : List ℕ). line_of ordinal (record_of_line l) ++ rest) (by_records (ordinal + 1) ls)

lines : printed_rows 1 example_rows ≡ example_text
unfolding printed_rows decimal signed_decimal line_of
lines = refl

pub example_printed : ExamplePrinted
unfolding printed_of
example_printed = rw well (by_records 1 (transcript_of example_file) ∙ ap (printed_rows 1) records ∙ lines)
