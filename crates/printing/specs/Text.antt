-- What document 01's program prints: a line for each event, in ASCII. Assumes nothing.
use Rattle.std.specs.Prelude.{ℕ, ◌&&◌, cond, List, leb, pos, length}
use Rattle.text.specs.Line.{line_of}
use Rattle.format.specs.Header.{well_formed}
use Rattle.forms.specs.declared.Form.{Form}
use Rattle.answers.specs.Run.{emitted_of}

-- the lines of a well-formed file, ordinals from 1
abbrev pub lines_of : List ℕ → List ℕ
lines_of file = emitted_of Form.Lines file

-- what a refused file prints: 0 0 12 0 0 0
abbrev pub refused_line : List ℕ
refused_line = line_of 0 (record { kind = 0; refusal = 12; m = 0; x = pos 0; y = pos 0 })

-- what the program prints: a file over 65,536 bytes, or one that is not well-formed, is refused
unfoldable pub printed_of : List ℕ → List ℕ
printed_of file = cond (leb (length file) 65536 && well_formed file) (lines_of file) refused_line
