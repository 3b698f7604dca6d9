-- What is put of an event in each form, with the record or the number as the code makes it: an entry has its record's kind byte. And the
-- room of any form. Assumes nothing.
use Prim.Native.Nat.{ℕ, ◌≤◌}
use native.Mathlib.Omega.{arith}
use mathlib.Core.List.{[], ◌∷◌}
use mathlib.Core.Path.{◌≡◌}
use Rattle.std.specs.Prelude.{Option}
use Rattle.layout.specs.declared.AnswerRecord.{AnswerRecord}
use Rattle.layout.specs.declared.EventRecord.{EventRecord}
use Rattle.layout.specs.Records.{answer_bytes}
use Rattle.text.specs.Line.{line_of}
use Rattle.rules.specs.declared.State.{State}
use Rattle.rules.specs.declared.Entry.{Entry}
use Rattle.rules.specs.declared.Stepped.{Stepped}
use Rattle.engine.specs.Transcript.{line_at, record_of_line, record_with}
use Rattle.entries.specs.Entries.{entry_of}
use Rattle.grounds.specs.declared.Ground.{Ground}
use Rattle.grounds.specs.Grounds.{ground_number, entry_ground}
use Rattle.forms.specs.declared.Form.{Form}
use Rattle.forms.specs.Forms.{emitted, room_of}
use Rattle.entries.proofs.KindByte.{kind_kept}

module _ (st : State) (event : EventRecord) (next : Stepped) {a : AnswerRecord} (e : a ≡ record_with event.kind next.answer) where
  record_is : record_of_line (line_at st (entry_of event) next) ≡ a
  record_is = rw (e, kind_kept event)

  pub records_are : {form : Form} (ordinal : ℕ) → form ≡ Form.Records → emitted form ordinal (line_at st (entry_of event) next) ≡ answer_bytes a
  records_are ordinal f = rw (f, record_is)

  pub lines_are : {form : Form} (ordinal : ℕ) → form ≡ Form.Lines → emitted form ordinal (line_at st (entry_of event) next) ≡ line_of ordinal a
  lines_are ordinal f = rw (f, record_is)

-- the ground, by its number
pub grounds_are : (st : State) (entry : Entry) (next : Stepped) {n : ℕ} {g : Option Ground} → n ≡ ground_number g → g ≡ entry_ground st entry
    → {form : Form} (ordinal : ℕ) → form ≡ Form.Grounds → emitted form ordinal (line_at st entry next) ≡ n ∷ []
grounds_are st entry next e g ordinal f = rw (f, e, g)

-- no form asks more
pub room_most : (form : Form) → room_of form ≤ 72
room_most Form.Records = omega arith
room_most Form.Lines = omega arith
room_most Form.Grounds = omega arith
