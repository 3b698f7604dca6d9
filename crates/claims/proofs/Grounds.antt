-- The claims on a file's grounds: byte i of the output is the number of the ground at line i, which is named exactly where that line is answered
-- with 8, and that answer stands in the run's record i. Assumes nothing.
use Prim.Native.Nat.{ℕ, zero, suc, ◌+◌, ◌≤◌, ◌<◌}
use native.Mathlib.Nat.{zero-add}
use native.Mathlib.Omega.{arith}
use mathlib.Core.Bool.{true, false}
use mathlib.Core.List.{List, [], ◌∷◌, ◌++◌}
use mathlib.Core.Option.{some, some-injective}
use mathlib.Core.Path.{◌≡◌, refl, sym, ap, subst, ◌∙◌}
use borrow.Author.Tests.{eq-eqb, ne_eqb}
use lib.Dec.{T, eqb}
use lib.ListN.{length, drop, get_elem?}
use lib.Seq.{drop_at}
use Rattle.std.specs.Prelude.{Option, Some, None, is_some}
use Rattle.layout.specs.Lent.{Puts}
use Rattle.layout.proofs.Lent.{puts_length, fills_puts}
use Rattle.rules.specs.Answer.{refusal_of}
use Rattle.engine.specs.Transcript.{Line}
use Rattle.grounds.specs.declared.Ground.{Ground}
use Rattle.grounds.specs.Grounds.{ground_number, entry_ground}
use Rattle.grounds.proofs.Promises.{exactly}
use Rattle.format.specs.Header.{event_count, well_formed, sheets_of}
use Rattle.forms.specs.declared.Form.{Form}
use Rattle.forms.specs.Forms.{emitted_from}
use Rattle.session.specs.Transcript.{transcript_of}
use Rattle.answers.specs.Run.{emitted_of, status_as, FillsAs}
use Rattle.answers.proofs.Outcome.{status_0, status_12, status_13}
use Rattle.claims.specs.Claim.{LineIs}
use Rattle.claims.specs.Grounds.{Tells, EventGrounded, Grounded, EveryGrounds, BesideTheRun}
use Rattle.claims.proofs.Claim.{element, file_lines, line_entry, every_line_of, line_read, kept}

-- ---- the byte of a line
number_named : (g : Option Ground) → is_some g ≡ true → (1 ≤ ground_number g) × (ground_number g ≤ 4)
number_named None e = absurd (subst T (sym e) tt)
number_named (Some Ground.SignalHigh) e = (omega arith, omega arith)
number_named (Some Ground.SignalAtK) e = (omega arith, omega arith)
number_named (Some Ground.ReducedHigh) e = (omega arith, omega arith)
number_named (Some Ground.WetHigh) e = (omega arith, omega arith)

number_none : (g : Option Ground) → is_some g ≡ false → ground_number g ≡ 0
number_none None e = refl
number_none (Some g) e = absurd (subst T e tt)

abbrev ground_in : Line → Option Ground
ground_in l = entry_ground l.before l.entry

line_named : (file : List ℕ) (i : ℕ) (l : Line) → LineIs file i l → is_some (ground_in l) ≡ eqb (refusal_of l.answer) 8
line_named file = every_line_of (λ (l : Line). is_some (ground_in l) ≡ eqb (refusal_of l.answer) 8) file (exactly (sheets_of file))

line_tells : (file : List ℕ) (i : ℕ) (l : Line) → LineIs file i l → Tells (refusal_of l.answer) (ground_number (ground_in l))
line_tells file i l is =
    let n = line_named file i l is in
    record { named = λ e. number_named (ground_in l) (n ∙ eq-eqb _ 8 e); none = λ h. number_none (ground_in l) (n ∙ ne_eqb _ 8 h) }

-- ---- the bytes of the lines, with what follows
byte_in : (ordinal : ℕ) (ls : List Line) (rest : List ℕ) (i : ℕ) (l : Line) → get_elem? ls i ≡ some l
    → get_elem? (emitted_from Form.Grounds ordinal ls ++ rest) i ≡ some (ground_number (ground_in l))
byte_in ordinal [] rest i l e = let z : ◌≡◌ {A = ℕ} 0 1 = cc in absurd (omega arith)
byte_in ordinal (k ∷ ks) rest zero l e = ap (λ (m : Line). some (ground_number (ground_in m))) (some-injective k l e)
byte_in ordinal (k ∷ ks) rest (suc i) l e = byte_in (ordinal + 1) ks rest i l e

length_bytes : (ordinal : ℕ) (ls : List Line) → length (emitted_from Form.Grounds ordinal ls) ≡ length ls
length_bytes ordinal [] = refl
length_bytes ordinal (l ∷ ls) = ap suc (length_bytes (ordinal + 1) ls)

-- ---- of a file whose grounds are given
module _ (file old : List ℕ) (w : well_formed file ≡ true) (h : event_count file ≤ length old)
    {status written : ℕ} {out : List ℕ} (f : FillsAs Form.Grounds file old status written out) where
  status_is : 0 ≡ status_as Form.Grounds file (length old)
  status_is = status_0 Form.Grounds file (length old) w (omega arith)

  put : Puts old 0 (emitted_of Form.Grounds file) out written
  put = fills_puts f (sym status_is)

  length_put : length (emitted_of Form.Grounds file) ≡ event_count file
  length_put = length_bytes 1 (transcript_of file) ∙ file_lines file

  output_is : out ≡ emitted_of Form.Grounds file ++ drop (event_count file) old
  output_is = put.stands ∙ rw (length_put, zero-add)

  byte_is : (i : ℕ) (l : Line) → LineIs file i l → get_elem? out i ≡ some (ground_number (ground_in l))
  byte_is i l is = rw output_is (byte_in 1 (transcript_of file) _ i l is)

  event_grounded : (i : ℕ) → i < event_count file → EventGrounded file out i
  event_grounded i b =
      let found = element (transcript_of file) i (omega (arith, file_lines file)) in
      let l = found.0 in
      record {
        line = l;
        is = found.1;
        entry = line_entry file i l found.1;
        byte = byte_is i l found.1;
        tells = line_tells file i l found.1;
      }

  grounded : Grounded file old status written out
  grounded =
      record {
        accepted = f.ended ∙ sym status_is;
        bytes = omega (arith, put.ends, length_put);
        lines = file_lines file;
        events = event_grounded;
        size = puts_length put;
        after = rw (output_is, drop_at (emitted_of Form.Grounds file) (drop (event_count file) old) (event_count file) length_put);
      }

pub every_grounds : EveryGrounds
every_grounds file old status written out f =
    record {
      malformed = λ w. kept Form.Grounds file old f (status_12 Form.Grounds file (length old) w) (λ z. omega arith);
      short = λ w h. kept Form.Grounds file old f (status_13 Form.Grounds file (length old) w (omega arith)) (λ z. omega arith);
      long = λ w h. grounded file old w h f;
    }

pub beside_the_run : BesideTheRun
beside_the_run file room old are w h k status written status' written' ran out f g i b =
    let e = event_grounded file old w k g i b in
    let l = e.line in
    (ground_number (ground_in l), e.byte, rw (line_read file room w h f i l e.is are) e.tells)
