-- What the program prints, in its three cases: too long, not well-formed, and a line for each event. Assumes nothing.
use Prim.Native.Nat.{ℕ, ◌*◌, ◌≤◌, ◌<◌}
use native.Mathlib.Omega.{arith}
use mathlib.Core.Bool.{Bool, true, false}
use mathlib.Core.List.{List}
use mathlib.Core.Path.{◌≡◌, refl, sym, ◌∙◌}
use borrow.Author.Tests.{le-leb, lt-leb}
use lib.ListN.{length}
use Rattle.layout.specs.Lent.{Puts}
use Rattle.layout.proofs.Lent.{fills_puts, fills_kept}
use Rattle.text.specs.Line.{line_room}
use Rattle.format.specs.Header.{well_formed}
use Rattle.format.proofs.Shape.{shape}
use Rattle.forms.specs.declared.Form.{Form}
use Rattle.answers.specs.Run.{FillsAs}
use Rattle.printing.specs.Text.{refused_line, lines_of, printed_of}
use Rattle.answers.proofs.Outcome.{status_0, served}

module _ (file : List ℕ) where
  pub prints_long : 65536 < length file → printed_of file ≡ refused_line
  unfolding printed_of
  prints_long h = rw (lt-leb (length file) 65536 h)

  module _ {old out : List ℕ} {status written : ℕ} (l : length file ≤ 65536) (f : FillsAs Form.Lines file old status written out) where
    -- with room for 2,700 lines only the header or the length is a reason
    unformed : line_room * 2700 ≤ length old → (status ≡ 0 → ⊥) → well_formed file ≡ false
    unformed r h = go (well_formed file) refl
      where
        go : (w : Bool) → well_formed file ≡ w → w ≡ false
        go true w = absurd (h (f.ended ∙ sym (status_0 Form.Lines file (length old) w (omega (arith, shape file w)))))
        go false w = refl

    pub prints_refused : line_room * 2700 ≤ length old → (status ≡ 0 → ⊥) → (printed_of file ≡ refused_line) × (out ≡ old)
    unfolding printed_of
    prints_refused r h = (rw (le-leb (length file) 65536 l, unformed r h), (fills_kept f (λ z. h (f.ended ∙ z))).1)

    pub prints_lines : status ≡ 0 → Puts old 0 (printed_of file) out written
    unfolding printed_of
    prints_lines z =
        let p : printed_of file ≡ lines_of file = rw (le-leb (length file) 65536 l, (served Form.Lines file (length old) f.ended z).formed) in
        rw p (fills_puts f (sym f.ended ∙ z))
