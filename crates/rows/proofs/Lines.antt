-- A line of the page is 73 bytes, 72 of them text: four columns of their widths, spaces and a line feed. Assumes nothing.
use Prim.Native.Nat.{ℕ, ◌≤◌, ◌<◌}
use native.Mathlib.Omega.{arith}
use mathlib.Core.Bool.{true}
use mathlib.Core.List.{List, [], ◌∷◌, ◌++◌, append_assoc}
use mathlib.Core.Path.{◌≡◌, refl}
use lib.IntN.{ℤ, pos, nat_abs, ◌-ℤ◌}
use lib.ListN.{length, length-append}
use Rattle.rounding.proofs.Integers.{abs_sub}
use Rattle.text.specs.declared.writer.Writer.{Writer}
use Rattle.text.specs.Line.{decimal}
use Rattle.text.specs.Writing.{Writes}
use Rattle.text.proofs.Writing.{writes_both}
use Rattle.sampling.specs.declared.Mode.{Mode}
use Rattle.sampling.specs.Sample.{mode_within}
use Rattle.sampling.proofs.Within.{gas_in}
use Rattle.figures.specs.Figures.{spaces, right, figure, Between}
use Rattle.figures.proofs.Columns.{right_length, ordinal_most, figure_length}
use Rattle.figures.proofs.Figures.{between_append, between_decimal, text_spaces, text_figure, text_right}
use Rattle.rows.specs.Rows.{columns, third_of, sample_line, header_line, Wide}

-- ---- a text that fits its column
pub record Fitting (width : ℕ) (s : List ℕ) : Type 0 where
  pub fits : length s ≤ width
  pub text : Between 32 126 s

-- four such texts make a line: what stands before its line feed has 72 columns
abbrev row : List ℕ → List ℕ → List ℕ → List ℕ → List ℕ
row a b c d = right 6 a ++ right 14 b ++ right 14 c ++ right 14 d ++ spaces 24

lined : (a b c d : List ℕ) → Fitting 6 a → Fitting 14 b → Fitting 14 c → Fitting 14 d → Wide (columns a b c d)
unfolding columns
lined a b c d fa fb fc fd =
    let ta = text_right 6 a fa.text in
    let tb = text_right 14 b fb.text in
    let tc = text_right 14 c fc.text in
    let td = text_right 14 d fd.text in
    let t2 = between_append 32 126 (right 6 a) (right 14 b) ta tb in
    let t3 = between_append 32 126 (right 6 a ++ right 14 b) (right 14 c) t2 tc in
    let t4 = between_append 32 126 (right 6 a ++ right 14 b ++ right 14 c) (right 14 d) t3 td in
    record {
      row = row a b c d;
      ends = refl;
      width =
          simp length-append
          (omega (
            arith,
            right_length 6 a fa.fits,
            right_length 14 b fb.fits,
            right_length 14 c fc.fits,
            right_length 14 d fd.fits,
          ));
      text = between_append 32 126 (right 6 a ++ right 14 b ++ right 14 c ++ right 14 d) (spaces 24) t4 (text_spaces 24);
    }

pub wide_length : {line : List ℕ} → Wide line → length line ≡ 73
wide_length r = rw (r.ends, length-append) (omega (arith, r.width))

-- ---- the header line, and the line of a sample
pub header_wide : Wide header_line
header_wide =
    lined (110 ∷ 111 ∷ []) (119 ∷ 101 ∷ 116 ∷ []) (100 ∷ 114 ∷ 121 ∷ []) (100 ∷ 105 ∷ 102 ∷ 102 ∷ [])
    (record { fits = omega arith; text = (omega arith, omega arith, (omega arith, omega arith, tt)) })
    (record { fits = omega arith; text = (omega arith, omega arith, (omega arith, omega arith, (omega arith, omega arith, tt))) })
    (record { fits = omega arith; text = (omega arith, omega arith, (omega arith, omega arith, (omega arith, omega arith, tt))) })
    (record { fits = omega arith; text = (omega arith, omega arith, (omega arith, omega arith, (omega arith, omega arith, (omega arith, omega arith, tt)))) })

fitting_ordinal : (n : ℕ) → n < 1000000 → Fitting 6 (decimal n)
fitting_ordinal n h = record { fits = ordinal_most n h; text = between_decimal (omega arith) (omega arith) n }

fitting_figure : (x : ℤ) → nat_abs x ≤ 9990000000000000 → Fitting 14 (figure x)
fitting_figure x h = record { fits = figure_length x h; text = text_figure x }

-- Cr is at most 3 × 10^9
pub third_most : (mode : Mode) (wet : ℤ) → mode_within mode ≡ true → nat_abs wet < 9007199254740992 → Fitting 14 (third_of mode wet)
third_most Mode.Absolute wet m w = record { fits = omega arith; text = tt }
third_most (Mode.Against gas) wet m w =
    fitting_figure (wet -ℤ pos gas.c) (omega (arith, abs_sub wet (pos gas.c), (gas_in {gas = gas} m refl).c))

module _ (ordinal : ℕ) (mode : Mode) (wet dry : ℤ) (o : ordinal < 1000000) (m : mode_within mode ≡ true) (w : nat_abs wet < 9007199254740992)
    (d : nat_abs dry < 9007199254740992) where
  pub sample_wide : Wide (sample_line ordinal mode wet dry)
  sample_wide =
      lined (decimal ordinal) (figure wet) (figure dry) (third_of mode wet) (fitting_ordinal ordinal o) (fitting_figure wet (omega arith))
      (fitting_figure dry (omega arith)) (third_most mode wet m w)

-- ---- a line put piece by piece
pub line_put : (a b c d : List ℕ) {w0 w1 w2 w3 w4 w5 : Writer} → Writes w0 (right 6 a) w1 → Writes w1 (right 14 b) w2
    → Writes w2 (right 14 c) w3 → Writes w3 (right 14 d) w4 → Writes w4 (spaces 24 ++ (10 ∷ [])) w5 → Writes w0 (columns a b c d) w5
unfolding columns
line_put a b c d f1 f2 f3 f4 f5 =
    rw (append_assoc (right 6 a ++ right 14 b ++ right 14 c ++ right 14 d) (spaces 24) (10 ∷ []))
    (writes_both (writes_both (writes_both (writes_both f1 f2) f3) f4) f5)
