-- `figures::put_hundredths` meets its contract: the sign's byte and the hundredths over the right end of spaces. Assumes nothing.
use native.Mathlib.Omega.{arith}
use mathlib.Core.List.{◌∷◌}
use Rattle.text.proofs.Writing.{writes_both}
use Rattle.figures.specs.Figures.{pointed}
use Rattle.figures.proofs.Columns.{in_column, whole_most, pointed_length}
use Rattle.figures.proofs.put_hundredths.Goals as goal

pub put_pointed-requires : goal.put_pointed-requires
put_pointed-requires c =
    let n = c.args.n in
    omega (arith, whole_most n c.requires.1, pointed_length n, c.put_text.ensures.puts.ends, c.byte.ensures.puts.ends, c.digits.ensures)

pub returns : goal.returns
returns c =
    let n = c.args.n in
    let w = whole_most n c.requires.1 in
    let l = pointed_length n in
    let p = c.put_text.ensures in
    let q = in_column 14 (c.args.sign ∷ pointed n) (omega arith) p (writes_both c.byte.ensures c.put_pointed.ensures)
    (omega (arith, p.puts.ends, c.digits.ensures)) in
    record { puts = q.0; value = q.1 }

pub overflow_sub-to : goal.overflow_sub-to
overflow_sub-to c = omega (arith, whole_most c.args.n c.requires.1, c.put_text.ensures.puts.ends)

pub overflow_add-to : goal.overflow_add-to
overflow_add-to c = omega (arith, whole_most c.args.n c.requires.1, c.digits.ensures)
