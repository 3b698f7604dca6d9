-- `figures::put_ordinal` meets its contract: the digits over the right end of spaces. Assumes nothing.
use native.Mathlib.Omega.{arith}
use Rattle.text.specs.Line.{decimal}
use Rattle.figures.proofs.Columns.{in_column, ordinal_most}
use Rattle.figures.proofs.put_ordinal.Goals as goal

pub decimal-requires : goal.decimal-requires
decimal-requires c =
    omega (arith, ordinal_most c.args.n c.requires.1, c.put_text.ensures.puts.ends)

pub returns : goal.returns
returns c =
    let n = c.args.n in
    let m = ordinal_most n c.requires.1 in
    let p = c.put_text.ensures in
    let q = in_column 6 (decimal n) m p c.decimal.ensures (omega (arith, p.puts.ends, c.digits.ensures)) in
    record { puts = q.0; value = q.1 }

pub overflow_sub-to : goal.overflow_sub-to
overflow_sub-to c = omega (arith, ordinal_most c.args.n c.requires.1, c.put_text.ensures.puts.ends)
