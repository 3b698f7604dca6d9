-- `figures::put_pointed` meets its contract: the digits of the whole part, a point, and two digits. Assumes nothing.
use native.Mathlib.Omega.{arith}
use Rattle.figures.proofs.Columns.{pointed_length, pointed_put}
use Rattle.figures.proofs.put_pointed.Goals as goal

pub decimal-requires : goal.decimal-requires
decimal-requires c = omega (arith, pointed_length c.args.n)

pub byte-requires : goal.byte-requires
byte-requires c = omega (arith, pointed_length c.args.n)

pub byte-requires-2 : goal.byte-requires-2
byte-requires-2 c = omega (arith, pointed_length c.args.n)

pub byte-requires-3 : goal.byte-requires-3
byte-requires-3 c = omega (arith, pointed_length c.args.n)

pub returns : goal.returns
returns c =
    pointed_put c.args.n c.decimal.ensures c.byte.ensures c.byte-2.ensures c.byte-3.ensures
