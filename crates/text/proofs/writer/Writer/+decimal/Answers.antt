-- a number of one digit is put as it is, any other by the digits of its tenth and its last one
use native.Mathlib.Omega.{arith}
use Rattle.text.proofs.Writing.{writes_both}
use Rattle.text.proofs.Decimal.{one_digit, last_digit, one_long, one_longer}
use Rattle.text.proofs.writer.Writer.+decimal.Goals as goal

pub byte-requires : goal.byte-requires
byte-requires t c = omega (arith, one_long c.args.n (omega arith))

pub decimal-requires : goal.decimal-requires
decimal-requires t c = let e = one_longer c.args.n (omega arith) (omega arith) in (omega arith, omega arith)

pub byte-requires-else-n-lt10 : goal.byte-requires-else-n-lt10
byte-requires-else-n-lt10 t c = let e = one_longer c.args.n (omega arith) (omega arith) in omega (arith)

pub returns-then-n-lt10 : goal.returns-then-n-lt10
returns-then-n-lt10 t c = rw (one_digit c.args.n (omega arith)) c.byte.ensures

pub returns-else-n-lt10 : goal.returns-else-n-lt10
returns-else-n-lt10 t c =
    rw (last_digit c.args.n (omega arith) (omega arith)) (writes_both c.decimal.ensures c.byte-else-n-lt10.ensures)
