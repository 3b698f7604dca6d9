-- one digit, or one more than the number's tenth has
use native.Mathlib.Omega.{arith}
use Rattle.std.proofs.Common.{◌/◌}
use Rattle.text.proofs.Decimal.{one_to_twenty, one_long, one_longer}
use Rattle.text.proofs.+digits.Goals as goal

pub overflow_add-result : goal.overflow_add-result
overflow_add-result t c = omega (arith, one_to_twenty (c.args.n / 10) (omega arith))

pub returns-then-n-ge10 : goal.returns-then-n-ge10
returns-then-n-ge10 t c = omega (arith, one_longer c.args.n (omega arith) (omega arith))

pub returns-else-n-ge10 : goal.returns-else-n-ge10
returns-else-n-ge10 t c = omega (arith, one_long c.args.n (omega arith))
