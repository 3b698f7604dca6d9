-- `Writer::signed` meets its contract: below 0 a minus sign and the digits, else the digits. Assumes nothing.
use native.Mathlib.Omega.{arith}
use mathlib.Core.List.{◌∷◌}
use mathlib.Core.Path.{◌≡◌, ap, refl}
use lib.ListN.{length}
use mir.Facts.{to_z-of_z}
use Rattle.text.proofs.Writing.{writes_both}
use Rattle.text.specs.Line.{decimal, signed_decimal}
use Rattle.text.proofs.Decimal.{with_minus, as_it_is}
use Rattle.text.proofs.writer.Writer.signed.Goals as goal
use Rattle.text.proofs.writer.Writer.signed.Goals.{Else-x-lt0, Then-x-lt0}

-- the text by its sign, on each side of the test
minus : (c : Then-x-lt0) → signed_decimal c.args.x ≡ 45 ∷ decimal c.unsigned_abs-size.result
minus c = with_minus (to_z-of_z c.ranges.x) c.unsigned_abs-size.ensures.value refl c.if-x-lt0.true

plain : (c : Else-x-lt0) → signed_decimal c.args.x ≡ decimal c.unsigned_abs-size.result
plain c = as_it_is (to_z-of_z c.ranges.x) c.unsigned_abs-size.ensures.value refl c.if-x-lt0.false

pub byte-requires : goal.byte-requires
byte-requires c = omega (arith, ap length (minus (goal.at.byte-requires c).Then-x-lt0))

pub decimal-requires : goal.decimal-requires
decimal-requires c = omega (arith, ap length (minus (goal.at.decimal-requires c).Then-x-lt0))

pub decimal-requires-else-x-lt0 : goal.decimal-requires-else-x-lt0
decimal-requires-else-x-lt0 c = omega (arith, ap length (plain (goal.at.decimal-requires-else-x-lt0 c).Else-x-lt0))

pub returns-then-x-lt0 : goal.returns-then-x-lt0
returns-then-x-lt0 c =
    rw (minus (goal.at.returns-then-x-lt0 c).Then-x-lt0) (writes_both c.byte.ensures c.decimal.ensures)

pub returns-else-x-lt0 : goal.returns-else-x-lt0
returns-else-x-lt0 c = rw (plain (goal.at.returns-else-x-lt0 c).Else-x-lt0) c.decimal-else-x-lt0.ensures
