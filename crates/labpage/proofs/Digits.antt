-- What a digit that may follow a number tells of both. Assumes nothing.
use Prim.Native.Nat.{ℕ, ◌≤◌}
use mathlib.Core.Bool.{true}
use mathlib.Core.Path.{◌≡◌}
use borrow.Author.Tests.{leb-true}
use lib.Dec.{leb}
use Rattle.curve.specs.Limits.{within}
use Rattle.curve.proofs.Within.{both, range}
use Rattle.labpage.specs.Number.{follows}

-- what a digit that follows tells
pub digit : {n b : ℕ} → follows n b ≡ true → (n ≤ 99) × (48 ≤ b) × (b ≤ 57)
unfolding follows
digit {n} {b} e =
    let x = both (leb n 99) (within 48 57 b) e in
    let r = range 48 57 b x.1 in
    (leb-true n 99 x.0, r.0, r.1)
