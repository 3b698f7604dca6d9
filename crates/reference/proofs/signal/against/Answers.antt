-- `against` meets its contract: sum, product and difference fit. Assumes nothing.
use mathlib.Core.Path.{◌≡◌, ◌∙◌}
use Prim.Native.Nat.{ℕ, ◌<◌, ◌≤◌}
use native.Mathlib.Omega.{arith}
use borrow.Author.Rules.{rules}
use mir.Facts.{to_z-of_z}
use mir.Syntax.{w64}
use mir.Val.{SFits}
use lib.IntN.{ℤ, pos, nat_abs, ◌+ℤ◌, ◌*ℤ◌}
use Rattle.rounding.specs.Near.{nearest}
use Rattle.rounding.proofs.Integers.{abs_add, abs_mul, prod}
use Rattle.rounding.proofs.Nearest.{near_size}
use Rattle.reference.specs.Signal.{against_of}
use Rattle.reference.proofs.signal.against.Goals as goal
use Rattle.reference.proofs.signal.against.Goals.{After-near_scaled, After-sum}

sum_is : (c : After-sum) → c.sum.result ≡ pos c.args.r +ℤ c.args.v
sum_is c =
    let fv = c.ranges.v in
    let fp : SFits w64 c.positive.result = search rules in
    rw c.positive.ensures at (simp to_z-of_z at c.sum.ensures)

share_is : (c : After-near_scaled) → let p = c.args in c.near_scaled.result ≡ nearest (p.v *ℤ pos p.r) p.k
share_is c = let fv = c.ranges.v in simp to_z-of_z at c.near_scaled.ensures

-- a share over a divisor of 1 or more is no larger than the product
share_size : (v : ℤ) (r k : ℕ) → nat_abs v ≤ 340000000 → r ≤ 150000000 → 0 < k → nat_abs (nearest (v *ℤ pos r) k) ≤ 51000000000000000
share_size v r k h l p =
    near_size (v *ℤ pos r) 51000000000000000 p
    (rw (abs_mul v (pos r)) (omega (arith, prod 340000000 150000000 h l)))

pub difference-requires : goal.difference-requires
difference-requires c =
    let fs : SFits w64 c.sum.result = search rules in
    let fn : SFits w64 c.near_scaled.result = search rules in
    simp to_z-of_z (rw (sum_is (goal.at.difference-requires c).After-sum, share_is (goal.at.difference-requires c).After-near_scaled) (omega (arith, abs_add (pos c.args.r) c.args.v, share_size c.args.v c.args.r c.args.k c.requires.0 c.requires.1 c.requires.2)))

pub returns : goal.returns
unfolding against_of
returns c =
    let fs : SFits w64 c.sum.result = search rules in
    let fn : SFits w64 c.near_scaled.result = search rules in
    let r : SFits w64 c.difference.result = search rules in
    to_z-of_z r ∙ rw (sum_is (goal.at.returns c).After-sum, share_is (goal.at.returns c).After-near_scaled) at (simp to_z-of_z at c.difference.ensures)
