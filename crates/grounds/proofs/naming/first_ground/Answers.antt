-- `grounds::naming::first_ground` meets its contract: each test is made where those before it fail, and where all three fail a reading that is over
-- range has too high a wet value. Assumes nothing.
use mathlib.Core.Bool.{Bool}
use mathlib.Core.Path.{◌≡◌}
use native.Mathlib.Omega.{arith}
use borrow.Author.Rules.{rules}
use mir.Facts.{to_z-of_z, to_z_pos}
use mir.Syntax.{w64}
use mir.Val.{SFits, to_z, of_z}
use lib.IntN.{ℤ, pos}
use lib.Signed.{lt_z, le_z}
use Rattle.rounding.proofs.Tests.{lt_false, size_between}
use Rattle.curve.specs.declared.Sheet.{Sheet}
use Rattle.curve.specs.declared.Air.{Air}
use Rattle.curve.specs.Limits.{SheetOk}
use Rattle.curve.specs.Curve.{reduced_of}
use Rattle.curve.specs.Absolute.{lowest_signal}
use Rattle.grounds.specs.Grounds.{first_ground}
use Rattle.grounds.proofs.Signals.{not_low, the_last}
use Rattle.grounds.proofs.naming.first_ground.Goals as goal

-- the tests of the code, in the parameters' terms
high : {v : ℤ} {b : Bool} → SFits w64 v → lt_z (pos 150000000) (to_z w64 (of_z w64 v)) ≡ b → lt_z (pos 150000000) v ≡ b
high f e = simp to_z-of_z at e

at_k : {s : Sheet} {v : ℤ} {b : Bool} → SheetOk s → SFits w64 v → le_z (to_z w64 s.k) (to_z w64 (of_z w64 v)) ≡ b → le_z (pos s.k) v ≡ b
at_k {s} o f e = rw (to_z_pos w64 {n = s.k} (omega (arith, o))) at (simp to_z-of_z at e)

z_high : {v z : ℤ} (a : Air) {b : Bool} → SFits w64 v → SFits w64 z → z ≡ reduced_of (to_z w64 (of_z w64 v)) a
    → lt_z (pos 100000000) (to_z w64 (of_z w64 z)) ≡ b → lt_z (pos 100000000) (reduced_of v a) ≡ b
z_high a f g r e = rw (simp to_z-of_z at r) at (simp to_z-of_z at e)

pub reduced-requires : goal.reduced-requires
reduced-requires c =
    let v = c.args.v in
    let f = c.ranges.v in
    let bottom = lt_false v lowest_signal (not_low _ v _ c.requires.2) in
    simp to_z-of_z (size_between (omega arith) bottom (lt_false (pos 150000000) v (high f c.if-v-gt150000000.false)), c.requires.1)

pub returns-then-v-gt150000000 : goal.returns-then-v-gt150000000
unfolding first_ground
returns-then-v-gt150000000 c = rw (high c.ranges.v c.if-v-gt150000000.true)

pub returns-then-v-s : goal.returns-then-v-s
unfolding first_ground
returns-then-v-s c = rw (high c.ranges.v c.if-v-gt150000000.false, at_k c.requires.0 c.ranges.v c.if-v-s.true)

pub returns-then-reduced-gt100000000 : goal.returns-then-reduced-gt100000000
unfolding first_ground
returns-then-reduced-gt100000000 c =
    let g : SFits w64 c.reduced.result = search rules in
    rw (
      high c.ranges.v c.if-v-gt150000000.false,
      at_k c.requires.0 c.ranges.v c.if-v-s.false,
      z_high c.args.a c.ranges.v g c.reduced.ensures c.if-reduced-gt100000000.true,
    )

pub returns : goal.returns
unfolding first_ground
returns c =
    let g : SFits w64 c.reduced.result = search rules in
    let h = high c.ranges.v c.if-v-gt150000000.false in
    let k = at_k c.requires.0 c.ranges.v c.if-v-s.false in
    let z = z_high c.args.a c.ranges.v g c.reduced.ensures c.if-reduced-gt100000000.false in
    rw (h, k, z, the_last _ _ _ c.requires.2 h k z)
