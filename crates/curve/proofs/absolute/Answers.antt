-- `absolute` meets its contract: each test is made where those before it fail, and leaves V and z small enough for what
-- follows. Assumes nothing.
use mathlib.Core.Path.{◌≡◌}
use native.Mathlib.Omega.{arith}
use borrow.Author.Rules.{rules}
use mir.Facts.{to_z-of_z}
use mir.Syntax.{w64}
use mir.Val.{SFits}
use lib.IntN.{pos}
use Rattle.rounding.proofs.Tests.{lt_false, size_between}
use Rattle.curve.specs.Curve.{reduced_of}
use Rattle.curve.specs.Absolute.{lowest_signal}
use Rattle.curve.proofs.Order.{reduced_mono}
use Rattle.curve.proofs.Sizes.{lowest_z}
use Rattle.curve.proofs.absolute.Goals as goal

pub wet-c-requires : goal.wet-c-requires
wet-c-requires c =
    let fv = c.ranges.v in
    let fz : SFits w64 c.reduced-z.result = search rules in
    let z : c.reduced-z.result ≡ reduced_of c.args.v c.args.a = simp to_z-of_z at c.reduced-z.ensures in
    let bottom = reduced_mono c.args.a c.requires.1 (lt_false c.args.v lowest_signal (simp to_z-of_z at c.if-v-ltminus2000000.false)) in
    let size = lowest_z c.args.a c.requires.1 in
    let top = lt_false (pos 100000000) (reduced_of c.args.v c.args.a) (rw z at (simp to_z-of_z at c.if-z-gt100000000.false)) in
    simp to_z-of_z (c.requires.0, rw z (size_between (omega arith) bottom top), c.requires.1)
