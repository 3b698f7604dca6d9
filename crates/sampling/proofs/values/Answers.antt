-- `values` meets its contract: an accepted value is within 3,000,000,000. Assumes nothing.
use mathlib.Core.Path.{◌≡◌, sym, ◌∙◌}
use mir.Facts.{to_z-of_z}
use mir.Syntax.{w64}
use mir.Val.{SFits}
use Rattle.curve.specs.Absolute.{absolute_of}
use Rattle.curve.proofs.Accepted.{accepted, value_size}
use borrow.Author.Rules.{rules}
use Rattle.sampling.proofs.values.Goals as goal
use Rattle.sampling.proofs.values.Goals.{After-absolute}

reading_is : (c : After-absolute) → c.absolute.result ≡ absolute_of c.args.s c.args.v c.args.a
reading_is c = let f = c.ranges.v in simp to_z-of_z at c.absolute.ensures

pub dry-requires : goal.dry-requires
dry-requires c =
    let f : SFits w64 c.in_ok-wet.wet = search rules in
    let h = accepted c.args.s c.args.v c.args.a _ (sym (reading_is (goal.at.dry-requires c).After-absolute) ∙ c.in_ok-wet.was) in
    simp to_z-of_z (value_size c.args.s c.args.a c.requires.0 c.requires.1 h, c.requires.1)
