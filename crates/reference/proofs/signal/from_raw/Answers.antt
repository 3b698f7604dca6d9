-- `from_raw` meets its contract: difference and product fit. Assumes nothing.
use mathlib.Core.Path.{◌≡◌, ◌∙◌}
use borrow.Author.Rules.{rules}
use mir.Facts.{to_z-of_z}
use mir.Syntax.{w64}
use mir.Val.{SFits}
use lib.IntN.{◌-ℤ◌}
use Rattle.reference.specs.Signal.{signal_of}
use Rattle.reference.proofs.signal.from_raw.Goals as goal
use Rattle.reference.proofs.signal.from_raw.Goals.{After-difference}

difference_is : (c : After-difference) → c.difference.result ≡ c.args.raw -ℤ c.args.q
difference_is c = let fr = c.ranges.raw in let fq = c.ranges.q in simp to_z-of_z at c.difference.ensures

pub returns : goal.returns
unfolding signal_of
returns c =
    let f : SFits w64 c.difference.result = search rules in
    let r : SFits w64 c.near_scaled.result = search rules in
    to_z-of_z r ∙ rw (difference_is (goal.at.returns c).After-difference) at (simp to_z-of_z at c.near_scaled.ensures)
