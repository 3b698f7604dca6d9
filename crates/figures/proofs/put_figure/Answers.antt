-- `figures::put_figure` meets its contract: the value in hundredths, their sign and their size. Assumes nothing.
use native.Mathlib.Omega.{arith}
use mathlib.Core.Path.{◌≡◌}
use mir.Facts.{to_z-of_z}
use mir.Syntax.{w64}
use mir.Val.{SFits}
use borrow.Author.Rules.{rules}
use Rattle.figures.specs.Figures.{hundredths}
use Rattle.figures.proofs.Columns.{hundredths_most, signed_column}
use Rattle.figures.proofs.put_figure.Goals as goal
use Rattle.figures.proofs.put_figure.Goals.{After-near-hundredths}

-- the hundredths, from the call that gives them
is : (c : After-near-hundredths) → c.near-hundredths.result ≡ hundredths c.args.x
is c = let f = c.ranges.x in simp to_z-of_z at c.near-hundredths.ensures

pub put_hundredths-requires : goal.put_hundredths-requires
put_hundredths-requires c =
    let r : SFits w64 c.near-hundredths.result = search rules in
    let m = rw (is (goal.at.put_hundredths-requires c).After-near-hundredths) at (simp to_z-of_z at c.unsigned_abs.ensures.value) in
    (c.requires.0, omega (arith, hundredths_most c.args.x c.requires.1))

pub returns : goal.returns
returns c =
    let r : SFits w64 c.near-hundredths.result = search rules in
    let size = rw (is (goal.at.returns c).After-near-hundredths) at (simp to_z-of_z at c.unsigned_abs.ensures.value) in
    let sign = rw (is (goal.at.returns c).After-near-hundredths) at (simp to_z-of_z at c.sign_of.ensures) in
    let p = rw (size, sign, signed_column (hundredths c.args.x) (hundredths_most c.args.x c.requires.1)) at c.put_hundredths.ensures.puts in
    record { puts = p; value = c.put_hundredths.ensures.value }
