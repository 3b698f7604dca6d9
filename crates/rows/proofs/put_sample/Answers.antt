-- `rows::put_sample` meets its contract: four columns, and spaces with a line feed. Assumes nothing.
use borrow.Author.Rules.{rules}
use mir.Facts.{to_z-of_z}
use mir.Syntax.{w64}
use mir.Val.{SFits}
use Rattle.text.specs.Line.{decimal}
use Rattle.figures.specs.Figures.{figure}
use Rattle.rows.specs.Rows.{third_of}
use Rattle.rows.proofs.Lines.{line_put}
use Rattle.rows.proofs.put_sample.Goals as goal

pub returns : goal.returns
returns c =
    let a = c.args in
    let fw : SFits w64 a.sample.wet = search rules in
    let fd : SFits w64 a.sample.dry = search rules in
    line_put (decimal a.ordinal) (figure a.sample.wet) (figure a.sample.dry) (third_of a.mode a.sample.wet) c.put_ordinal.ensures.puts
    (simp to_z-of_z at c.put_figure.ensures.puts) (simp to_z-of_z at c.put_figure-2.ensures.puts) (simp to_z-of_z at c.put_third.ensures.puts)
    c.put_text.ensures
