-- `rows::put_header_due` meets its contract, where n divides k and where not. The header's bytes compute. Assumes nothing.
use native.Mathlib.Omega.{arith}
use mathlib.Core.Path.{ap}
use lib.ListN.{length}
use borrow.Author.Tests.{eq-eqb, ne_eqb}
use Rattle.text.proofs.Writing.{writes_none}
use Rattle.figures.specs.Figures.{right}
use Rattle.rows.specs.Rows.{columns}
use Rattle.rows.proofs.Lines.{header_wide, wide_length}
use Rattle.rows.proofs.Headers.{due, undue}
use Rattle.rows.proofs.put_header_due.Goals as goal

pub put_text-requires : goal.put_text-requires
put_text-requires c =
    omega (arith, wide_length header_wide, ap length (due c.args.every c.args.samples (eq-eqb _ _ c.if-samples-every-eq0.true)), c.requires.1)

pub returns-then-samples-every-eq0 : goal.returns-then-samples-every-eq0
unfolding right columns
returns-then-samples-every-eq0 c =
    rw (due c.args.every c.args.samples (eq-eqb _ _ c.if-samples-every-eq0.true)) c.put_text.ensures

pub returns-else-samples-every-eq0 : goal.returns-else-samples-every-eq0
returns-else-samples-every-eq0 c =
    rw (undue c.args.every c.args.samples (ne_eqb _ _ c.if-samples-every-eq0.false)) (writes_none c.args.to.now (omega (arith, c.requires.1)))
