-- `rows::put_third` meets its contract: blank in absolute mode, else wet less the cylinder. Assumes nothing.
use Rattle.figures.proofs.Columns.{blank_column}
use Rattle.rows.proofs.put_third.Goals as goal

pub returns-in-Absolute-clause-puts : goal.returns-in-Absolute-clause-puts
returns-in-Absolute-clause-puts c = rw (c.in-Absolute.is, blank_column 14) c.put_text.ensures
