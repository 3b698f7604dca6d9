-- `Writer::spaced` meets its contract: a space, then the number. Assumes nothing.
use mir.Facts.{to_z-of_z}
use Rattle.text.proofs.Writing.{writes_both}
use Rattle.text.proofs.writer.Writer.spaced.Goals as goal

pub returns : goal.returns
returns c =
    writes_both c.byte.ensures (rw (to_z-of_z c.ranges.x) at c.signed.ensures)
