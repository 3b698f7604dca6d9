-- `rows::put_rows` meets its contract: nothing, or the header line where one is due and the sample's. Assumes nothing.
use native.Mathlib.Omega.{arith}
use lib.ListN.{length-append}
use Rattle.text.proofs.Writing.{writes_both}
use Rattle.rows.specs.Rows.{sample_line}
use Rattle.rows.proofs.Lines.{sample_wide, wide_length}
use Rattle.rows.proofs.Headers.{one_row}
use Rattle.rows.proofs.put_rows.Goals as goal

pub put_header_due-requires : goal.put_header_due-requires
put_header_due-requires c =
    let a = c.args in
    let g = c.in-Some in
    let p = rw (g.is, one_row a.every a.samples (sample_line a.ordinal a.mode g.sample.wet g.sample.dry), length-append) at c.requires.3 in
    (c.requires.0, omega arith)

pub put_sample-requires : goal.put_sample-requires
put_sample-requires c =
    let a = c.args in
    let g = c.in-Some in
    let p = rw (g.is, one_row a.every a.samples (sample_line a.ordinal a.mode g.sample.wet g.sample.dry), length-append) at c.requires.3 in
    let f = rw g.is at c.requires.2 in
    let l = wide_length (sample_wide a.ordinal a.mode g.sample.wet g.sample.dry c.requires.1 f.0 f.1 f.2) in
    (omega arith, c.requires.1, f)

pub returns-in-Some : goal.returns-in-Some
returns-in-Some c =
    let a = c.args in
    let g = c.in-Some in
    rw (g.is, one_row a.every a.samples (sample_line a.ordinal a.mode g.sample.wet g.sample.dry))
    (writes_both c.put_header_due.ensures c.put_sample.ensures)
