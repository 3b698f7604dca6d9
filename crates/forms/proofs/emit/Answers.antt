-- `forms::emit` meets its contract, form by form. Assumes nothing.
use native.Mathlib.Omega.{arith}
use mathlib.Core.Path.{refl}
use Rattle.text.proofs.Writing.{writes_by}
use Rattle.layout.proofs.RoundTrips.{length_answer}
use Rattle.forms.proofs.Emitting.{records_are, lines_are}
use Rattle.forms.proofs.emit.Goals as goal

pub returns-in-Records-clause-puts : goal.returns-in-Records-clause-puts
returns-in-Records-clause-puts c =
    let e = c.in-Records.is in
    let r = c.record_of-a in
    let fit = rw e at c.requires.1 in
    rw (records_are c.args.before c.args.event c.args.next r.ensures _ e)
    (writes_by refl (record { ends = omega (arith, length_answer r.result); room = fit; stands = c.put_answer.ensures }))

pub returns-in-Lines-clause-puts : goal.returns-in-Lines-clause-puts
returns-in-Lines-clause-puts c =
    let e = c.in-Lines.is in
    let r = c.record_of-a in
    rw (lines_are c.args.before c.args.event c.args.next r.ensures _ e) c.line.ensures.puts
