-- `doubles::answers::area_in` meets its contract: too few bytes are malformed, as in the record that they begin with. Assumes nothing.
use Rattle.std.proofs.Common.{◌∙◌, Ok, Err}
use Rattle.std.proofs.lemmas.Result.{err_from_is_err_and}
use Rattle.doubles.specs.Doubles.{host_area, host_area_in}
use Rattle.doubles.proofs.Laws.{by_record}
use Rattle.doubles.proofs.answers.area_in.Goals as goal

pub returns-in_err-record_in-clause-value : goal.returns-in_err-record_in-clause-value
unfolding host_area_in
returns-in_err-record_in-clause-value c =
    let p = err_from_is_err_and c.from_residual.result c.from_residual.ensures.1 in
    rw (p.1, p.2) (by_record host_area c.args.answer.now (Err c.in_err-record_in.field-0.0) c.in_err-record_in.ensures)

pub returns-clause-value : goal.returns-clause-value
unfolding host_area_in
returns-clause-value c = c.of_area.ensures.value ∙ by_record host_area c.args.answer.now (Ok c.in_ok-record_in.field-0) c.in_ok-record_in.ensures
