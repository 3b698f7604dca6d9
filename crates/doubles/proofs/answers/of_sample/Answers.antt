-- `doubles::answers::of_sample` meets its contract: a refusal, or a reading, each double exact. Assumes nothing.
use Rattle.std.proofs.Common.{sym, subst, refl, rules, Result, Ok, Err, ◌<◌}
use Rattle.std.proofs.lemmas.Result.{err_from_is_err_and}
use mir.Facts.{to_z-of_z}
use mir.Syntax.{w64}
use mir.Val.{SFits}
use Rattle.doubles.specs.declared.Doubles.{Doubles}
use Rattle.doubles.specs.declared.Refused.{Refused}
use Rattle.doubles.specs.Doubles.{double_in, ExactReading}
use Rattle.doubles.proofs.Laws.{exact_reading, by_values}
use Rattle.doubles.proofs.answers.of_sample.Goals as goal

pub returns-in_err-value_as-clause-value : goal.returns-in_err-value_as-clause-value
returns-in_err-value_as-clause-value c =
    let p = err_from_is_err_and c.from_residual.result c.from_residual.ensures.1 in
    rw (p.1, p.2) (by_values c.args.a (Err c.in_err-value_as.field-0.0) (double_in c.args.a.y) c.in_err-value_as.ensures refl)

pub returns-in_err-double-clause-value : goal.returns-in_err-double-clause-value
returns-in_err-double-clause-value c =
    let y : SFits w64 c.args.a.y = search rules in
    let p = err_from_is_err_and c.from_residual-in_err-double.result c.from_residual-in_err-double.ensures.1 in
    rw (p.1, p.2) (by_values c.args.a (Ok c.in_ok-value_as.field-0) (Err c.in_err-double.field-0.0) c.in_ok-value_as.ensures (simp to_z-of_z at c.in_err-double.ensures))

pub returns : goal.returns
returns c =
    let y : SFits w64 c.args.a.y = search rules in
    let m : c.args.a.m < 4294967296 = search rules in
    let is = by_values c.args.a (Ok c.in_ok-value_as.field-0) (Ok c.in_ok-double.field-0) c.in_ok-value_as.ensures (simp to_z-of_z at c.in_ok-double.ensures) in
    record { value = is; exactly = subst (λ (r : Result Doubles Refused). ExactReading r c.args.a) (sym is) (exact_reading c.args.a m) }
