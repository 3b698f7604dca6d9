-- `doubles::answers::of_area` meets its contract: a refusal, or an area, its double exact. Assumes nothing.
use Rattle.std.proofs.Common.{◌≡◌, sym, subst, Result}
use lib.Ieee.{Float}
use Rattle.doubles.specs.declared.Refused.{Refused}
use Rattle.doubles.specs.Doubles.{host_area, ExactArea}
use Rattle.doubles.proofs.Laws.{exact_area}
use Rattle.doubles.proofs.answers.of_area.Goals as goal

pub returns : goal.returns
unfolding host_area
returns c =
    let is : c.value_as.result ≡ host_area c.args.a = c.value_as.ensures in
    record { value = is; exactly = subst (λ (r : Result Float Refused). ExactArea r c.args.a) (sym is) (exact_area c.args.a) }
