-- `fields::i64_at` meets its contract: the machine's signed reading of its bits is `signed64`. Assumes nothing.
use Rattle.std.proofs.Common.{rules, ◌≡◌, sym, ◌∙◌, to_z, of_z, w64}
use Rattle.fields.proofs.Numbers.{read_64}
use Rattle.fields.proofs.TwosComplement.{signed_machine}
use Rattle.fields.proofs.i64_at.Goals as goal

pub returns : goal.returns
returns c =
    let z : to_z w64 (of_z w64 c.from_le_bytes.result) ≡ c.from_le_bytes.result = search rules in
    z ∙ c.from_le_bytes.ensures ∙ rw (c.bytes_at.ensures, read_64) (sym (signed_machine w64 _))
