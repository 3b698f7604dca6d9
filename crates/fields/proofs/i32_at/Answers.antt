-- `fields::i32_at` meets its contract: the machine's signed reading of its bits is `signed32`. Assumes nothing.
use Rattle.std.proofs.Common.{rules, ◌≡◌, sym, ◌∙◌, to_z, of_z, w32}
use Rattle.fields.proofs.Numbers.{read_32}
use Rattle.fields.proofs.TwosComplement.{signed_machine}
use Rattle.fields.proofs.i32_at.Goals as goal

pub returns : goal.returns
returns c =
    let z : to_z w32 (of_z w32 c.from_le_bytes.result) ≡ c.from_le_bytes.result = search rules in
    z ∙ c.from_le_bytes.ensures ∙ rw (c.bytes_at.ensures, read_32) (sym (signed_machine w32 _))
