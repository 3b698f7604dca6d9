use Rattle.std.proofs.Common.{◌≡◌}
use Rattle.fields.specs.Fields.{words_bytes, splice}
use Rattle.fields.proofs.Words.{ahead}
use Rattle.fields.proofs.put_words.Given as goal

abbrev pub invariant-loop-i : goal.invariant-loop-i
invariant-loop-i l = ahead l.out l.at l.words l.i ≡ splice l.fn.out l.at (words_bytes l.words)
