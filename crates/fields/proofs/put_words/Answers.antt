use Rattle.std.proofs.Common.{rules, sym, ◌∙◌}
use Rattle.fields.proofs.Words.{turned, ended}
use Rattle.fields.proofs.put_words.Goals as goal

pub loop-i-preserved : goal.loop-i-preserved
loop-i-preserved c = turned _ _ _ _ (search rules) c.loop-i-test.true c.to_le_bytes.ensures c.put_bytes.ensures ∙ c.loop-i.invariant

pub returns : goal.returns
returns c = sym (ended _ _ _ _ c.loop-i-test.false) ∙ c.loop-i.invariant
