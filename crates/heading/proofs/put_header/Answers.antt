-- `heading::put_header` meets its contract: four words. Assumes nothing.
use mathlib.Core.Path.{refl}
use borrow.Author.Rules.{rules}
use Rattle.fields.specs.Fields.{bytes_of, words_bytes}
use Rattle.heading.proofs.put_header.Goals as goal

pub returns : goal.returns
unfolding words_bytes bytes_of
returns c = record { ends = refl; room = search rules; stands = c.put_words.ensures }
