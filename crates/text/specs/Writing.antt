-- A writer, which has a lent buffer and the place in it where the next piece goes, before and after it puts bytes. Assumes nothing.
use Rattle.std.specs.Prelude.{ℕ, List, ◌≡◌, length}
use Rattle.layout.specs.Lent.{Puts}
use Rattle.text.specs.declared.writer.Writer.{Writer}

-- the bytes are put into its buffer at its place, which moves past them; the buffer is still the one that was lent, and as long as it was
pub record Writes (before : Writer) (bytes : List ℕ) (after : Writer) : Type 0 where
  pub same_buffer : after.out.ghost_name ≡ before.out.ghost_name
  pub same_length : length after.out.now ≡ length before.out.now
  pub puts : Puts before.out.now before.at bytes after.out.now after.at
