-- The sizes of every answer, for its record and for a double. `proofs/Fits.antt` proves that every answer of a step has them. Assumes
-- nothing.
use Rattle.std.specs.Prelude.{◌^◌, ◌<◌, nat_abs}
use Rattle.rules.specs.declared.Answer.{Answer}
use Rattle.rules.specs.Answer.{m_of, x_of, y_of}

-- an answer's m fits the record's u32, and its x and y are whole numbers that a double holds
pub record Small (a : Answer) : Type 0 where
  pub m : m_of a < 2 ^ 32
  pub x : nat_abs (x_of a) < 2 ^ 53
  pub y : nat_abs (y_of a) < 2 ^ 53
