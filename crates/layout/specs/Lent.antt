-- A lent buffer: bytes put into it, and how a tool ends that fills one from its start: its status, the bytes written and every byte of
-- the buffer. Assumes nothing.
use Rattle.std.specs.Prelude.{ℕ, ◌+◌, ◌≤◌, cond, List, ◌≡◌, eqb, length}
use Rattle.fields.specs.Fields.{splice}

-- bytes are put into `old` from an offset on, up to the offset `past`, for which it has room: what stood before and after them stays
pub record Puts (old : List ℕ) (at : ℕ) (bytes out : List ℕ) (past : ℕ) : Type 0 where
  pub ends : past ≡ at + length bytes
  pub room : past ≤ length old
  pub stands : out ≡ splice old at bytes

-- how a tool ends whose status is to be `due` and whose bytes are to be `bytes`. With 0 the bytes stand at the start and the old ones after
-- them; with any other nothing is written, and the buffer is as it was
pub record Fills (due : ℕ) (bytes old : List ℕ) (status written : ℕ) (out : List ℕ) : Type 0 where
  pub ended : status ≡ due
  pub counted : written ≡ cond (eqb due 0) (length bytes) 0
  pub stands : out ≡ cond (eqb due 0) (splice old 0 bytes) old
  pub room : due ≡ 0 → length bytes ≤ length old
