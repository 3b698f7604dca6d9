-- Records as the code goes over them: 24 bytes after 24 bytes. Assumes nothing.
use Rattle.std.specs.Prelude.{ℕ, ◌/◌, List, length}
use Rattle.format.specs.Header.{records_from}

-- the bytes of each record
abbrev pub pieces_in : List ℕ → List (List ℕ)
pieces_in bytes = records_from (λ (piece : List ℕ). piece) bytes 0 (length bytes / 24)
