-- Sheets and events as the code puts both: the pieces, put, are the records of a file. Assumes nothing.
use Prim.Native.Nat.{ℕ, ◌*◌, ◌/◌}
use mathlib.Core.List.{List, flat_map}
use mathlib.Core.Path.{◌≡◌, sym, ap, ◌∙◌}
use lib.ListN.{length}
use Rattle.format.specs.Header.{records_from}
use Rattle.format.proofs.File.{length_records, length_flat, records_map}
use Rattle.contents.proofs.Planned.{flat_map_lem}
use Rattle.validation.specs.Parts.{pieces_in}

pub put_as : {A : Type 0} (write : A → List ℕ) (read : List ℕ → A) (s : List ℕ)
    → flat_map (λ piece. write (read piece)) (pieces_in s) ≡ flat_map write (records_from read s 0 (length s / 24))
put_as write read s =
    flat_map_lem write read (pieces_in s) ∙ ap (flat_map write) (sym (records_map (λ (piece : List ℕ). piece) read s 0 (length s / 24)))

pub pieces_count : (s : List ℕ) → length (pieces_in s) ≡ length s / 24
pieces_count s = length_records (λ (piece : List ℕ). piece) s 0 (length s / 24)

pub pieces_length : (bytes : List ℕ → List ℕ) → ((piece : List ℕ) → length (bytes piece) ≡ 24) → (s : List ℕ) → length (flat_map bytes (pieces_in s)) ≡ 24 * (length s / 24)
pieces_length bytes sized s = length_flat bytes sized (pieces_in s) ∙ ap (λ n. 24 * n) (pieces_count s)
