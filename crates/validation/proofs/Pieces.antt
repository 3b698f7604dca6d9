-- Records of 24 bytes as an iterator over whole chunks gives them. Assumes nothing.
use Prim.Native.Nat.{ℕ, zero, suc, ◌+◌, ◌/◌, ◌<◌}
use native.Mathlib.Omega.{arith}
use mathlib.Core.Bool.{Bool}
use mathlib.Core.List.{List, ◌∷◌, ◌++◌}
use mathlib.Core.Path.{◌≡◌, refl, sym, ap, ◌∙◌}
use lib.ListN.{length, take, drop, length-append, length-take}
use lib.Seq.{take_at, take_all, drop_at}
use Rattle.std.proofs.lemmas.Iterator.{YieldsList}
use Rattle.std.proofs.lemmas.Iterator.Splits.{YieldsList-from_shown_while}
use Rattle.std.specs.List.{list_all}
use Rattle.std.specs.Slice.Iter.{chunks_exact_rest, chunks_exact_size, chunks_exact_steps}
use Rattle.layout.specs.Records.{record_at}
use Rattle.format.specs.Header.{records_from}
use Rattle.format.proofs.File.{records_drop}
use Rattle.contents.specs.Contents.{every}
use Rattle.validation.specs.Parts.{pieces_in}

no_piece : (s : List ℕ) → length s < 24 → length (pieces_in s) ≡ 0
no_piece s h = let z : length s / 24 ≡ 0 = omega arith in rw z

one_piece : (s piece rest : List ℕ) → s ≡ piece ++ rest → length piece ≡ 24 → pieces_in s ≡ piece ∷ pieces_in rest
one_piece s piece rest e l =
    let n : length s / 24 ≡ suc (length rest / 24) = omega (arith, ap length e, length-append piece rest) in
    let same : records_from (λ (p : List ℕ). p) s 24 (length rest / 24) ≡ pieces_in rest =
    sym (records_drop (λ (p : List ℕ). p) s 24 0 (length rest / 24)) ∙ rw (e, drop_at piece rest 24 l) in
    rw (n, same, e, take_at piece rest 24 l)

pub chunks_yield : {s : _} → chunks_exact_size s ≡ 24 → YieldsList (chunks_exact_steps {A = ℕ}) (λ y. y.now) s (pieces_in (chunks_exact_rest s))
chunks_yield {s} e =
    YieldsList-from_shown_while chunks_exact_steps (λ y. y.now) (λ t. pieces_in (chunks_exact_rest t)) (λ t. chunks_exact_size t ≡ 24)
    (λ a b p h. no_piece (chunks_exact_rest a) (omega (arith, h.1.0, p)))
    (λ a x b p h. (h.0 ∙ p, one_piece _ _ _ h.1.0 (h.1.1 ∙ p)))
    s e

-- a test of what each of them says
module _ {A : Type 0} (test : A → Bool) (read : List ℕ → A) (s : List ℕ) where
  all_from : (at count : ℕ) → list_all (λ piece. test (read (record_at piece 0))) (records_from (λ (piece : List ℕ). piece) s at count) ≡ every test (records_from read s at count)
  all_from at zero = refl
  all_from at (suc count) =
      let whole : take 24 (record_at s at) ≡ record_at s at = take_all 24 (record_at s at) (omega (arith, length-take 24 (drop at s))) in
      rw (whole, all_from (at + 24) count)

  pub all_said : list_all (λ piece. test (read (record_at piece 0))) (pieces_in s) ≡ every test (records_from read s 0 (length s / 24))
  all_said = all_from 0 (length s / 24)
