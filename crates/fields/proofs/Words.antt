-- The loop of `put_words`: what is written already, followed by what the words ahead will give, is the whole. Assumes nothing.
use Prim.Native.Nat.{ℕ, suc, ◌+◌, ◌*◌, ◌<◌, ◌≤◌}
use native.Mathlib.Numerals.{add-one}
use native.Mathlib.Omega.{arith}
use mathlib.Core.Path.{◌≡◌, ◌∙◌}
use mathlib.Core.List.{List, [], ◌++◌}
use lib.ListN.{length, drop, get_or, drop_of_length-le}
use lib.Seq.{drop-cons}
use mir.Syntax.{w32}
use Rattle.std.specs.Int.{to_le_bytes}
use Rattle.fields.specs.Fields.{u32_bytes, words_bytes, splice}
use Rattle.fields.proofs.Numbers.{length_bytes, written}
use Rattle.fields.proofs.Splices.{next, splice_none}

-- what the words from the i-th on will give, put after the i before them
abbrev pub ahead : List ℕ → ℕ → List ℕ → ℕ → List ℕ
ahead out at words i = splice out (at + 4 * i) (words_bytes (drop i words))

module _ (out : List ℕ) (at : ℕ) (words : List ℕ) (i : ℕ) where
  pub turned : {four out' : List ℕ} → at + 4 * length words ≤ length out → i < length words → four ≡ to_le_bytes w32 (get_or words i 0)
      → out' ≡ splice out (at + 4 * i) four → ahead out' at words (i + 1) ≡ ahead out at words i
  unfolding words_bytes
  turned fits more e f =
      let n : at + 4 * (i + 1) ≡ at + 4 * i + 4 = omega arith in
      let b = e ∙ written 4 (get_or words i 0) in
      let w = next out (u32_bytes (get_or words i 0)) (words_bytes (drop (suc i) words)) (at + 4 * i) 4 (length_bytes 4 _) (omega arith) in
      let d : words_bytes (drop i words) ≡ u32_bytes (get_or words i 0) ++ words_bytes (drop (suc i) words) = rw (drop-cons words i 0 more) in
      rw (f, b, n, add-one, w, d)

  pub ended : length words ≤ i → ahead out at words i ≡ out
  unfolding words_bytes
  ended all =
      let d : drop i words ≡ [] = drop_of_length-le words all in
      rw d (splice_none out (at + 4 * i))
