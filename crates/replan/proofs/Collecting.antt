-- The loop that collects typed values of a file's records in a slice: the first i of the slice are those of the first i records. Assumes
-- nothing.
use Prim.Native.Nat.{ℕ, zero, suc, ◌+◌, ◌*◌, ◌<◌, ◌≤◌}
use native.Mathlib.Numerals.{add-one}
use native.Mathlib.Omega.{arith}
use mathlib.Core.List.{List, [], ◌∷◌, ◌++◌}
use mathlib.Core.Path.{◌≡◌, refl, ◌∙◌}
use lib.ListN.{length, take, set, length-set}
use lib.Seq.{take_all, take-suc-set}
use Rattle.layout.specs.Records.{record_at}
use Rattle.format.specs.Header.{records_from}

module _ {A : Type 0} (read : List ℕ → A) (s : List ℕ) where
  -- one more record
  records_last : (at count : ℕ) → records_from read s at (suc count) ≡ records_from read s at count ++ (read (record_at s (at + 24 * count)) ∷ [])
  records_last at zero = let z : at + 24 * 0 ≡ at = omega arith in rw z
  records_last at (suc count) =
      let m : at + 24 + 24 * count ≡ at + 24 * suc count = omega arith in
      rw (← m) (ap_cons (records_last (at + 24) count))
    where
      ap_cons : {xs ys : List A} → xs ≡ ys → read (record_at s at) ∷ xs ≡ read (record_at s at) ∷ ys
      ap_cons e = rw e

  -- the first i of a slice of that size are those of the records from `from` on
  pub record Collecting (from size : ℕ) (xs : List A) (i : ℕ) : Type 0 where
    pub passed : i ≤ size
    pub long : length xs ≡ size
    pub got : take i xs ≡ records_from read s from i

  module _ {from size : ℕ} {xs : List A} where
    pub begun : length xs ≡ size → Collecting from size xs 0
    begun l = record { passed = omega arith; long = l; got = refl }

    module _ {i : ℕ} (c : Collecting from size xs i) where
      pub turned : i < size → {a : A} → a ≡ read (record_at s (from + 24 * i)) → Collecting from size (set xs i a) (i + 1)
      turned h {a} e =
          let l = c.long in
          record {
            passed = omega arith;
            long = length-set xs i a ∙ l;
            got = rw (add-one, take-suc-set xs i a (omega arith), c.got, e, records_last from i);
          }

      pub ended : size ≤ i → xs ≡ records_from read s from size
      ended h =
          let q : size ≡ i = omega (arith, c.passed) in
          let l = c.long in
          rw (take_all size xs (omega arith)) at (rw (← q) at c.got)
