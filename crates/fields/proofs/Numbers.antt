-- A number and its bytes, for any count of bytes: as many as asked, each below 256, and the one gives the other back; the number at
-- an index byte by byte, and in a part of the list; the machine's reading and writing; bytes of remainders and
-- quotients. Assumes nothing.
use Prim.Native.Nat.{ℕ, zero, suc, ◌+◌, ◌*◌, ◌/◌, ◌%◌, ◌^◌, ◌<◌, ◌≤◌}
use native.Mathlib.Nat.{le_refl, zero-add, add-zero, suc-add, add-suc, mul_assoc, pow-suc, pow-succ', div-one, div-div-eq-div-mul, mod-add-div, mod-eq_of_lt}
use native.Mathlib.Numerals.{add-one}
use native.Mathlib.Omega.{arith}
use mathlib.Core.Path.{◌≡◌, refl, ap, sym, ◌∙◌}
use mathlib.Core.List.{List, [], ◌∷◌, ◌++◌}
use lib.ListN.{length, take, drop, get_or}
use lib.Seq.{take-nil, take-take, drop-nil, drop-drop, drop-cons, get_or-drop}
use mir.Syntax.{w32, w64}
use Rattle.std.specs.Int.{from_le_bytes, bytes_low_first}
use Rattle.fields.specs.Fields.{AreBytes, number_of, bytes_of, number_at, u32_at, u64_at}

-- ---- lists of bytes

pub none : AreBytes []
none = record { below = λ i. omega arith }

pub byte : {b : ℕ} {bs : List ℕ} → b < 256 → AreBytes bs → AreBytes (b ∷ bs)
byte {b} {bs} h t = record { below = at }
  where
    at : (i : ℕ) → get_or (b ∷ bs) i 0 < 256
    at zero = h
    at (suc i) = t.below i

tail : {b : ℕ} {bs : List ℕ} → AreBytes (b ∷ bs) → AreBytes bs
tail h = record { below = λ i. h.below (suc i) }

pub joined : {a b : List ℕ} → AreBytes a → AreBytes b → AreBytes (a ++ b)
joined {a = []} h t = t
joined {a = x ∷ xs} h t = byte (h.below 0) (joined (tail h) t)

pub of_drop : (n : ℕ) {s : List ℕ} → AreBytes s → AreBytes (drop n s)
of_drop n h = record { below = λ i. rw get_or-drop (h.below (n + i)) }

pub of_take : (n : ℕ) {s : List ℕ} → AreBytes s → AreBytes (take n s)
of_take zero h = none
of_take (suc n) {s = []} h = none
of_take (suc n) {s = x ∷ xs} h = byte (h.below 0) (of_take n (tail h))

pub bytes_below : (k n : ℕ) → AreBytes (bytes_of k n)
unfolding bytes_of
bytes_below zero n = none
bytes_below (suc k) n = byte (omega arith) (bytes_below k (n / 256))

pub length_bytes : (k n : ℕ) → length (bytes_of k n) ≡ k
unfolding bytes_of
length_bytes zero n = refl
length_bytes (suc k) n = ap suc (length_bytes k (n / 256))

-- ---- the number at an index, byte by byte

number_suc : (k : ℕ) (s : List ℕ) (at : ℕ) → number_at (suc k) s at ≡ get_or s at 0 + 256 * number_at k s (suc at)
number_suc k [] at = simp (drop-nil, take-nil)
number_suc k (x ∷ xs) zero = refl
number_suc k (x ∷ xs) (suc at) = number_suc k xs at

pub number_first : (k : ℕ) (s : List ℕ) (at : ℕ) → number_at (suc k) s at ≡ get_or s at 0 + 256 * number_at k s (at + 1)
number_first k s at = rw add-one (number_suc k s at)

pub number_byte : (s : List ℕ) (at : ℕ) → number_at 1 s at ≡ get_or s at 0
number_byte s at = number_suc 0 s at ∙ add-zero (get_or s at 0)

-- the same at a place given by its distance from another
pub number_next : (k : ℕ) (s : List ℕ) (at i : ℕ) → number_at (suc k) s (at + i) ≡ get_or s (at + i) 0 + 256 * number_at k s (at + suc i)
number_next k s at i = rw add-suc (number_suc k s (at + i))

-- 64 bits from two words
pub words_joined : (s : List ℕ) (at : ℕ) → u32_at s at + 4294967296 * u32_at s (at + 4) ≡ u64_at s at
words_joined s at =
    omega (
      arith,
      number_first 7 s at,
      number_next 6 s at 1,
      number_next 5 s at 2,
      number_next 4 s at 3,
      number_first 3 s at,
      number_next 2 s at 1,
      number_next 1 s at 2,
      number_next 0 s at 3,
    )

pub number_below : (k : ℕ) (s : List ℕ) (at : ℕ) → AreBytes s → number_at k s at < 256 ^ k
number_below zero s at b = omega arith
number_below (suc k) s at b =
    omega (arith, number_suc k s at, b.below at, number_below k s (suc at) b, pow-succ' 256 k)

-- the lowest byte of a sum, and the others
pub bytes_first : (k b n : ℕ) → b < 256 → bytes_of (suc k) (b + 256 * n) ≡ b ∷ bytes_of k n
unfolding bytes_of
bytes_first k b n h =
    let low : (b + 256 * n) % 256 ≡ b = omega arith in
    let high : (b + 256 * n) / 256 ≡ n = omega arith in
    rw (low, high)

pub bytes_one : {b : ℕ} → b < 256 → bytes_of 1 b ≡ b ∷ []
unfolding bytes_of
bytes_one h = rw (mod-eq_of_lt h)

-- ---- there and back

pub number_bytes : (k n : ℕ) → n < 256 ^ k → number_of (bytes_of k n) ≡ n
unfolding bytes_of
number_bytes zero n h = omega arith
number_bytes (suc k) n h =
    let m : n / 256 < 256 ^ k = omega (arith, pow-succ' 256 k) in
    omega (arith, number_bytes k (n / 256) m)

pub bytes_number : (k : ℕ) (s : List ℕ) (at : ℕ) → at + k ≤ length s → AreBytes s → bytes_of k (number_at k s at) ≡ take k (drop at s)
unfolding bytes_of
bytes_number zero s at h b = refl
bytes_number (suc k) s at h b =
    rw (number_suc k s at, bytes_first k (get_or s at 0) (number_at k s (suc at)) (b.below at))
    (rw (drop-cons s at 0 (omega arith), bytes_number k s (suc at) (omega arith) b))

-- ---- in the n bytes from `at` on, what stands at i is what stands at `at + i` of all

pub within : (k i n : ℕ) (l : List ℕ) → i + k ≤ n → take k (drop i (take n l)) ≡ take k (drop i l)
within k zero n l h = take-take k n l (omega arith)
within k (suc i) zero l h = absurd (omega arith)
within k (suc i) (suc n) [] h = refl
within k (suc i) (suc n) (x ∷ xs) h = within k i n xs (omega arith)

pub number_part : (k i n : ℕ) (s : List ℕ) (at : ℕ) → i + k ≤ n → number_at k (take n (drop at s)) i ≡ number_at k s (at + i)
number_part k i n s at h = rw (within k i n (drop at s) h, drop-drop i at s)

pub number_start : (k n : ℕ) (s : List ℕ) (at : ℕ) → k ≤ n → number_at k (take n (drop at s)) 0 ≡ number_at k s at
number_start k n s at h = rw (take-take k n (drop at s) h)

-- ---- the machine's reading and writing of 32 and of 64 bits

pub read_32 : (s : List ℕ) (at : ℕ) → from_le_bytes w32 (take 4 (drop at s)) ≡ u32_at s at
read_32 s at =
    let b = take 4 (drop at s) in
    omega (
      arith,
      number_start 4 4 s at (le_refl 4),
      number_first 3 b 0,
      number_first 2 b 1,
      number_first 1 b 2,
      number_byte b 3,
    )

pub read_64 : (s : List ℕ) (at : ℕ) → from_le_bytes w64 (take 8 (drop at s)) ≡ u64_at s at
read_64 s at =
    let b = take 8 (drop at s) in
    omega (
      arith,
      number_start 8 8 s at (le_refl 8),
      number_first 7 b 0,
      number_first 6 b 1,
      number_first 5 b 2,
      number_first 4 b 3,
      number_first 3 b 4,
      number_first 2 b 5,
      number_first 1 b 6,
      number_byte b 7,
    )

from_byte : (k i n : ℕ) → bytes_low_first i k n ≡ bytes_of k (n / 256 ^ i)
unfolding bytes_of
from_byte zero i n = refl
from_byte (suc k) zero n = rw div-one (ap (λ l. n % 256 ∷ l) (from_byte k 1 n))
from_byte (suc k) (suc i) n =
    let p : n / 256 ^ suc i / 256 ≡ n / 256 ^ suc (suc i) = rw (div-div-eq-div-mul, pow-suc 256 (suc i)) in
    rw p (ap (λ l. n / 256 ^ suc i % 256 ∷ l) (from_byte k (suc (suc i)) n))

pub written : (k n : ℕ) → bytes_low_first 0 k n ≡ bytes_of k n
written k n = from_byte k 0 n ∙ ap (bytes_of k) (div-one n)

-- ---- bytes of remainders and quotients

-- k bytes show nothing of what lies above them
above : (k n m : ℕ) → bytes_of k (n + 256 ^ k * m) ≡ bytes_of k n
unfolding bytes_of
above zero n m = refl
above (suc k) n m =
    let p : n + 256 ^ suc k * m ≡ n + 256 * (256 ^ k * m) = rw (pow-succ', mul_assoc) in
    let low : (n + 256 * (256 ^ k * m)) % 256 ≡ n % 256 = omega arith in
    let high : (n + 256 * (256 ^ k * m)) / 256 ≡ n / 256 + 256 ^ k * m = omega arith in
    rw (p, low, high, above k (n / 256) m)

pub bytes_low : (k n : ℕ) → bytes_of k (n % 256 ^ k) ≡ bytes_of k n
bytes_low k n = sym (above k (n % 256 ^ k) (n / 256 ^ k)) ∙ ap (bytes_of k) (mod-add-div n (256 ^ k))

pub bytes_split : (j k n : ℕ) → bytes_of (j + k) n ≡ bytes_of j n ++ bytes_of k (n / 256 ^ j)
unfolding bytes_of
bytes_split zero k n = rw (zero-add, div-one)
bytes_split (suc j) k n = rw (suc-add, bytes_split j k (n / 256), div-div-eq-div-mul, pow-succ')
