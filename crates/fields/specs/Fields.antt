-- Little-endian numbers in a list of bytes, and signed ones by two's complement: the fields of document 01's session file.
-- The contracts of `fields` cite these definitions, and `Records.antt` of layout makes the records of them. Assumes nothing.
use Rattle.std.specs.Prelude.{ℕ, zero, suc, ◌+◌, ◌-◌, ◌*◌, ◌/◌, ◌%◌, ◌^◌, ◌<◌, cond, List, [], ◌∷◌, ◌++◌, ltb, ℤ, pos, negsuc, length, take, drop, get_or}

-- s is a list of bytes: each of its numbers is below 256
pub record AreBytes (s : List ℕ) : Type 0 where
  pub below : (i : ℕ) → get_or s i 0 < 256

-- the number that bytes stand for, the lowest first
abbrev pub number_of : List ℕ → ℕ
number_of [] = 0
number_of (b ∷ bs) = b + 256 * number_of bs

-- the k lowest bytes of n, the lowest first
unfoldable pub bytes_of : ℕ → ℕ → List ℕ
bytes_of zero n = []
bytes_of (suc k) n = n % 256 ∷ bytes_of k (n / 256)

-- the number that the k bytes at an index stand for
abbrev pub number_at : ℕ → List ℕ → ℕ → ℕ
number_at k s at = number_of (take k (drop at s))

-- the file's widths: a byte, the three after an event's kind, 32 and 64 bits
abbrev pub u8_at : List ℕ → ℕ → ℕ
u8_at = number_at 1

abbrev pub u24_at : List ℕ → ℕ → ℕ
u24_at = number_at 3

abbrev pub u32_at : List ℕ → ℕ → ℕ
u32_at = number_at 4

abbrev pub u64_at : List ℕ → ℕ → ℕ
u64_at = number_at 8

abbrev pub u8_bytes : ℕ → List ℕ
u8_bytes = bytes_of 1

abbrev pub u24_bytes : ℕ → List ℕ
u24_bytes = bytes_of 3

abbrev pub u32_bytes : ℕ → List ℕ
u32_bytes = bytes_of 4

abbrev pub u64_bytes : ℕ → List ℕ
u64_bytes = bytes_of 8

-- words of 32 bits, one after the other
unfoldable pub words_bytes : List ℕ → List ℕ
words_bytes [] = []
words_bytes (w ∷ ws) = u32_bytes w ++ words_bytes ws

-- k bits read in two's complement: the upper half of their numbers stands for the negative ones, 2^k − 1 for −1 (`negsuc m` is −(m + 1))
unfoldable pub signed : ℕ → ℕ → ℤ
signed k n = cond (ltb n (2 ^ (k - 1))) (pos n) (negsuc (2 ^ k - suc n))

-- and back: the k bits that stand for a signed number
unfoldable pub bits_of : ℕ → ℤ → ℕ
bits_of k (pos n) = n
bits_of k (negsuc m) = 2 ^ k - suc m

abbrev pub signed32 : ℕ → ℤ
signed32 = signed 32

abbrev pub signed64 : ℕ → ℤ
signed64 = signed 64

abbrev pub bits32 : ℤ → ℕ
bits32 = bits_of 32

abbrev pub bits64 : ℤ → ℕ
bits64 = bits_of 64

-- a lent buffer with bytes put in its middle: what stood before and after them stays
abbrev pub splice : List ℕ → ℕ → List ℕ → List ℕ
splice out at bytes = take at out ++ (bytes ++ drop (at + length bytes) out)
