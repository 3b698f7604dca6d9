-- Text at the right end of a column, and the figures of the lab book's page (document 02, R-4), in ASCII: 32 is the space, 45 the minus
-- sign, 46 the point, 48 to 57 the digits. Assumes nothing.
use Rattle.std.specs.Prelude.{ℕ, suc, ◌+◌, ◌-◌, ◌/◌, ◌%◌, ◌≤◌, List, [], ◌∷◌, ◌++◌, ◌≡◌, ℤ, pos, negsuc, nat_abs, ◌-ℤ◌, ◌*ℤ◌, length, replicate}
use Rattle.rounding.specs.Near.{nearest}
use Rattle.text.specs.Line.{decimal}

abbrev pub spaces : ℕ → List ℕ
spaces n = replicate n 32

-- text right-aligned in so many columns; a longer one would stay whole, and `Wide` shows that no line of a page has one
unfoldable pub right : ℕ → List ℕ → List ℕ
right width s = spaces (width - length s) ++ s

-- a value in pmol/mol as hundredths of a µmol/mol, 10^4 pmol/mol each, by the engine's own rule
abbrev pub hundredths : ℤ → ℤ
hundredths x = nearest x 10000

-- so many hundredths with two decimals: the whole part, a point, and two digits
unfoldable pub pointed : ℕ → List ℕ
pointed n = decimal (n / 100) ++ (46 ∷ (48 + n % 100 / 10) ∷ (48 + n % 10) ∷ [])

-- with a minus sign below 0, and so with none at 0
unfoldable pub signed_pointed : ℤ → List ℕ
signed_pointed (pos n) = pointed n
signed_pointed (negsuc n) = 45 ∷ pointed (suc n)

-- a figure: a value in pmol/mol shown in µmol/mol with two decimals
abbrev pub figure : ℤ → List ℕ
figure x = signed_pointed (hundredths x)

-- what the code puts before the digits: a minus sign, or the space that stands there anyway
unfoldable pub sign_byte : ℤ → ℕ
sign_byte (pos n) = 32
sign_byte (negsuc n) = 45

-- each byte of a text from one number to another
abbrev pub Between : ℕ → ℕ → List ℕ → Type 0
Between low high [] = Unit
Between low high (b ∷ s) = (low ≤ b) × (b ≤ high) × Between low high s

-- ---- what holds of every figure; `proofs/Figures.antt` proves it

-- 0.00
abbrev pub zero_figure : List ℕ
zero_figure = 48 ∷ 46 ∷ 48 ∷ 48 ∷ []

-- its hundredths h lie within half a hundredth of its value, |2 (10^4 h − x)| ≤ 10^4; one that rounds to nothing is 0.00; and −0.00 never
-- appears
pub record FigureHolds (x : ℤ) : Type 0 where
  pub half : nat_abs (pos 2 *ℤ (hundredths x *ℤ pos 10000 -ℤ x)) ≤ 10000
  pub nothing : hundredths x ≡ pos 0 → figure x ≡ zero_figure
  pub never : figure x ≡ 45 ∷ zero_figure → ⊥

abbrev pub EveryFigure : Type 0
EveryFigure = (x : ℤ) → FigureHolds x
