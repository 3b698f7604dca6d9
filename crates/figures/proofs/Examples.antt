-- Figures, computed. Assumes nothing.
use mathlib.Core.List.{[], ◌∷◌}
use mathlib.Core.Path.{◌≡◌, refl}
use lib.IntN.{pos, negsuc}
use Rattle.rounding.specs.Near.{nearest}
use Rattle.text.specs.Line.{decimal}
use Rattle.figures.specs.Figures.{right, pointed, signed_pointed, figure, zero_figure}

-- −0.004999 is 0.00, and −0.005 is −0.01: a half goes away from zero
small : figure (negsuc 4998) ≡ zero_figure
unfolding signed_pointed pointed decimal nearest
small = refl

half_below : figure (negsuc 4999) ≡ 45 ∷ 48 ∷ 46 ∷ 48 ∷ 49 ∷ []
unfolding signed_pointed pointed decimal nearest
half_below = refl

-- −0.99 keeps its sign
signed : figure (negsuc 989999) ≡ 45 ∷ 48 ∷ 46 ∷ 57 ∷ 57 ∷ []
unfolding signed_pointed pointed decimal nearest
signed = refl

-- 350.125 is 350.13
half_above : figure (pos 350125000) ≡ 51 ∷ 53 ∷ 48 ∷ 46 ∷ 49 ∷ 51 ∷ []
unfolding signed_pointed pointed decimal nearest
half_above = refl

-- right-aligned in 6: "  0.00"
aligned : right 6 (figure (pos 0)) ≡ 32 ∷ 32 ∷ zero_figure
unfolding right signed_pointed pointed decimal nearest
aligned = refl
