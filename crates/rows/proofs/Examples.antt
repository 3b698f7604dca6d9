-- Lines and headers, computed. Assumes nothing.
use Prim.Native.Nat.{ℕ}
use mathlib.Core.List.{List, [], ◌∷◌, ◌++◌}
use mathlib.Core.Path.{◌≡◌, refl}
use lib.IntN.{pos, negsuc}
use Rattle.rounding.specs.Near.{nearest}
use Rattle.text.specs.Line.{decimal}
use Rattle.sampling.specs.declared.Mode.{Mode}
use Rattle.figures.specs.Figures.{spaces, right, pointed, signed_pointed}
use Rattle.rows.specs.Rows.{columns, sample_line, header_line, header_due, under_headers}

-- document 01's example as a line: event 3, wet and dry 1,388,160,000 against 1,000,000,000
--      3       1388.16       1388.16        388.16
against : sample_line 3 (Mode.Against (record { c = 1000000000; e = 0 })) (pos 1388160000) (pos 1388160000)
    ≡ spaces 5 ++ (51 ∷ []) ++ spaces 7 ++ (49 ∷ 51 ∷ 56 ∷ 56 ∷ 46 ∷ 49 ∷ 54 ∷ []) ++ spaces 7 ++ (49 ∷ 51 ∷ 56 ∷ 56 ∷ 46 ∷ 49 ∷ 54 ∷ [])
    ++ spaces 8 ++ (51 ∷ 56 ∷ 56 ∷ 46 ∷ 49 ∷ 54 ∷ []) ++ spaces 24 ++ (10 ∷ [])
unfolding right columns signed_pointed pointed decimal nearest
against = refl

-- in absolute mode the third value is blank
--     12        350.13        -12.00
absolute : sample_line 12 Mode.Absolute (pos 350125000) (negsuc 11999999)
    ≡ spaces 4 ++ (49 ∷ 50 ∷ []) ++ spaces 8 ++ (51 ∷ 53 ∷ 48 ∷ 46 ∷ 49 ∷ 51 ∷ []) ++ spaces 8 ++ (45 ∷ 49 ∷ 50 ∷ 46 ∷ 48 ∷ 48 ∷ [])
    ++ spaces 14 ++ spaces 24 ++ (10 ∷ [])
unfolding right columns signed_pointed pointed decimal nearest
absolute = refl

-- with 2 sample lines to a header: before the first and before the third, and none after the last
two : (a b c d : List ℕ) → under_headers 2 0 (a ∷ b ∷ c ∷ d ∷ []) ≡ header_line ∷ a ∷ b ∷ header_line ∷ c ∷ d ∷ []
unfolding header_due
two a b c d = refl
