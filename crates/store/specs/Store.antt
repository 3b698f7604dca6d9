-- R-7's stored finding: the P and T last searched for a reference signal, and what was found there, R or nothing. What a sample stores, what
-- it goes by, and when what is stored is what a search gives. Assumes nothing.
use Rattle.std.specs.Prelude.{ℕ, Bool, false, ◌&&◌, cond, ◌≡◌, leb, eqb, None, Option, Some}
use Rattle.curve.specs.declared.Sheet.{Sheet}
use Rattle.reference.specs.Search.{found_value, reference_of}
use Rattle.sampling.specs.declared.Mode.{Mode}
use Rattle.sampling.specs.declared.Measurement.{Measurement}
use Rattle.sampling.specs.Sample.{air_of, checked_on, searched_of}
use Rattle.store.specs.declared.Finding.{Finding}

-- nothing, or what the last search found at its P and T
abbrev pub Stored : Type 0
Stored = Option Finding

-- whether what is stored was found at the sample's P and T: not where nothing is stored, nor at another P or T
abbrev pub is_at : Stored → Measurement → Bool
is_at None at = false
is_at (Some x) at = eqb x.p at.p && eqb x.t at.t

-- what was found at a P and T, as it is stored; and the finding that is stored, which a sample goes by (with nothing stored, nothing)
abbrev pub stored_as : ℕ → ℕ → Option ℕ → Stored
stored_as p t f = Some (record { p = p; t = t; r = f })

abbrev pub finding_in : Stored → Option ℕ
finding_in None = None
finding_in (Some x) = x.r

-- what stands stored after a sample: against a reference, once its inputs pass check 6, what a search finds at its P and T, unless what is
-- stored was found there; a sample refused with 6 leaves it, and so does one in absolute mode
unfoldable pub stored_on : Sheet → Mode → Measurement → Stored → Stored
stored_on s Mode.Absolute at x = x
stored_on s (Mode.Against gas) at x =
    cond (checked_on (Mode.Against gas) at)
    (cond (is_at x at) x (stored_as at.p at.t (searched_of s (Mode.Against gas) (air_of at))))
    x

-- the limits of what is stored: any R from 0 to 150,000,000, one at or above K too, and any P and T
abbrev pub stored_within : Stored → Bool
stored_within x = leb (found_value (finding_in x)) 150000000

-- what is stored, if anything, is what a search gives at its P and T under the sheet, for the mode's cylinder; in absolute mode nothing is stored
abbrev pub IsSearched : Sheet → Mode → Stored → Type 0
IsSearched s mode None = Unit
IsSearched s Mode.Absolute (Some x) = ⊥
IsSearched s (Mode.Against gas) (Some x) = reference_of s gas.c (record { p = x.p; t = x.t; e = gas.e }) ≡ x.r
