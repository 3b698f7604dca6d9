-- The limits of document 01, "Units and rounding": of a sheet and of the air, ends included, as tests; and the same limits
-- as facts, which is how a `requires` has them (`proofs/Within.antt` shows that each test decides its facts). Assumes nothing.
use Rattle.std.specs.Prelude.{ℕ, ◌*◌, ◌≤◌, Bool, ◌&&◌, leb}
use Rattle.curve.specs.declared.Sheet.{Sheet}
use Rattle.curve.specs.declared.Air.{Air}

-- low ≤ n ≤ high
abbrev pub within : ℕ → ℕ → ℕ → Bool
within low high n = leb low n && leb n high

-- A1 1 to 10^9, A2 0 to 10^8, A3 0 to 10^7, T0 27,315 to 32,315, K 10,000,000 to 400,000,000
unfoldable pub sheet_within : Sheet → Bool
sheet_within s =
    within 1 1000000000 s.a1 && leb s.a2 100000000 && leb s.a3 10000000
    && within 27315 32315 s.t0 && within 10000000 400000000 s.k

-- P 60,000 to 115,000, T 27,315 to 32,315, e with 10e ≤ P
unfoldable pub air_within : Air → Bool
air_within a = within 60000 115000 a.p && within 27315 32315 a.t && leb (10 * a.e) a.p

pub record SheetOk (s : Sheet) : Type 0 where
  pub a1_low : 1 ≤ s.a1
  pub a1_high : s.a1 ≤ 1000000000
  pub a2_high : s.a2 ≤ 100000000
  pub a3_high : s.a3 ≤ 10000000
  pub t0_low : 27315 ≤ s.t0
  pub t0_high : s.t0 ≤ 32315
  pub k_low : 10000000 ≤ s.k
  pub k_high : s.k ≤ 400000000

pub record AirOk (a : Air) : Type 0 where
  pub p_low : 60000 ≤ a.p
  pub p_high : a.p ≤ 115000
  pub t_low : 27315 ≤ a.t
  pub t_high : a.t ≤ 32315
  pub e_high : 10 * a.e ≤ a.p
