-- The distances that demand 3 allows: in pmol/mol, of an area in pmol/mol times 0.1 s. Assumes nothing.
use Rattle.std.specs.Prelude.{ℕ, ◌*◌, ◌-◌}

-- of a wet value, read in absolute mode, from its exact value
abbrev pub absolute_bound : ℕ
absolute_bound = 1100

-- of a wet value, read against a reference, from its exact value
abbrev pub against_bound : ℕ
against_bound = 1800

-- of a dry value, in either mode, from the exact wet value times P / (P − e)
abbrev pub dry_bound : ℕ
dry_bound = 2000

-- of the cylinder from equation (11): at the reference signal it is at least the cylinder less this, one unit lower it is less
-- than the cylinder plus this
abbrev pub reference_bound : ℕ
reference_bound = 450

-- of an area of n wet values, in either mode, from the area of their exact values, as R-5 has it; of one value it is 0: the two are equal
abbrev pub area_bound : ℕ → ℕ
area_bound n = 1800 * (4 * n - 4)
