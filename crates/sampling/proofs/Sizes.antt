-- How large a signal and a finding can be. Assumes nothing.
use Rattle.std.specs.Prelude.{None, Option, Some}
use mathlib.Core.Path.{◌≡◌, refl}
use Prim.Native.Nat.{ℕ, ◌≤◌}
use native.Mathlib.Omega.{arith}
use lib.IntN.{ℤ, pos, nat_abs, ◌-ℤ◌, ◌*ℤ◌}
use Rattle.rounding.proofs.Integers.{abs_sub, abs_mul, prod}
use Rattle.rounding.proofs.Nearest.{near_size}
use Rattle.curve.specs.declared.Sheet.{Sheet}
use Rattle.curve.specs.declared.Air.{Air}
use Rattle.reference.specs.Signal.{signal_of}
use Rattle.reference.specs.Search.{reference_of, found_value}
use Rattle.reference.proofs.Bracket.{reference_range}
use Rattle.sampling.specs.declared.Mode.{Mode}
use Rattle.sampling.specs.Sample.{reference_air, searched_of}

pub signal_size : (raw q : ℤ) (s : ℕ) → nat_abs raw ≤ 150000000 → nat_abs q ≤ 20000000 → s ≤ 2000000 → nat_abs (signal_of raw q s) ≤ 340000000
unfolding signal_of
signal_size raw q s r k l =
    let d : nat_abs (raw -ℤ q) ≤ 170000000 = omega (arith, abs_sub raw q) in
    near_size ((raw -ℤ q) *ℤ pos s) 340000000 (omega arith) (rw (abs_mul (raw -ℤ q) (pos s)) (omega (arith, prod 170000000 2000000 d l)))

-- a reference signal that was found
pub finding_size : (s : Sheet) (m : Mode) (a : Air) → found_value (searched_of s m a) ≤ 150000000
finding_size s Mode.Absolute a = omega arith
finding_size s (Mode.Against gas) a = go (reference_of s gas.c (reference_air a gas)) refl
  where
    go : (f : Option ℕ) → reference_of s gas.c (reference_air a gas) ≡ f → found_value f ≤ 150000000
    go (Some r) e = reference_range s (reference_air a gas) gas.c r e
    go None e = omega arith
