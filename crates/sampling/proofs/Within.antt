-- What the limits of a mode and check 6 tell, taken apart into the facts that the arithmetic asks. Assumes nothing.
use mathlib.Core.Path.{◌≡◌, subst}
use mathlib.Core.Bool.{true}
use Prim.Native.Nat.{◌≤◌, ◌*◌}
use lib.Dec.{leb}
use lib.IntN.{nat_abs}
use borrow.Author.Tests.{leb-true}
use Rattle.curve.specs.declared.Air.{Air}
use Rattle.curve.specs.Limits.{air_within, AirOk}
use Rattle.curve.proofs.Within.{both, air_ok}
use Rattle.sampling.specs.declared.Cylinder.{Cylinder}
use Rattle.sampling.specs.declared.Mode.{Mode}
use Rattle.sampling.specs.declared.Measurement.{Measurement}
use Rattle.sampling.specs.Sample.{air_of, reference_air, mode_within, input_within, vapour_within}

-- the gas of a mode against one
pub record GasOk (gas : Cylinder) : Type 0 where
  pub c : gas.c ≤ 3000000000
  pub e : gas.e ≤ 11500

pub gas_in : {m : Mode} {gas : Cylinder} → mode_within m ≡ true → m ≡ Mode.Against gas → GasOk gas
gas_in {gas} e q =
    let g = both (leb gas.c 3000000000) (leb gas.e 11500) (subst (λ (m : Mode). mode_within m ≡ true) q e) in
    record { c = leb-true gas.c 3000000000 g.0; e = leb-true gas.e 11500 g.1 }

-- what check 6 tells of a measurement
pub record InputOk (at : Measurement) : Type 0 where
  pub raw : nat_abs at.raw ≤ 150000000
  pub air : AirOk (air_of at)

pub input_ok : (at : Measurement) → input_within at ≡ true → InputOk at
input_ok at e =
    let w = both (leb (nat_abs at.raw) 150000000) (air_within (air_of at)) e in
    record { raw = leb-true (nat_abs at.raw) 150000000 w.0; air = air_ok (air_of at) w.1 }

-- and of the reference's air
pub reference_air_ok : (a : Air) {m : Mode} {gas : Cylinder} → AirOk a → vapour_within m a ≡ true → m ≡ Mode.Against gas → AirOk (reference_air a gas)
reference_air_ok a {m} {gas} o e q =
    record {
      p_low = o.p_low;
      p_high = o.p_high;
      t_low = o.t_low;
      t_high = o.t_high;
      e_high = leb-true (10 * gas.e) a.p (subst (λ (x : Mode). vapour_within x a ≡ true) q e);
    }
