-- The starred readings hold: the rules compute them. Assumes nothing.
use mathlib.Core.Path.{refl}
use Rattle.rounding.specs.Near.{nearest}
use Rattle.curve.specs.Curve.{reduced_of, slope2_of, slope1_of, cubic_of, straight_of, moist_of, warm_of, wet_of, dry_of}
use Rattle.curve.specs.Absolute.{absolute_of}
use Rattle.curve.specs.Bench.{StarredReadings}

pub starred_readings : StarredReadings
unfolding absolute_of nearest reduced_of slope2_of slope1_of cubic_of straight_of moist_of warm_of wet_of dry_of
starred_readings =
    record {
      v_0 = refl;
      v_1 = refl;
      v_minus_1 = refl;
      v_minus_2000000 = refl;
      v_minus_2000001 = refl;
      v_39999999 = refl;
      v_40000000 = refl;
      p_81040 = refl;
      t_30411 = refl;
      e_2000_z = refl;
      e_2000_wet = refl;
      e_2000_dry = refl;
    }
