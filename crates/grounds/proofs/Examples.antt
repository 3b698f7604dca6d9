-- The grounds worked out by hand are computed. Assumes nothing.
use mathlib.Core.Path.{refl}
use Rattle.rounding.specs.Near.{nearest}
use Rattle.curve.specs.Limits.{sheet_within, air_within}
use Rattle.curve.specs.Curve.{reduced_of, slope2_of, slope1_of, cubic_of, straight_of, moist_of, warm_of, wet_of}
use Rattle.reference.specs.Signal.{signal_of, against_of}
use Rattle.store.specs.Store.{stored_on}
use Rattle.rules.specs.Limits.{workable}
use Rattle.grounds.specs.Grounds.{first_ground, ground_on, ground_of}
use Rattle.grounds.specs.Examples.{GroundExamples}

pub ground_examples : GroundExamples
unfolding ground_of ground_on first_ground workable sheet_within air_within stored_on signal_of against_of nearest reduced_of slope2_of slope1_of cubic_of straight_of moist_of warm_of wet_of
ground_examples =
    record {
      v_70000000 = refl;
      v_minus_2000001 = refl;
      v_40000000 = refl;
      r_80000000 = refl;
      r_150000000 = refl;
      r_150000000_raw = refl;
      k_10000000 = refl;
      k_below = refl;
    }
