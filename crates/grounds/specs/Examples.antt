-- Grounds that can be worked out by hand, as statements about the definition: document 01's bench sheet and cylinder, at P 101,300, T 29,815, e 0.
-- `proofs/Examples.antt` proves them. Assumes nothing.
use Rattle.std.specs.Prelude.{◌≡◌, ℤ, pos, neg_ℤ, ℕ, Option, Some, None}
use Rattle.rules.specs.declared.State.{State}
use Rattle.engine.specs.Bench.{bench_state, reference_state, small_state, found_there, measuring}
use Rattle.grounds.specs.declared.Ground.{Ground}
use Rattle.grounds.specs.Grounds.{ground_of}

abbrev pub GroundIs : State → ℤ → Option Ground → Type 0
GroundIs st raw g = ground_of st (measuring raw 101300 29815 0) ≡ g

-- against the cylinder 1,000,000,000, with this R stored, where a search would find 40,000,000
abbrev pub holding : ℕ → State
holding r = reference_state (found_there (Some r))

pub record GroundExamples : Type 0 where
  -- document 01's V 70,000,000, whose c would be 3,010,000,000; V −2,000,001 is refused with 7; V 40,000,000 is read
  pub v_70000000 : GroundIs bench_state (pos 70000000) (Some Ground.WetHigh)
  pub v_minus_2000001 : GroundIs bench_state (neg_ℤ (pos 2000001)) None
  pub v_40000000 : GroundIs bench_state (pos 40000000) None
  -- raw 0 is read at R: 80,000,000 has too high a wet value; 150,000,000 is not above the first limit, and K is 200,000,000, but z is 150,000,000 too
  pub r_80000000 : GroundIs (holding 80000000) (pos 0) (Some Ground.WetHigh)
  pub r_150000000 : GroundIs (holding 150000000) (pos 0) (Some Ground.ReducedHigh)
  -- 150,000,000 + 10,000,000 − 7,500,000
  pub r_150000000_raw : GroundIs (holding 150000000) (pos 10000000) (Some Ground.SignalHigh)
  -- with K 10,000,000: at K, and one below it
  pub k_10000000 : GroundIs (small_state (found_there (Some 10000000))) (pos 0) (Some Ground.SignalAtK)
  pub k_below : GroundIs (small_state (found_there (Some 9999999))) (pos 0) None
