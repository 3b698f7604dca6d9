-- The starred readings of document 01, "Readings on the bench", as R-1 has them and with its two limits, as statements about the rules.
-- Assumes nothing.
use Rattle.std.specs.Prelude.{◌≡◌, pos, neg_ℤ, Ok}
use Rattle.curve.specs.declared.Sheet.{Sheet}
use Rattle.curve.specs.declared.Air.{Air}
use Rattle.curve.specs.Curve.{reduced_of, dry_of}
use Rattle.curve.specs.Absolute.{reading_refusal, absolute_of}

-- A1 150,000,000, A2 5,000,000, A3 5,000,000, T0 29,815, K 200,000,000
abbrev pub bench_sheet : Sheet
bench_sheet = record { a1 = 150000000; a2 = 5000000; a3 = 5000000; t0 = 29815; k = 200000000 }

-- P 101,300, T 29,815, e 0
abbrev pub bench_air : Air
bench_air = record { p = 101300; t = 29815; e = 0 }

-- P 100,000, T 29,815, e 2,000
abbrev pub damp_air : Air
damp_air = record { p = 100000; t = 29815; e = 2000 }

pub record StarredReadings : Type 0 where
  pub v_0 : absolute_of bench_sheet (pos 0) bench_air ≡ Ok (pos 0)
  pub v_1 : absolute_of bench_sheet (pos 1) bench_air ≡ Ok (pos 15)
  -- below zero (R-1): V −1, the lowest signal that is read, and one below it, refusal 7
  pub v_minus_1 : absolute_of bench_sheet (neg_ℤ (pos 1)) bench_air ≡ Ok (neg_ℤ (pos 15))
  pub v_minus_2000000 : absolute_of bench_sheet (neg_ℤ (pos 2000000)) bench_air ≡ Ok (neg_ℤ (pos 30000000))
  pub v_minus_2000001 : reading_refusal (absolute_of bench_sheet (neg_ℤ (pos 2000001)) bench_air) ≡ 7
  pub v_39999999 : absolute_of bench_sheet (pos 39999999) bench_air ≡ Ok (pos 999999967)
  pub v_40000000 : absolute_of bench_sheet (pos 40000000) bench_air ≡ Ok (pos 1000000000)
  pub p_81040 : absolute_of bench_sheet (pos 32000000) (record { p = 81040; t = 29815; e = 0 }) ≡ Ok (pos 1000000000)
  pub t_30411 : absolute_of bench_sheet (pos 40000000) (record { p = 101300; t = 30411; e = 0 }) ≡ Ok (pos 1019989938)
  pub e_2000_z : reduced_of (pos 40456000) damp_air ≡ pos 40520000
  pub e_2000_wet : absolute_of bench_sheet (pos 40456000) damp_air ≡ Ok (pos 1034193379)
  pub e_2000_dry : dry_of (pos 1034193379) damp_air ≡ pos 1055299366
