-- The starred reference and span cases hold. A search is decided by the neighbours of what it finds, and not by its 40,000,000
-- steps. Assumes nothing.
use Rattle.std.specs.Prelude.{Err, None, Ok, Some}
use mathlib.Core.Path.{◌≡◌, refl, ap}
use mathlib.Core.Bool.{Bool, true, false}
use Prim.Native.Nat.{ℕ, suc, ◌+◌, ◌≤◌, ◌<◌}
use native.Mathlib.Omega.{arith}
use lib.IntN.{ℤ, pos, ◌-ℤ◌}
use lib.Signed.{le_z, ◌≤ℤ◌, le_z_yes}
use Rattle.rounding.specs.Near.{nearest}
use Rattle.curve.specs.Reading.{Reading}
use Rattle.curve.specs.declared.OutOfRange.TheVariants.{OverRange}
use Rattle.curve.specs.Limits.{SheetOk, AirOk}
use Rattle.curve.specs.Curve.{reduced_of, slope2_of, slope1_of, cubic_of, moist_of, warm_of, wet_of}
use Rattle.curve.specs.Absolute.{absolute_of}
use Rattle.curve.specs.Bench.{bench_sheet, bench_air}
use Rattle.curve.specs.Order.{NotAbove}
use Rattle.reference.specs.declared.Sought.TheVariants.{Signal, Span}
use Rattle.reference.specs.Signal.{signal_of, against_of}
use Rattle.reference.specs.Search.{least, serves, reference_refusal, span_refusal, reference_of, span_of}
use Rattle.reference.specs.Sought.{sought_reading}
use Rattle.reference.specs.Bench.{small_sheet, StarredReferences}
use Rattle.reference.proofs.Least.{either, least_none, least_at}
use Rattle.reference.proofs.Serving.{Rising, none_above, none_below, sought_rises}

-- readings that never fall, and the stretch of count numbers from n on
module _ (g : ℕ → Reading) (rises : Rising g) (cylinder n count : ℕ) where
  abbrev test : ℕ → Bool
  test v = serves cylinder (g v)

  -- found where it serves and the number before reads too low
  by_neighbours : (m : ℕ) {c : ℤ} → n ≤ suc m → suc m < n + count → g m ≡ Ok c → le_z (pos cylinder) c ≡ false → test (suc m) ≡ true
      → least test n count ≡ Some (suc m)
  by_neighbours m l h e low on = least_at test n count (suc m) l h (λ j p q. none_below g rises cylinder m e low j (omega arith)) on

  -- none where the last number reads too low
  none_to : (m : ℕ) {c : ℤ} → n + count ≤ suc m → g m ≡ Ok c → le_z (pos cylinder) c ≡ false → least test n count ≡ None
  none_to m l e low = least_none test n count (λ j p q. none_below g rises cylinder m e low j (omega arith))

  -- none where one number reads too low and the next is over range
  none_between : (m : ℕ) {c : ℤ} → g m ≡ Ok c → le_z (pos cylinder) c ≡ false → g (suc m) ≡ Err OverRange → least test n count ≡ None
  none_between m e low over =
      least_none test n count
      (λ j p q. either m j (λ l. none_above g rises cylinder (suc m) over j l) (λ l. none_below g rises cylinder m e low j l))

sheet_ok : SheetOk bench_sheet
sheet_ok = omega arith

small_ok : SheetOk small_sheet
small_ok = omega arith

air_ok : AirOk bench_air
air_ok = omega arith

-- the readings by signal, and those of raw by span
signals : (v w : ℕ) → v ≤ w → NotAbove (sought_reading bench_sheet bench_air Signal v) (sought_reading bench_sheet bench_air Signal w)
signals = sought_rises bench_sheet bench_air sheet_ok air_ok Signal 0 (omega arith)

small_signals : (v w : ℕ) → v ≤ w → NotAbove (sought_reading small_sheet bench_air Signal v) (sought_reading small_sheet bench_air Signal w)
small_signals = sought_rises small_sheet bench_air small_ok air_ok Signal 0 (omega arith)

spans : (raw : ℕ) → raw ≤ 150000000 → pos 1 ≤ℤ (pos raw -ℤ pos 0) → (v w : ℕ) → v ≤ w
    → NotAbove (sought_reading bench_sheet bench_air (Span (pos raw) (pos 0)) v) (sought_reading bench_sheet bench_air (Span (pos raw) (pos 0)) w)
spans raw h l = sought_rises bench_sheet bench_air sheet_ok air_ok (Span (pos raw) (pos 0)) 0 (h, omega arith, l, omega arith)

pub starred_references : StarredReferences
unfolding reference_of span_of absolute_of signal_of against_of nearest reduced_of slope2_of slope1_of cubic_of moist_of warm_of wet_of
starred_references =
    record {
      reference = by_neighbours _ signals 1000000000 0 150000001 39999999 (omega arith) (omega arith) refl refl refl;
      raw_0 = refl;
      raw_10000000 = refl;
      raw_minus = refl;
      k_10000000 = ap reference_refusal (none_between _ small_signals 1000000000 0 150000001 9999999 refl refl refl);
      span_800000 = by_neighbours _ (spans 50000000 (omega arith) (le_z_yes tt)) 1000000000 500000 1500001 799999 (omega arith) (omega arith) refl refl refl;
      span_2000000 = by_neighbours _ (spans 20000000 (omega arith) (le_z_yes tt)) 1000000000 500000 1500001 1999999 (omega arith) (omega arith) refl refl refl;
      span_beyond = ap span_refusal (none_to _ (spans 19999999 (omega arith) (le_z_yes tt)) 1000000000 500000 1500001 2000000 (omega arith) refl refl);
      span_500000 = by_neighbours _ (spans 80000000 (omega arith) (le_z_yes tt)) 1000000000 500000 1500001 499999 (omega arith) (omega arith) refl refl refl;
      span_below = refl;
    }
