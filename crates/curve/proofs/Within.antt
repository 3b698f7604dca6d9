-- The tests of a sheet and of the air decide the limits that a `requires` has as facts. Assumes nothing.
use mathlib.Core.Path.{◌≡◌, refl, sym, subst}
use mathlib.Core.Bool.{Bool, true, false, ◌&&◌}
use Prim.Native.Nat.{ℕ, ◌*◌, ◌≤◌}
use native.Mathlib.Omega.{arith}
use lib.Dec.{T, leb}
use borrow.Author.Tests.{leb-true, le-leb}
use Rattle.curve.specs.declared.Sheet.{Sheet}
use Rattle.curve.specs.declared.Air.{Air}
use Rattle.curve.specs.Limits.{within, sheet_within, air_within, SheetOk, AirOk}

pub both : (a b : Bool) → (a && b) ≡ true → (a ≡ true) × (b ≡ true)
both true b e = (refl, e)
both false b e = absurd (subst T (sym e) tt)

pub range : (low high n : ℕ) → within low high n ≡ true → (low ≤ n) × (n ≤ high)
range low high n e = let w = both (leb low n) (leb n high) e in (leb-true low n w.0, leb-true n high w.1)

in_range : (low high n : ℕ) → low ≤ n → n ≤ high → within low high n ≡ true
in_range low high n l h = rw (le-leb low n l, le-leb n high h)

pub sheet_ok : (s : Sheet) → sheet_within s ≡ true → SheetOk s
unfolding sheet_within
sheet_ok s e =
    let k = both _ (within 10000000 400000000 s.k) e in
    let t = both _ (within 27315 32315 s.t0) k.0 in
    let c = both _ (leb s.a3 10000000) t.0 in
    let b = both (within 1 1000000000 s.a1) (leb s.a2 100000000) c.0 in
    omega (
      arith,
      range 1 1000000000 s.a1 b.0,
      leb-true s.a2 100000000 b.1,
      leb-true s.a3 10000000 c.1,
      range 27315 32315 s.t0 t.1,
      range 10000000 400000000 s.k k.1,
    )

pub ok_sheet : (s : Sheet) → SheetOk s → sheet_within s ≡ true
unfolding sheet_within
ok_sheet s o =
    rw (
      in_range 1 1000000000 s.a1 o.a1_low o.a1_high,
      le-leb s.a2 100000000 o.a2_high,
      le-leb s.a3 10000000 o.a3_high,
      in_range 27315 32315 s.t0 o.t0_low o.t0_high,
      in_range 10000000 400000000 s.k o.k_low o.k_high,
    )

pub air_ok : (a : Air) → air_within a ≡ true → AirOk a
unfolding air_within
air_ok a e =
    let v = both _ (leb (10 * a.e) a.p) e in
    let t = both (within 60000 115000 a.p) (within 27315 32315 a.t) v.0 in
    omega (arith, range 60000 115000 a.p t.0, range 27315 32315 a.t t.1, leb-true (10 * a.e) a.p v.1)

pub ok_air : (a : Air) → AirOk a → air_within a ≡ true
unfolding air_within
ok_air a o =
    rw (in_range 60000 115000 a.p o.p_low o.p_high, in_range 27315 32315 a.t o.t_low o.t_high, le-leb (10 * a.e) a.p o.e_high)
