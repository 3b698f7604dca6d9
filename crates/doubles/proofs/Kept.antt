-- No answer is lost on the way to the host, test by test. Assumes nothing.
use Prim.Native.Nat.{◌^◌, ◌<◌}
use native.Mathlib.Omega.{arith}
use mathlib.Core.Bool.{true}
use mathlib.Core.Path.{◌≡◌, refl}
use borrow.Author.Tests.{lt-ltb, ne_eqb}
use lib.IntN.{ℤ, nat_abs}
use Rattle.doubles.specs.Doubles.{below_limit, host_sample, host_area}
use Rattle.doubles.specs.Kept.{ReadingKept, AreaKept, RefusalKept}

within_limit : (z : ℤ) → nat_abs z < 2 ^ 53 → below_limit z ≡ true
within_limit z h = lt-ltb (nat_abs z) _ (omega arith)

pub reading_kept : ReadingKept
unfolding host_sample
reading_kept a r k x y = rw (r, k, within_limit a.x x, within_limit a.y y)

pub area_kept : AreaKept
unfolding host_area
area_kept a r k x = rw (r, k, within_limit a.x x)

pub refusal_kept : RefusalKept
unfolding host_sample host_area
refusal_kept a h = rw (ne_eqb a.refusal 0 (λ e. omega (arith, h))) (refl, refl)
