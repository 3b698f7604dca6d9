-- The test of the vapour pressure, as the code makes it and as the limits have it. Assumes nothing.
use mathlib.Core.Path.{◌≡◌, refl, sym}
use mathlib.Core.Bool.{Bool, true, false}
use Prim.Native.Nat.{ℕ, ◌*◌, ◌/◌}
use native.Mathlib.Omega.{arith}
use lib.Dec.{leb}
use borrow.Author.Tests.{le-leb, lt-leb, leb-true, leb-false}

-- e ≤ p / 10 and 10e ≤ p, as tests
pub tenth : (e p : ℕ) → leb e (p / 10) ≡ leb (10 * e) p
tenth e p = go (leb e (p / 10)) refl
  where
    go : (b : Bool) → leb e (p / 10) ≡ b → b ≡ leb (10 * e) p
    go true h = sym (le-leb (10 * e) p (omega (arith, leb-true e (p / 10) h)))
    go false h = sym (lt-leb (10 * e) p (omega (arith, leb-false e (p / 10) h)))
