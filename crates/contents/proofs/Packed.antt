-- What records have that are written. Assumes nothing.
use Prim.Native.Nat.{ℕ, ◌+◌, ◌≤◌}
use native.Mathlib.Omega.{arith}
use mathlib.Core.Bool.{true, ◌&&◌}
use mathlib.Core.List.{List}
use mathlib.Core.Path.{◌≡◌, sym, ◌∙◌}
use borrow.Author.Tests.{leb-true}
use lib.Dec.{leb}
use lib.ListN.{length}
use Rattle.curve.proofs.Within.{both}
use Rattle.layout.proofs.Lent.{status_passed}
use Rattle.contents.specs.Packed.{packed, packed_status}

module _ (sheets events : List ℕ) where
  -- within the counts, right, and with room for the file
  pub record Served (room : ℕ) : Type 0 where
    pub few : length sheets ≤ 384
    pub short : length events ≤ 64800
    pub right : packed sheets events ≡ true
    pub holds : 16 + length sheets + length events ≤ room

  pub served : (room : ℕ) {status : ℕ} → status ≡ packed_status sheets events room → status ≡ 0 → Served room
  unfolding packed_status
  served room e z =
      let c = status_passed (leb (length sheets) 384 && leb (length events) 64800) (omega arith) (sym e ∙ z) in
      let n = both (leb (length sheets) 384) (leb (length events) 64800) c.0 in
      let p = status_passed (packed sheets events) (omega arith) c.1 in
      let l = status_passed (leb (16 + length sheets + length events) room) (omega arith) p.1 in
      record { few = leb-true _ _ n.0; short = leb-true _ _ n.1; right = p.0; holds = leb-true _ _ l.0 }
