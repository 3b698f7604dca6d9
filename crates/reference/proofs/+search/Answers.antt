-- `search` meets its contract: the middle's reading decides which half holds the first number that serves. Assumes nothing.
use mathlib.Core.Path.{◌≡◌, sym, ◌∙◌, ap}
use mathlib.Core.Bool.{Bool}
use Prim.Native.Nat.{ℕ, ◌+◌, ◌-◌, ◌/◌, ◌<◌, ◌≤◌}
use native.Mathlib.Omega.{arith}
use borrow.Author.Rules.{rules}
use mir.Facts.{to_z-of_z, to_z_pos}
use mir.Syntax.{w64}
use mir.Val.{SFits}
use Rattle.curve.specs.declared.Sheet.{Sheet}
use Rattle.curve.specs.declared.Air.{Air}
use Rattle.reference.specs.declared.Sought.{Sought}
use Rattle.reference.specs.Search.{least, serves}
use Rattle.reference.specs.Sought.{sought_reading}
use Rattle.reference.proofs.Least.{least_none, lower_half, upper_half, found_or}
use Rattle.reference.proofs.Serving.{none_above, none_below, sought_rises, sought_over}
use Rattle.reference.proofs.+search.Goals as goal

-- the middle of a stretch
abbrev middle : ℕ → ℕ → ℕ
middle low high = low + (high - low) / 2

-- a number that serves
abbrev test : Sheet → Air → Sought → ℕ → ℕ → Bool
test s a sought cylinder n = serves cylinder (sought_reading s a sought n)

pub returns-then-low-high : goal.returns-then-low-high
returns-then-low-high t c =
    let p = c.args in
    sym (least_none (test p.s p.a p.sought p.cylinder) p.low (p.high - p.low) (λ j l h. absurd (no j l h)))
  where
    no : (j : ℕ) → c.args.low ≤ j → j < c.args.low + (c.args.high - c.args.low) → ⊥
    no j l h = omega arith

pub returns-in_default : goal.returns-in_default
returns-in_default t c =
    let p = c.args in
    let m = middle p.low p.high in
    rw c.search.ensures (lower_half (test p.s p.a p.sought p.cylinder) p.low m p.high (omega arith) (omega arith)
    (none_above (sought_reading p.s p.a p.sought) (sought_rises p.s p.a c.requires.0 c.requires.1 p.sought (p.high - 1) c.requires.3) p.cylinder m
    (sought_over p.s p.a p.sought (p.high - 1) c.requires.3 m c.reading_at.ensures c.in_default.not-Ok)))

pub returns : goal.returns
returns t c =
    let p = c.args in
    let m = middle p.low p.high in
    let f : SFits w64 c.in-Ok.c = search rules in
    rw c.search-2.ensures (upper_half (test p.s p.a p.sought p.cylinder) p.low m p.high (omega arith) (omega arith)
    (none_below (sought_reading p.s p.a p.sought) (sought_rises p.s p.a c.requires.0 c.requires.1 p.sought (p.high - 1) c.requires.3) p.cylinder m
    (sym c.reading_at.ensures ∙ c.in-Ok.is) (rw (to_z_pos w64 {n = p.cylinder} (omega (arith, c.requires.2))) at (simp to_z-of_z at c.if-c-cylinder.false))))

pub returns-then-c-cylinder : goal.returns-then-c-cylinder
returns-then-c-cylinder t c =
    let p = c.args in
    let m = middle p.low p.high in
    let f : SFits w64 c.in-Ok.c = search rules in
    let e : least (test p.s p.a p.sought p.cylinder) p.low (m - p.low) ≡ c.search-then-c-cylinder.result = sym c.search-then-c-cylinder.ensures in
    rw c.or.ensures (found_or (test p.s p.a p.sought p.cylinder) p.low m p.high (omega arith) (omega arith) e
    (ap (serves p.cylinder) (sym c.reading_at.ensures ∙ c.in-Ok.is) ∙ (rw (to_z_pos w64 {n = p.cylinder} (omega (arith, c.requires.2))) at (simp to_z-of_z at c.if-c-cylinder.true))))
