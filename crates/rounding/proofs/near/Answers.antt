-- `near` meets its contract: the quotient is the size of `nearest`, and the sign is put back. Assumes nothing.
use mathlib.Core.Path.{◌≡◌, ◌∙◌, ap}
use mathlib.Core.Bool.{true, false}
use Prim.Native.Nat.{ℕ}
use borrow.Author.Rules.{rules}
use mir.Facts.{to_z-of_z}
use mir.Syntax.{w64}
use mir.Val.{SFits}
use lib.IntN.{pos, neg_ℤ, nat_abs}
use lib.Signed.{lt_z}
use Rattle.rounding.specs.Near.{nearest_size}
use Rattle.rounding.proofs.Nearest.{at_negative, at_nonnegative}
use Rattle.rounding.proofs.near.Goals as goal
use Rattle.rounding.proofs.near.Goals.{After-unsigned_abs, After-unsigned_abs-else-a-lt0}

m_is : (c : After-unsigned_abs) → c.unsigned_abs.result ≡ nat_abs c.args.a
m_is c = let fa = c.ranges.a in (simp to_z-of_z at c.unsigned_abs.ensures).value

m_is_2 : (c : After-unsigned_abs-else-a-lt0) → c.unsigned_abs-else-a-lt0.result ≡ nat_abs c.args.a
m_is_2 c = let fa = c.ranges.a in (simp to_z-of_z at c.unsigned_abs-else-a-lt0.ensures).value

pub returns-then-a-lt0 : goal.returns-then-a-lt0
returns-then-a-lt0 c =
    let fa = c.ranges.a in
    let t : lt_z c.args.a (pos 0) ≡ true = simp to_z-of_z at c.if-a-lt0.true in
    let r : SFits w64 c.negative.result = search rules in
    to_z-of_z r ∙ c.negative.ensures ∙ ap (λ (q : ℕ). neg_ℤ (pos q)) c.quotient.ensures
    ∙ ap (λ (m : ℕ). neg_ℤ (pos (nearest_size m c.args.b))) (m_is (goal.at.returns-then-a-lt0 c).After-unsigned_abs) ∙ at_negative c.args.a c.args.b t

pub returns-else-a-lt0 : goal.returns-else-a-lt0
returns-else-a-lt0 c =
    let fa = c.ranges.a in
    let t : lt_z c.args.a (pos 0) ≡ false = simp to_z-of_z at c.if-a-lt0.false in
    let r : SFits w64 c.positive.result = search rules in
    to_z-of_z r ∙ c.positive.ensures ∙ ap pos c.quotient-else-a-lt0.ensures
    ∙ ap (λ (m : ℕ). pos (nearest_size m c.args.b)) (m_is_2 (goal.at.returns-else-a-lt0 c).After-unsigned_abs-else-a-lt0) ∙ at_nonnegative c.args.a c.args.b t
