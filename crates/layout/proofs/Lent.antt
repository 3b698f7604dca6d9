-- Bytes put into a lent buffer: one piece after the other is both at once, one over the end of another takes that end's place, and the
-- buffer keeps its length. And the two ways in which a tool ends that fills one. Assumes nothing.
use Prim.Native.Nat.{ℕ, ◌+◌, ◌<◌, ◌≤◌}
use native.Mathlib.Omega.{arith}
use mathlib.Core.Bool.{Bool, true, false, cond}
use mathlib.Core.List.{List, [], ◌++◌}
use mathlib.Core.Path.{◌≡◌, refl, sym, ◌∙◌}
use borrow.Author.Tests.{eqb-true, ne_eqb}
use lib.Dec.{eqb}
use lib.ListN.{length, length-append, length-take, length-drop}
use Rattle.layout.specs.declared.TurnedAway.{TurnedAway}
use Rattle.layout.specs.Lent.{Puts, Fills}
use Rattle.layout.specs.Ended.{number_of}
use Rattle.fields.proofs.Splices.{splice_none, next, over}

pub puts_none : (old : List ℕ) (at : ℕ) → at ≤ length old → Puts old at [] old at
puts_none old at h = record { ends = omega arith; room = h; stands = sym (splice_none old at) }

module _ {old : List ℕ} {at : ℕ} {bytes out : List ℕ} {past : ℕ} (p : Puts old at bytes out past) where
  pub puts_length : length out ≡ length old
  puts_length =
      let e = p.ends in let r = p.room in
      rw p.stands (simp (length-append, length-take, length-drop) (omega arith))

  -- another piece, put where this one ends
  pub puts_both : {more out' : List ℕ} {past' : ℕ} → Puts out past more out' past' → Puts old at (bytes ++ more) out' past'
  puts_both {more} q =
      let e = p.ends in let r = p.room in
      record {
        ends = omega (arith, q.ends, length-append bytes more);
        room = omega (arith, q.room, puts_length);
        stands = q.stands ∙ rw (p.stands, e) (next old bytes more at (length bytes) refl (omega arith));
      }

-- a piece put over the end of another, in the place of one as long
pub puts_over : (a t s : List ℕ) {old mid out : List ℕ} {at past past' : ℕ} → Puts old at (a ++ t) mid past → length t ≡ length s
    → Puts mid (at + length a) s out past' → Puts old at (a ++ s) out past'
puts_over a t s {old} {at = at} p e q =
    let l = length-append a t in let m = length-append a s in
    record {
      ends = omega (arith, q.ends);
      room = omega (arith, p.room, p.ends, q.ends);
      stands = q.stands ∙ rw p.stands (over old a t s at e (omega (arith, p.room, p.ends)));
    }

-- ---- a status is 0 where one test before the others is passed, and theirs is 0
pub status_passed : (b : Bool) {rest number : ℕ} → 0 < number → cond b rest number ≡ 0 → (b ≡ true) × (rest ≡ 0)
status_passed true h z = (refl, z)
status_passed false h z = absurd (omega arith)

-- ---- how a tool ends that fills a buffer, as its status says
module _ {due : ℕ} {bytes old : List ℕ} {status : ℕ} (e : status ≡ due) where
  pub turned_away : (status ≡ 0 → ⊥) → Fills due bytes old status 0 old
  turned_away h =
      let n = ne_eqb due 0 (λ z. h (e ∙ z)) in
      record { ended = e; counted = rw n; stands = rw n; room = λ z. absurd (h (e ∙ z)) }

  pub filled : {written : ℕ} {out : List ℕ} → status ≡ 0 → Puts old 0 bytes out written → Fills due bytes old status written out
  filled z p =
      let d : due ≡ 0 = sym e ∙ z in
      let w = p.ends in let r = p.room in
      record { ended = e; counted = rw d (omega arith); stands = rw d p.stands; room = λ _. omega arith }

-- one that turns away has a number that is not 0
pub numbered : (away : TurnedAway) → number_of away ≡ 0 → ⊥
numbered TurnedAway.Malformed z = absurd (omega arith)
numbered TurnedAway.NoSession z = absurd (omega arith)
numbered TurnedAway.NoRoomForAnswers z = absurd (omega arith)
numbered TurnedAway.TooMany z = absurd (omega arith)
numbered TurnedAway.NoRoomForFile z = absurd (omega arith)
numbered TurnedAway.NoSuchNumber z = absurd (omega arith)
numbered TurnedAway.NoRoomForPage z = absurd (omega arith)

-- and what that tells
module _ {due : ℕ} {bytes old : List ℕ} {status written : ℕ} {out : List ℕ} (f : Fills due bytes old status written out) where
  pub fills_puts : due ≡ 0 → Puts old 0 bytes out written
  fills_puts d =
      let c = rw d at f.counted in let r = f.room d in
      record { ends = omega arith; room = omega arith; stands = rw d at f.stands }

  pub fills_kept : (due ≡ 0 → ⊥) → (written ≡ 0) × (out ≡ old)
  fills_kept n = let m = ne_eqb due 0 n in (rw m at f.counted, rw m at f.stands)

  -- either way what was written lies in the buffer
  pub fills_within : written ≤ length old
  fills_within = go (eqb due 0) refl
    where
      go : (b : Bool) → eqb due 0 ≡ b → written ≤ length old
      go true e = (fills_puts (eqb-true due 0 e)).room
      go false e = let z : written ≡ 0 = rw e at f.counted in omega arith
