-- Bytes put into a lent buffer: by a copy into the part from an index on, none, one piece after the other, and one over
-- the end of another. Assumes nothing.
use Prim.Native.Nat.{ℕ, ◌+◌, ◌-◌, ◌≤◌}
use native.Mathlib.Nat.{add_assoc, add-zero, le_refl}
use native.Mathlib.Omega.{arith}
use mathlib.Core.Path.{◌≡◌, sym}
use mathlib.Core.List.{List, [], ◌++◌, append-nil, append_assoc}
use lib.ListN.{length, take, drop, length-append, length-drop, take-append-drop, drop_of_length-le}
use lib.Seq.{take_all, take-length, take_at, drop_at, drop-drop, length-take-le}
use borrow.Rule.Slice.PartMut.{put_mid, mid_of}
use Rattle.fields.specs.Fields.{splice}

-- the part from an index on, lent to a copy of b: b stands in the whole
pub copied : (out b part : List ℕ) (at : ℕ) → part ≡ take (length b) b ++ drop (length b) (mid_of at (length out - at) out)
    → put_mid at (length out - at) out part ≡ splice out at b
copied out b part at e =
    let k : length (drop at out) ≤ length out - at = rw length-drop (le_refl _) in
    rw (e, take-length b, take_all (length out - at) (drop at out) k, drop_of_length-le (drop at out) k, append-nil, drop-drop (length b) at out)

-- no bytes at all
pub splice_none : (out : List ℕ) (at : ℕ) → splice out at [] ≡ out
splice_none out at = rw (add-zero, take-append-drop)

-- b put right after a, i bytes long, is both put at once
pub next : (out a b : List ℕ) (at i : ℕ) → length a ≡ i → at + i ≤ length out → splice (splice out at a) (at + i) b ≡ splice out at (a ++ b)
next out a b at i e h =
    let p : length (take at out ++ a) ≡ at + i = rw (length-append, length-take-le at out (omega arith), e) in
    let q : splice out at a ≡ take at out ++ a ++ drop (at + i) out = rw e (sym (append_assoc (take at out) a (drop (at + i) out))) in
    let d : drop (at + i + length b) (splice out at a) ≡ drop (at + (i + length b)) out =
    rw (← drop-drop (length b) (at + i) (splice out at a), q, drop_at _ (drop (at + i) out) (at + i) p, drop-drop, add_assoc) in
    rw (d, q, take_at _ (drop (at + i) out) (at + i) p, length-append, e) (simp append_assoc)

-- s put over t, which ends what was put and is as long
pub over : (out a t s : List ℕ) (at : ℕ) → length t ≡ length s → at + length (a ++ t) ≤ length out
    → splice (splice out at (a ++ t)) (at + length a) s ≡ splice out at (a ++ s)
over out a t s at e h =
    let l = length-append a t in
    let rest = drop (at + (length a + length s)) out in
    let p : length (take at out ++ a) ≡ at + length a = rw (length-append, length-take-le at out (omega arith)) in
    let q : splice out at (a ++ t) ≡ take at out ++ a ++ (t ++ rest) = rw (l, e) (simp append_assoc) in
    let d : drop (at + length a + length s) (splice out at (a ++ t)) ≡ rest =
    rw (← drop-drop (length s) (at + length a) (splice out at (a ++ t)), q, drop_at _ (t ++ rest) (at + length a) p, drop_at t rest (length s) e) in
    rw (d, q, take_at _ (t ++ rest) (at + length a) p, length-append) (simp append_assoc)
