-- The area of wet values that each lie within 1,800 of their exact value: it lies within 1,800 (4n − 4) of the exact area. Each of
-- the n − 1 values after the first counts twice, and n − 1 times the first and the last. Both areas are the paper's rule to the letter. Assumes
-- nothing.
use mathlib.Core.List.{List, [], ◌∷◌, ◌++◌}
use mathlib.Core.Path.{◌≡◌, refl}
use Prim.Native.Nat.{ℕ, zero, suc, ◌*◌, ◌-◌, ◌<◌}
use native.Mathlib.Nat.{le_refl, mul-pos}
use native.Mathlib.Omega.{arith}
use lib.IntN.{ℤ, pos, ◌+ℤ◌, ◌-ℤ◌, ◌*ℤ◌}
use lib.ListN.{length, get_or, drop, length-drop}
use Rattle.rounding.proofs.Approximation.{within_weaken, within_scale, within_sum, within_difference}
use Rattle.rounding.proofs.Difference.{is_add, is_minus, is_scale, is_parts, is_eq}
use Rattle.exact.specs.Fraction.{Fraction, whole, plus, minus, scaled, Across, SameValue, LiesWithin}
use Rattle.exact.specs.Bounds.{against_bound, area_bound}
use Rattle.exact.specs.Area.{first_of, sum_of, ends_of, area_of, exact_sum, exact_ends, exact_area, EachWithin, empty, next, ByTheLetter}
use Rattle.exact.proofs.Distance.{lies_approx, approx_lies}

pub same_length : {ws : List ℤ} {xs : List Fraction} → EachWithin ws xs → length ws ≡ length xs
same_length empty = refl
same_length (next h r) = rw (same_length r)

-- one value more, at the end
pub each_append : {ws : List ℤ} {xs : List Fraction} {w : ℤ} {x : Fraction} → EachWithin ws xs → LiesWithin w against_bound x
    → EachWithin (ws ++ w ∷ []) (xs ++ x ∷ [])
each_append empty h = next h empty
each_append (next g r) h = next g (each_append r h)

-- the values at each place of the two lists, and 0 past their ends
at_place : {ws : List ℤ} {xs : List Fraction} → EachWithin ws xs → (i : ℕ) → LiesWithin (get_or ws i (pos 0)) against_bound (get_or xs i (whole (pos 0)))
at_place empty i = record { lower = omega arith; distance = omega arith }
at_place (next h r) zero = h
at_place (next h r) (suc i) = at_place r i

-- what follows the first
after_first : {ws : List ℤ} {xs : List Fraction} → EachWithin ws xs → EachWithin (drop 1 ws) (drop 1 xs)
after_first empty = empty
after_first (next h r) = r

sum_distance : {ws : List ℤ} {xs : List Fraction} → EachWithin ws xs → LiesWithin (sum_of ws) (against_bound * length xs) (exact_sum xs)
sum_distance empty = record { lower = omega arith; distance = omega arith }
sum_distance (next {xs = xs} h r) =
    let g = sum_distance r in
    approx_lies (mul-pos h.lower g.lower)
    (within_weaken (within_sum (lies_approx h) (lies_approx g)) (against_bound * suc (length xs)) 1 (omega arith) (omega arith))

pub area_distance : {ws : List ℤ} {xs : List Fraction} → EachWithin ws xs → LiesWithin (area_of ws) (area_bound (length xs)) (exact_area xs)
unfolding area_of exact_area
area_distance {ws} {xs} r =
    let n = length xs in let g = sum_distance (after_first r) in let first = at_place r 0 in let last = at_place r (n - 1) in
    let ends = within_scale (within_sum (lies_approx first) (lies_approx last)) (n - 1) (le_refl (n - 1)) in
    rw (same_length r)
    (approx_lies (mul-pos g.lower (mul-pos first.lower last.lower))
    (within_weaken (within_difference (within_scale (lies_approx g) 2 (le_refl 2)) ends) (area_bound n) 1 (omega arith) (omega (arith, length-drop 1 xs))))

-- ---- to the letter

-- all less the first is the rest
taken : (w s : ℤ) → (w +ℤ s) -ℤ w ≡ s
taken w s = let W = is_parts w in let S = is_parts s in is_eq (is_minus (is_add W S) W) S (omega arith)

wet_letter : (ws : List ℤ) → area_of ws ≡ (sum_of ws -ℤ first_of (pos 0) ws) *ℤ pos 2 -ℤ ends_of ws *ℤ pos (length ws - 1)
unfolding area_of
wet_letter [] = refl
wet_letter (w ∷ ws) = rw (taken w (sum_of ws))

-- twice the rest s, less e, beside twice what is left of x and s without x, less e
letter_across : (x s e : Fraction) → Across (minus (scaled s 2) e) (minus (scaled (minus (plus x s) x) 2) e)
letter_across x s e =
    let X = is_parts x.num in let S = is_parts s.num in let E = is_parts e.num in
    let all = is_add (is_scale s.den X) (is_scale x.den S) in
    let rest = is_minus (is_scale x.den all) (is_scale (x.den * s.den) X) in
    is_eq (is_scale (x.den * s.den * x.den * e.den) (is_minus (is_scale e.den (is_scale 2 S)) (is_scale s.den E)))
    (is_scale (s.den * e.den) (is_minus (is_scale e.den (is_scale 2 rest)) (is_scale (x.den * s.den * x.den) E)))
    (omega arith)

exact_letter : {ws : List ℤ} {xs : List Fraction} → EachWithin ws xs
    → SameValue (exact_area xs) (minus (scaled (minus (exact_sum xs) (first_of (whole (pos 0)) xs)) 2) (scaled (exact_ends xs) (length xs - 1)))
unfolding exact_area
exact_letter empty = record { lower = (omega arith, omega arith); across = refl }
exact_letter (next {x = x} {xs = xs} h r) =
    let g = sum_distance r in let others = suc (length xs) - 1 in let last = at_place (next h r) others in
    let e : 0 < (exact_ends (x ∷ xs)).den = mul-pos h.lower last.lower in
    record {
      lower = (mul-pos g.lower e, mul-pos (mul-pos (mul-pos h.lower g.lower) h.lower) e);
      across = letter_across x (exact_sum xs) (scaled (exact_ends (x ∷ xs)) others);
    }

pub by_the_letter : ByTheLetter
by_the_letter = record { wet = wet_letter; exact = exact_letter }
