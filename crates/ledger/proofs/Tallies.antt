-- The tally of a list of wet values, and the integration beside the wet values counted since the start and the ledger's series:
-- it is their tally, and each is within 1,800 of the exact value in its place. Counting and closing keep them together. Assumes
-- nothing.
use mathlib.Core.Bool.{Bool, true, false, not, cond}
use mathlib.Core.List.{List, [], ◌∷◌, ◌++◌}
use mathlib.Core.Path.{◌≡◌, refl, sym, ap, ◌∙◌}
use Prim.Native.Nat.{ℕ, zero, suc, ◌+◌, ◌*◌, ◌-◌, ◌≤◌, ◌<◌}
use native.Mathlib.Nat.{le_of_lt}
use native.Mathlib.Omega.{arith}
use borrow.Author.Tests.{le-leb, lt-ltb, eqb-false}
use lib.Dec.{eqb, eqb-suc-zero}
use lib.IntN.{ℤ, pos, nat_abs, ◌+ℤ◌, +ℤ_assoc, +ℤ_idl, +ℤ_idr}
use lib.ListN.{length, get_or, length-append}
use Rattle.rounding.proofs.Integers.{abs_add}
use Rattle.exact.specs.Fraction.{Fraction, LiesWithin}
use Rattle.exact.specs.Bounds.{against_bound}
use Rattle.exact.specs.Area.{first_of, last_of, sum_of, area_of, EachWithin, empty}
use Rattle.exact.proofs.Area.{same_length, each_append, by_the_letter}
use Rattle.counting.specs.declared.Chart.{Chart}
use Rattle.counting.specs.declared.Tally.{Tally}
use Rattle.counting.specs.declared.Integration.{Integration}
use Rattle.counting.specs.Integration.{integration_limit, started, tallied_of, counted_of, closed_of, tally_area}
use Rattle.counting.specs.Limits.{integration_within}
use Rattle.engine.proofs.Cases.{Tallied, in_running, in_closed}

-- ---- the tally of a list
abbrev pub tally_of : List ℤ → Tally
tally_of ws = record { n = length ws; first = first_of (pos 0) ws; last = last_of (pos 0) ws; sum = sum_of ws }

-- its area is the rule's over the list
pub tally_area_lem : (ws : List ℤ) → tally_area (tally_of ws) ≡ area_of ws
unfolding tally_area
tally_area_lem ws = sym (by_the_letter.wet ws)

first_append : (ws : List ℤ) (w : ℤ) → cond (eqb (length ws) 0) w (first_of (pos 0) ws) ≡ first_of (pos 0) (ws ++ (w ∷ []))
first_append [] w = refl
first_append (a ∷ ws) w = rw (eqb-suc-zero (length ws))

at_end : (ws : List ℤ) (w : ℤ) → get_or (ws ++ (w ∷ [])) (length ws) (pos 0) ≡ w
at_end [] w = refl
at_end (a ∷ ws) w = at_end ws w

last_append : (ws : List ℤ) (w : ℤ) → last_of (pos 0) (ws ++ (w ∷ [])) ≡ w
last_append ws w =
    let l : length (ws ++ (w ∷ [])) - 1 ≡ length ws = omega (arith, length-append ws (w ∷ [])) in
    ap (λ (i : ℕ). get_or (ws ++ (w ∷ [])) i (pos 0)) l ∙ at_end ws w

sum_append : (ws : List ℤ) (w : ℤ) → sum_of (ws ++ (w ∷ [])) ≡ sum_of ws +ℤ w
sum_append [] w = +ℤ_idr w ∙ sym (+ℤ_idl w)
sum_append (a ∷ ws) w = ap (λ (z : ℤ). a +ℤ z) (sum_append ws w) ∙ sym (+ℤ_assoc a (sum_of ws) w)

tallied : (ws : List ℤ) (w : ℤ) → tallied_of (tally_of ws) w ≡ tally_of (ws ++ (w ∷ []))
tallied ws w =
    let l : length ws + 1 ≡ length (ws ++ (w ∷ [])) = omega (arith, length-append ws (w ∷ [])) in
    let f = first_append ws w in
    let e = last_append ws w in
    let s = sum_append ws w in
    cc

-- ---- wet values of at most 3,000,000,000
pub data EachSmall : List ℤ → Type 0 where
  none : EachSmall []
  more : {w : ℤ} {ws : List ℤ} → nat_abs w ≤ 3000000000 → EachSmall ws → EachSmall (w ∷ ws)

small_append : {ws : List ℤ} (w : ℤ) → EachSmall ws → nat_abs w ≤ 3000000000 → EachSmall (ws ++ (w ∷ []))
small_append w none h = more h none
small_append w (more g r) h = more g (small_append w r h)

small_at : {ws : List ℤ} → EachSmall ws → (i : ℕ) → nat_abs (get_or ws i (pos 0)) ≤ 3000000000
small_at none i = omega arith
small_at (more h r) zero = h
small_at (more h r) (suc i) = small_at r i

small_sum : {ws : List ℤ} → EachSmall ws → nat_abs (sum_of ws) ≤ length ws * 3000000000
small_sum none = omega arith
small_sum (more {w} {ws} h r) = omega (arith, abs_add w (sum_of ws), small_sum r)

-- ---- the integration beside the wet values answered and the series: a running one and the series have the same limit
pub data Keeps : Integration → List ℤ → List Fraction → Bool → ℕ → Type 0 where
  idle : {limit : ℕ} → Keeps Integration.Idle [] [] false limit
  running : {chart : Chart} {ws : List ℤ} {xs : List Fraction} → EachWithin ws xs → EachSmall ws → length ws < integration_limit chart
      → Keeps (Integration.Running chart (tally_of ws)) ws xs true (integration_limit chart)
  closed : {ws : List ℤ} {xs : List Fraction} {limit : ℕ} → EachWithin ws xs → EachSmall ws → length ws ≤ integration_limit Chart.Long
      → Keeps (Integration.Closed (tally_of ws)) ws xs false limit

pub keeps_started : (chart : Chart) → Keeps (started chart) [] [] true (integration_limit chart)
keeps_started Chart.Long = running {chart = Chart.Long} empty none (omega arith)
keeps_started Chart.Short = running {chart = Chart.Short} empty none (omega arith)

-- no chart has a higher limit than the long one
limit_most : (chart : Chart) → integration_limit chart ≤ integration_limit Chart.Long
limit_most Chart.Long = omega arith
limit_most Chart.Short = omega arith

below_most : (chart : Chart) {n : ℕ} → n ≤ integration_limit chart → n ≤ integration_limit Chart.Long
below_most chart l = omega (arith, limit_most chart)

pub keeps_closed : {i : Integration} {ws : List ℤ} {xs : List Fraction} {b : Bool} {limit : ℕ} → Keeps i ws xs b limit → Keeps (closed_of i) ws xs false limit
keeps_closed idle = idle
keeps_closed (running {chart} e r l) = closed e r (below_most chart (le_of_lt l))
keeps_closed (closed e r l) = closed e r l

module _ (chart : Chart) {ws : List ℤ} {xs : List Fraction} (e : EachWithin ws xs) (r : EachSmall ws) where
  after : (t : Bool) → (t ≡ false → length ws < integration_limit chart) → length ws ≤ integration_limit chart
      → Keeps (cond t (Integration.Closed (tally_of ws)) (Integration.Running chart (tally_of ws))) ws xs (not t) (integration_limit chart)
  after true h l = closed e r (below_most chart l)
  after false h l = running e r (h refl)

-- what a list becomes that takes a value, the series running or not
abbrev pub taken_at_end : {A : Type 0} → List A → Bool → A → List A
taken_at_end xs b x = cond b (xs ++ (x ∷ [])) xs

abbrev pub taken_runs : List Fraction → Bool → ℕ → Bool
taken_runs xs b limit = cond b (not (eqb (length xs + 1) limit)) false

pub keeps_counted : {i : Integration} {ws : List ℤ} {xs : List Fraction} {b : Bool} {limit : ℕ} {w : ℤ} {x : Fraction} → Keeps i ws xs b limit
    → LiesWithin w against_bound x → nat_abs w ≤ 3000000000
    → Keeps (counted_of i w) (taken_at_end ws b w) (taken_at_end xs b x) (taken_runs xs b limit) limit
keeps_counted idle n h = idle
keeps_counted (closed e r l) n h = closed e r l
keeps_counted {ws = ws} {w = w} (running {chart} e r l) n h =
    let m : length (ws ++ (w ∷ [])) ≡ length ws + 1 = length-append ws (w ∷ []) in
    rw (tallied ws w, ← same_length e)
    (after chart (each_append e n) (small_append w r h) (eqb (length ws + 1) (integration_limit chart))
    (λ t. let f : length ws + 1 ≡ integration_limit chart → ⊥ = eqb-false _ _ t in omega arith) (omega arith))

-- ---- such an integration is within what the code can work with
tally_within_lem : (ws : List ℤ) → EachSmall ws → length ws ≤ integration_limit Chart.Long → integration_within (Integration.Closed (tally_of ws)) ≡ true
tally_within_lem ws r l =
    rw (le-leb (length ws) (integration_limit Chart.Long) l, le-leb _ 3000000000 (small_at r 0), le-leb _ 3000000000 (small_at r (length ws - 1)))
    (le-leb (nat_abs (sum_of ws)) 1800000000000000 (omega (arith, small_sum r)))

pub keeps_within : {i : Integration} {ws : List ℤ} {xs : List Fraction} {b : Bool} {limit : ℕ} → Keeps i ws xs b limit → integration_within i ≡ true
keeps_within idle = refl
keeps_within {ws = ws} (running {chart} e r l) = rw (tally_within_lem ws r (below_most chart (le_of_lt l)), lt-ltb (length ws) (integration_limit chart) l)
keeps_within {ws = ws} (closed e r l) = tally_within_lem ws r l

-- its tally, where it has one
pub keeps_tally : {i : Integration} {ws : List ℤ} {xs : List Fraction} {b : Bool} {limit : ℕ} {t : Tally} → Keeps i ws xs b limit → Tallied i t
    → (t ≡ tally_of ws) × EachWithin ws xs
keeps_tally (running e r l) in_running = (refl, e)
keeps_tally (closed e r l) in_closed = (refl, e)
keeps_tally idle x = elim x [ ]
