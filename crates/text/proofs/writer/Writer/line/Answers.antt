-- `Writer::line` meets its contract: seven pieces, one after the other, whose bounds leave each its room. Assumes nothing.
use Prim.Native.Nat.{ℕ, ◌+◌, ◌^◌, ◌<◌, ◌≤◌}
use native.Mathlib.Omega.{arith}
use mathlib.Core.Path.{◌≡◌, ap}
use lib.ListN.{length, length-append}
use mir.Facts.{to_z_pos}
use mir.Syntax.{w64}
use mir.Val.{to_z, of_z}
use borrow.Author.Rules.{rules}
use Rattle.text.proofs.Writing.{writes_both}
use Rattle.text.specs.Line.{decimal, signed_decimal, line_of, line_room}
use Rattle.text.proofs.Decimal.{at_most, line_fits}
use Rattle.text.proofs.writer.Writer.line.Goals as goal
use Rattle.text.proofs.writer.Writer.line.Goals.{After-decimal, After-spaced-3}

-- x and y, which are of 64 bits
kept_x : (s : After-decimal) → to_z w64 (of_z w64 s.args.a.x) ≡ s.args.a.x
kept_x s = search rules

kept_y : (s : After-decimal) → to_z w64 (of_z w64 s.args.a.y) ≡ s.args.a.y
kept_y s = search rules

-- kind, refusal and m, which are numbers of 32 bits at most
as_it_is : {n : ℕ} → n < 4294967296 → signed_decimal (to_z w64 n) ≡ decimal n
unfolding signed_decimal
as_it_is {n} h = let k : n < 2 ^ 63 = omega arith in rw (to_z_pos w64 k)

as_kind : (s : After-decimal) → signed_decimal (to_z w64 s.args.a.kind) ≡ decimal s.args.a.kind
as_kind s = let h : s.args.a.kind < 256 = search rules in as_it_is (omega arith)

as_refusal : (s : After-decimal) → signed_decimal (to_z w64 s.args.a.refusal) ≡ decimal s.args.a.refusal
as_refusal s = let h : s.args.a.refusal < 256 = search rules in as_it_is (omega arith)

as_m : (s : After-decimal) → signed_decimal (to_z w64 s.args.a.m) ≡ decimal s.args.a.m
as_m s = let h : s.args.a.m < 4294967296 = search rules in as_it_is h

-- the line's length, its room, and as a sum
fits : (s : After-decimal) → length (line_of s.args.ordinal s.args.a) ≤ line_room
fits s = line_fits s.args.ordinal s.args.a (search rules) (search rules) (search rules) (search rules) (search rules) (search rules)

room : (s : After-decimal) → s.args.self.now.at + length (line_of s.args.ordinal s.args.a) ≤ length s.args.self.now.out.now
room s = omega (arith, fits s)

sum : (s : After-decimal) → let a = s.args.a in s.args.self.now.at + (length (decimal s.args.ordinal) + length (decimal a.kind) + length (decimal a.refusal)
    + length (decimal a.m) + length (signed_decimal (to_z w64 (of_z w64 a.x))) + length (signed_decimal (to_z w64 (of_z w64 a.y))) + 6)
    ≤ length s.args.self.now.out.now
unfolding line_of
sum s = rw (kept_x s, kept_y s) (let h = simp length-append at (room s) in omega arith)

-- where x goes
half : (c : After-spaced-3) → let a = c.args.a in
    (c.spaced-3.new.self.at ≡ c.args.self.now.at + (length (decimal c.args.ordinal) + length (decimal a.kind) + length (decimal a.refusal)
    + length (decimal a.m) + 3)) × (length c.spaced-3.new.self.out.now ≡ length c.args.self.now.out.now)
half c =
    let a = c.args.a in
    let h : a.kind < 256 = search rules in let i : a.refusal < 256 = search rules in let j : a.m < 4294967296 = search rules in
    let k = ap length (as_it_is {n = a.kind} (omega arith)) in let r = ap length (as_it_is {n = a.refusal} (omega arith)) in let m = ap length (as_it_is j) in
    (omega arith, omega arith)

pub decimal-requires : goal.decimal-requires
unfolding decimal
decimal-requires c = omega (arith, at_most 20 9 c.args.ordinal (omega arith))

pub spaced-requires : goal.spaced-requires
spaced-requires c = let s = (goal.at.spaced-requires c).After-decimal in omega (arith, sum s, ap length (as_kind s))

pub spaced-requires-2 : goal.spaced-requires-2
spaced-requires-2 c =
    let s = (goal.at.spaced-requires-2 c).After-decimal in
    omega (arith, sum s, ap length (as_kind s), ap length (as_refusal s))

pub spaced-requires-3 : goal.spaced-requires-3
spaced-requires-3 c =
    let s = (goal.at.spaced-requires-3 c).After-decimal in
    omega (arith, sum s, ap length (as_kind s), ap length (as_refusal s), ap length (as_m s))

pub spaced-requires-4 : goal.spaced-requires-4
spaced-requires-4 c =
    let s = (goal.at.spaced-requires-4 c).After-decimal in
    omega (arith, sum s, ap length (as_kind s), ap length (as_refusal s), ap length (as_m s))

pub spaced-requires-5 : goal.spaced-requires-5
spaced-requires-5 c =
    let s = goal.at.spaced-requires-5 c in
    omega (arith, sum s.After-decimal, half s.After-spaced-3)

pub byte-requires : goal.byte-requires
byte-requires c = let s = goal.at.byte-requires c in omega (arith, sum s.After-decimal, half s.After-spaced-3)

pub returns : goal.returns
unfolding line_of
returns c =
    let s = (goal.at.returns c).After-decimal in
    let p = writes_both c.decimal.ensures (rw (as_kind s) at c.spaced.ensures) in
    let p = writes_both (writes_both p (rw (as_refusal s) at c.spaced-2.ensures)) (rw (as_m s) at c.spaced-3.ensures) in
    let p = writes_both p (rw (kept_x s) at c.spaced-4.ensures) in
    let p = writes_both (writes_both p (rw (kept_y s) at c.spaced-5.ensures)) c.byte.ensures in
    record { puts = p; upper_bound = omega (arith, p.puts.ends, fits s) }
