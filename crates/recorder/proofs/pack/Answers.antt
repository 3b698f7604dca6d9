-- `pack` meets its contract: what is accepted has a code that its twelve bits hold. Assumes nothing.
use Rattle.std.proofs.Common.{◌≡◌, ap, Some, rules, sym, true, false}
use mathlib.Core.Bool.{and-false}
use borrow.Author.Tests.{lt-ltb, le-ltb}
use mir.Facts.{to_z-of_z}
use mir.Syntax.{w64}
use mir.Val.{SFits}
use Rattle.recorder.specs.Recorder.{in_range, scales, code_of, pack_of}
use Rattle.recorder.proofs.Codes.{accepts_is, code_within, size_within}
use Rattle.recorder.proofs.pack.Goals as goal
use Rattle.recorder.proofs.pack.Goals.{After-code, else-in_range-via-then-in_range+else-channel-lt16, else-in_range-via-else-in_range}

-- the code, in the parameters' terms
code_is : (c : After-code) → c.code.result ≡ code_of c.args.kind c.args.x c.args.x0 c.args.xf
code_is c =
    let f = c.ranges.x in let g = c.ranges.x0 in let h = c.ranges.xf in
    simp (to_z-of_z, c.in_ok-scale.ensures.ends.0, c.in_ok-scale.ensures.ends.1) at c.code.ensures

pub returns-in_err-scale : goal.returns-in_err-scale
unfolding pack_of
returns-in_err-scale c =
    let g = c.ranges.x0 in let h = c.ranges.xf in
    let no : scales c.args.x0 c.args.xf ≡ false = sym (simp to_z-of_z at c.in_err-scale.ensures.made) in
    simp (accepts_is, no, and-false) c.from_residual.ensures

pub word-requires : goal.word-requires
word-requires c =
    let r : SFits w64 c.code.result = search rules in
    let w = code_within c.args.kind c.args.x c.args.x0 c.args.xf in
    simp to_z-of_z (rw (code_is (goal.at.word-requires c).After-code) (size_within c.args.kind _ w.0 w.1), c.if-channel-lt16.true)

pub returns-then-channel-lt16 : goal.returns-then-channel-lt16
unfolding pack_of
returns-then-channel-lt16 c =
    let f = c.ranges.x in let g = c.ranges.x0 in let h = c.ranges.xf in
    let r : SFits w64 c.code.result = search rules in
    let made : scales c.args.x0 c.args.xf ≡ true = sym (simp to_z-of_z at c.in_ok-scale.ensures.made) in
    let value : in_range c.args.x ≡ true = sym (simp to_z-of_z at c.if-in_range.ensures) in
    let packed = rw (code_is (goal.at.returns-then-channel-lt16 c).After-code) at (simp to_z-of_z at c.word.ensures) in
    simp (accepts_is, value, made, lt-ltb _ 16 c.if-channel-lt16.true) (ap Some packed)

pub returns-else-in_range : goal.returns-else-in_range
unfolding pack_of
returns-else-in_range c =
    let f = c.ranges.x in let g = c.ranges.x0 in let h = c.ranges.xf in
    let made : scales c.args.x0 c.args.xf ≡ true = sym (simp to_z-of_z at c.in_ok-scale.ensures.made) in
    elim c.else-in_range.branch [
      | else-in_range-via-then-in_range+else-channel-lt16 w ↦ simp (accepts_is, made, le-ltb _ 16 w.if-channel-lt16.false, and-false)
      | else-in_range-via-else-in_range w ↦ let no : in_range c.args.x ≡ false = sym (simp to_z-of_z at w.if-in_range.ensures) in simp (accepts_is, no)
    ]
