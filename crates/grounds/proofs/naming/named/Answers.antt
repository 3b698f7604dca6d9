-- `grounds::naming::named` meets its contract: a sample that is refused with 8 has a sheet and has passed check 6, so that its signal can be computed
-- again, and that signal is over range. Assumes nothing.
use mathlib.Core.Path.{◌≡◌}
use borrow.Author.Rules.{rules}
use mir.Facts.{to_z-of_z}
use mir.Syntax.{w32, w64}
use mir.Val.{SFits}
use Rattle.curve.specs.Limits.{SheetOk}
use Rattle.curve.proofs.Within.{both}
use Rattle.reference.specs.Signal.{signal_of}
use Rattle.sampling.specs.Sample.{air_of, input_within, vapour_within, signal_read}
use Rattle.sampling.proofs.Within.{InputOk, input_ok}
use Rattle.sampling.proofs.Sizes.{signal_size}
use Rattle.rules.proofs.Workable.{sheet_in}
use Rattle.grounds.proofs.Samples.{OverOn, over_under, first_on}
use Rattle.grounds.proofs.naming.named.Goals as goal
use Rattle.grounds.proofs.naming.named.Goals.{After-from_raw-v, After-signal, After-from}

-- ---- what is known under the loaded sheet
sheet_is_ok : (c : After-from) → SheetOk c.in-Some.s
sheet_is_ok c = sheet_in c.requires.0 c.in-Some.is

over : (c : After-from) → let s = c.args in OverOn c.in-Some.s s.st.q s.st.s s.at s.st.mode s.finding
over c = over_under _ _ _ c.in-Some.is c.requires.3

input : (c : After-from) → InputOk c.args.at
input c =
    let s = c.args in
    input_ok s.at (both (input_within s.at) (vapour_within s.st.mode (air_of s.at)) (over c).checked).0

-- ---- each result in the sample's terms
raw_is : (c : After-from) → c.from.result ≡ c.args.at.raw
raw_is c =
    let f : SFits w32 c.args.at.raw = search rules in
    simp to_z-of_z at c.from.ensures

signal_is : (c : After-from_raw-v) → c.from.result ≡ c.args.at.raw → let s = c.args in c.from_raw-v.result ≡ signal_of s.at.raw s.st.q s.st.s
signal_is c e =
    let fq : SFits w64 c.args.st.q = search rules in
    let fw : SFits w64 c.from.result = search rules in
    rw e at (simp to_z-of_z at c.from_raw-v.ensures)

read_is : (c : After-signal) → let s = c.args in c.from_raw-v.result ≡ signal_of s.at.raw s.st.q s.st.s → c.signal.result ≡ signal_read c.in-Some.s s.st.mode s.finding (signal_of s.at.raw s.st.q s.st.s)
read_is c e =
    let f : SFits w64 c.from_raw-v.result = search rules in
    rw e at (simp to_z-of_z at c.signal.ensures)

pub from_raw-v-requires : goal.from_raw-v-requires
from_raw-v-requires c =
    let p = (goal.at.from_raw-v-requires c).After-from in
    let fq : SFits w64 c.args.st.q = search rules in
    let fw : SFits w64 c.from.result = search rules in
    simp to_z-of_z (rw (raw_is p) (input p).raw, c.requires.1, c.requires.2)

pub signal-requires : goal.signal-requires
signal-requires c =
    let p = goal.at.signal-requires c in
    let s = c.args in
    let f : SFits w64 c.from_raw-v.result = search rules in
    simp to_z-of_z
    (sheet_is_ok p.After-from, c.requires.4, rw (signal_is p.After-from_raw-v (raw_is p.After-from)) (signal_size s.at.raw s.st.q s.st.s (input p.After-from).raw c.requires.1 c.requires.2))

pub first_ground-requires : goal.first_ground-requires
first_ground-requires c =
    let p = goal.at.first_ground-requires c in
    let f : SFits w64 c.signal.result = search rules in
    simp to_z-of_z
    (sheet_is_ok p.After-from, rw c.air_of.ensures (input p.After-from).air, rw (read_is p.After-signal (signal_is p.After-from_raw-v (raw_is p.After-from)), c.air_of.ensures) (over p.After-from).reading)

pub returns : goal.returns
returns c =
    let p = goal.at.returns c in
    let f : SFits w64 c.signal.result = search rules in
    rw (c.in-Some.is, first_on _ _ _ _ (over p.After-from))
    (rw (read_is p.After-signal (signal_is p.After-from_raw-v (raw_is p.After-from)), c.air_of.ensures) at (simp to_z-of_z at c.first_ground.ensures))
