-- `replan::replan` meets its contract: 12, 11, or what the writer leaves of the sheets and events that the reader gives. Assumes nothing.
use native.Mathlib.Omega.{arith}
use mathlib.Core.Path.{sym, ◌∙◌}
use lib.ListN.{length-take}
use Rattle.layout.specs.Records.{sheet_of, event_of}
use Rattle.layout.proofs.Lent.{turned_away}
use Rattle.format.proofs.Shape.{shape}
use Rattle.entries.specs.Entries.{entry_of}
use Rattle.contents.specs.Contents.{numbers_of, known_event}
use Rattle.replan.proofs.Replanned.{counted, again_12, again_11, again_written, packed_parts}
use Rattle.replan.proofs.replan.Goals as goal

pub returns-then-not-well_formed : goal.returns-then-not-well_formed
returns-then-not-well_formed c =
    turned_away (again_12 _ _ (sym c.well_formed-2.ensures ∙ c.if-not-well_formed.true)) (λ z. absurd (omega arith))

pub returns-then-not-is_packed : goal.returns-then-not-is_packed
returns-then-not-is_packed c =
    let w = sym c.well_formed-2.ensures ∙ c.if-not-well_formed.false in
    let e = sym (packed_parts _ c.first-from.ensures w) ∙ sym c.is_packed.ensures ∙ c.if-not-is_packed.true in
    turned_away (again_11 _ _ w e) (λ z. absurd (omega arith))

pub returns : goal.returns
returns c =
    let w = sym c.well_formed-2.ensures ∙ c.if-not-well_formed.false in
    let e = sym (packed_parts _ c.first-from.ensures w) ∙ sym c.is_packed.ensures ∙ c.if-not-is_packed.false in
    let h = shape c.args.file.now w in
    let ss = counted (λ b. numbers_of (sheet_of b)) _ 16 c.sheet_count.result _ c.read_all.ensures (omega (arith, h, c.sheet_count.ensures)) in
    let es = counted (λ b. known_event (entry_of (event_of b))) _ c.first-from.result c.event_count.result _ c.read_all-2.ensures (omega (arith, h, c.event_count.ensures)) in
    again_written _ c.sheet_count.ensures c.event_count.ensures c.first-from.ensures w _ _ ss es e
    c.write.ensures.fills_plan

pub slice_bounds-sheets-end-2 : goal.slice_bounds-sheets-end-2
slice_bounds-sheets-end-2 c = simp length-take (omega (arith, shape _ (sym c.well_formed-2.ensures ∙ c.if-not-well_formed.false), c.sheet_count.ensures))

pub read_all-requires : goal.read_all-requires
read_all-requires c = simp length-take (omega (arith, shape _ (sym c.well_formed-2.ensures ∙ c.if-not-well_formed.false), c.sheet_count.ensures))

pub slice_bounds-events-end-2 : goal.slice_bounds-events-end-2
slice_bounds-events-end-2 c = simp length-take (omega (arith, shape _ (sym c.well_formed-2.ensures ∙ c.if-not-well_formed.false), c.event_count.ensures))

pub read_all-requires-2 : goal.read_all-requires-2
read_all-requires-2 c = simp length-take (omega (arith, shape _ (sym c.well_formed-2.ensures ∙ c.if-not-well_formed.false), c.event_count.ensures, c.first-from.ensures))
