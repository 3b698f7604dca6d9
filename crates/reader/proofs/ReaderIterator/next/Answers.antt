-- `next` yields the event at the reader's position and moves past it. Assumes nothing.
use Rattle.std.proofs.Common.{rules, ◌≡◌, ◌+◌, ◌≤◌, length, ◌-◌, ◌∷◌, take, drop, arith, sym, ◌∙◌, ap}
use lib.Seq.{take-take}
use Rattle.layout.specs.Records.{event_at}
use Rattle.reader.specs.Reader.{ahead}
use Rattle.reader.proofs.Ahead.{yielded}
use Rattle.reader.proofs.ReaderIterator.next.Goals as goal

fits : (c : goal.After-event_at) → c.args.self.now.at + 24 ≤ length c.args.self.now.src.now
fits c = search rules

pub returns-clause-steps : goal.returns-clause-steps
returns-clause-steps c =
    let s = c.args.self.now.src.now in
    let at = c.args.self.now.at in
    let h = fits c in
    let part : c.in_ok-record.record.now ≡ take 24 (drop at s) =
    c.in_ok-record.ensures.cases.same ∙ ap (take 24) c.in_ok-get.ensures.lookup.0.2 ∙ take-take 24 (length s - at) (drop at s) (omega arith) in
    yielded s at h ∙ ap (λ x. x ∷ ahead s (at + 24)) (sym (c.event_at.ensures ∙ ap (λ b. event_at b 0) part))

pub returns-clause-goes : goal.returns-clause-goes
returns-clause-goes c =
    let e = ap length (yielded c.args.self.now.src.now c.args.self.now.at (fits c)) in
    record { on = λ _. (tt, tt, omega arith); keeps = tt; rests = λ _. tt }
