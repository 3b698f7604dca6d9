-- What `span_on` asks, a workable state has. Assumes nothing.
use borrow.Author.Rules.{rules}
use mir.Facts.{to_z-of_z}
use mir.Syntax.{w64}
use mir.Val.{SFits}
use Rattle.rules.proofs.Workable.{work, sheet_in}
use Rattle.rules.proofs.kinds.span.Goals as goal

pub span_on-requires : goal.span_on-requires
span_on-requires c =
    let o = work c.args.st c.requires in
    let f : SFits w64 c.args.st.q = search rules in
    simp to_z-of_z (sheet_in o.loaded c.in-Some.is, o.q)
