use mathlib.Core.Path.{refl, ◌∙◌, ap}
use Rattle.words.specs.Answered.{heard}
use Rattle.grammar.specs.Expr.{bind_items}
use Rattle.replies.proofs.Outcomes.{bind-known}
use Rattle.replies.proofs.Told.{counted-told, reply}
use Rattle.reader.proofs.Reader.bind.Goals as goal

pub returns : goal.returns
returns c =
    let a = c.args in
    let e = c.bind-answer.ensures in
    let k = bind-known a.text.now a.tree.now a.out.now a.self.next in
    let q = counted-told bind_items _ _ _ k _ e.answer in
    reply k (ap heard c.counted.ensures ∙ q.0, c.count_after.ensures ∙ q.1) e.working refl e.output
