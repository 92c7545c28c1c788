use mathlib.Core.Path.{refl, ◌∙◌, ap}
use Rattle.words.specs.Answered.{heard}
use Rattle.grammar.specs.Expr.{expr_items}
use Rattle.replies.proofs.Outcomes.{expr-known}
use Rattle.replies.proofs.Told.{counted-told, reply}
use Rattle.reader.proofs.Reader.expression.Goals as goal

pub returns : goal.returns
returns c =
    let a = c.args in
    let e = c.expression-answer.ensures in
    let k = expr-known a.text.now a.tree.now a.out.now a.self.next in
    let q = counted-told expr_items _ _ _ k _ e.answer in
    reply k (ap heard c.counted.ensures ∙ q.0, c.count_after.ensures ∙ q.1) e.working refl e.output
