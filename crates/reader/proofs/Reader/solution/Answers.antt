use mathlib.Core.Path.{◌∙◌, ap}
use Rattle.words.specs.Answered.{heard}
use Rattle.flattening.specs.Operations.{flat_items}
use Rattle.replies.proofs.Outcomes.{solution-known}
use Rattle.replies.proofs.Told.{counted-told, reply}
use Rattle.reader.proofs.Reader.solution.Goals as goal

pub returns : goal.returns
returns c =
    let a = c.args in
    let e = c.solution-answer.ensures in
    let k = solution-known a.text.now a.tree.now a.out.now a.self.next a.draft.now in
    let q = counted-told flat_items _ _ _ k _ e.answer in
    reply k (ap heard c.counted.ensures ∙ q.0, c.count_after.ensures ∙ q.1) e.working e.body e.output
