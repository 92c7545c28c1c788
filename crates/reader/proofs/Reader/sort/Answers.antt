use mathlib.Core.Path.{refl, ◌∙◌, ap}
use Prim.Native.Nat.{◌≤◌}
use native.Mathlib.Omega.{arith}
use Rattle.words.specs.Answered.{heard}
use Rattle.reading.specs.Limits.{max_number}
use Rattle.replies.proofs.Outcomes.{sort-known}
use Rattle.replies.proofs.Told.{sort-told, reply}
use Rattle.reader.proofs.Reader.sort.Goals as goal

pub returns : goal.returns
returns c =
    let a = c.args in
    let e = c.sort.ensures in
    let small : a.self.next ≤ max_number = omega arith in
    let k = sort-known a.text.now a.out.now a.self.next small a.tree.now in
    let q = sort-told a.text.now a.tree.now a.out.now a.self.next small _ e.answer in
    reply k (ap heard c.sized.ensures ∙ q.0, q.1) e.working refl e.output
