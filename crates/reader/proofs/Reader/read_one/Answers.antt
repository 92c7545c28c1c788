use mathlib.Core.Path.{refl, ◌∙◌}
use mathlib.Core.Bool.{false}
use Prim.Native.Nat.{◌≤◌}
use native.Mathlib.Omega.{arith}
use Rattle.reading.specs.Limits.{max_number}
use Rattle.reading.specs.Reading.{read_out}
use Rattle.replies.proofs.Outcomes.{one_known}
use Rattle.replies.proofs.Told.{read_told, reply}
use Rattle.reader.proofs.Reader.read_one.Goals as goal

pub returns : goal.returns
unfolding read_out
returns c =
    let a = c.args in
    let e = c.read_one.ensures in
    let small : a.self.next ≤ max_number = omega arith in
    let k = one_known a.text.now a.out.now a.self.next small in
    let q = read_told false a.text.now a.out.now _ a.self.next small k _ e.answer in
    reply k q refl refl e.output
