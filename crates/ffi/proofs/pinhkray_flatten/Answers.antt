use mathlib.Core.Path.{ap}
use Rattle.words.specs.Answered.{heard}
use Rattle.boundary.proofs.Replies.{flat-reply}
use borrow.Author.Rules.{rules}
use Rattle.ffi.proofs.pinhkray_flatten.Goals as goal

pub returns : goal.returns
returns c =
    let a = c.args in
    let e = c.flatten.ensures in
    flat-reply a.words_in.now a.out.now _ _ _ _ c.from-told.ensures (ap heard c.sized.ensures) e.answer e.output
