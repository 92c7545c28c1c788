use mathlib.Core.Path.{ap}
use Rattle.words.specs.Answered.{heard}
use Rattle.boundary.proofs.Spoken.{spoken-reply}
use borrow.Author.Rules.{rules}
use Rattle.ffi.proofs.pinhkray_smtlib.Goals as goal

pub returns : goal.returns
returns c =
    let a = c.args in
    let e = c.smtlib.ensures in
    spoken-reply a.words.now a.text.now a.out.now _ _ _ _ c.from-told.ensures (ap heard c.sized.ensures) e.answer e.output
