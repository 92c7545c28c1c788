use lib.ListN.{length}
use Rattle.reading.specs.Bytes.{same_bytes}
use Rattle.lexing.proofs.Lexing.Parts.{front}
use mathlib.Core.Path.{sym, ◌∙◌, ap}
use Rattle.reading.proofs.Bytes.{begins-take, begins_longer}
use Rattle.lexing.proofs.byte.begins_with.Goals as goal

pub returns-then-s-n : goal.returns-then-s-n
returns-then-s-n c = sym (begins_longer _ _ c.if-s-n.true)

pub returns : goal.returns
returns c =
    let a = c.args in
    c.same.ensures ∙ ap (same_bytes a.w.now) (front a.s.now (length a.w.now)) ∙ sym (begins-take a.w.now a.s.now)
