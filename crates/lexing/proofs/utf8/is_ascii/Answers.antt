use mathlib.Core.Path.{sym, ap, ◌∙◌}
use mathlib.Core.Bool.{Bool, ◌&&◌, and-true, and_assoc}
use Rattle.lexing.proofs.Lexing.WellFormed.{ascii-end, ascii_more}
use Rattle.lexing.proofs.utf8.is_ascii.Goals as goal

pub loop-b-preserved : goal.loop-b-preserved
loop-b-preserved c = c.loop-b.invariant ∙ ap (λ (t : Bool). c.loop-b.all && t) (ascii_more _ c.loop-b.b-index c.loop-b-test.true) ∙ sym (and_assoc c.loop-b.all _ _)

pub returns : goal.returns
returns c = sym (c.loop-b.invariant ∙ ap (λ (t : Bool). c.loop-b.all && t) (ascii-end _ c.loop-b.b-index c.loop-b-test.false) ∙ and-true c.loop-b.all)
