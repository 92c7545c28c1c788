use mathlib.Core.Path.{refl, ap, ◌∙◌}
use Rattle.reading.specs.Tree.{atom_words}
use Rattle.reading.specs.Token.{atom_of}
use Rattle.lexing.specs.TokenWords.{as_coded}
use Rattle.reading.proofs.Picks.{pick_yes, pick_no}
use Rattle.lexing.proofs.tokens.atom.Goals as goal

pub returns-then-same : goal.returns-then-same
unfolding atom_of atom_words
returns-then-same c = c.flag.ensures ∙ ap as_coded (pick_yes _ c.same.ensures c.if-same.true refl)

pub returns-then-same-2 : goal.returns-then-same-2
unfolding atom_of atom_words
returns-then-same-2 c = c.flag-then-same-2.ensures ∙ ap as_coded (pick_no _ c.same.ensures c.if-same.false (pick_yes _ c.same-2.ensures c.if-same-2.true refl))

pub returns : goal.returns
unfolding atom_of
returns c = c.number_or_symbol.ensures ∙ ap as_coded (pick_no _ c.same.ensures c.if-same.false (pick_no _ c.same-2.ensures c.if-same-2.false refl))
