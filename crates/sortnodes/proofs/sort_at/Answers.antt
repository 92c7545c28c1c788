use mathlib.Core.Path.{refl}
use Rattle.reading.specs.Pick.{pick}
use Rattle.reading.proofs.Picks.{picks}
use Rattle.sortnodes.specs.Told.{sort_node_at}
use Rattle.sortnodes.proofs.ByWords.{sort-out, sort-width, sort_bits, sort-applied}
use Rattle.sortnodes.proofs.sort_at.Goals as goal

pub returns-then-words-at : goal.returns-then-words-at
returns-then-words-at c = sort-out _ _ c.if-words-at.true

pub returns-in-1 : goal.returns-in-1
unfolding sort_node_at pick
returns-in-1 c = rw c.in-1.is refl

pub returns-in-2 : goal.returns-in-2
unfolding sort_node_at pick
returns-in-2 c = rw c.in-2.is refl

pub returns-in-3 : goal.returns-in-3
unfolding sort_node_at pick
returns-in-3 c = rw c.in-3.is refl

pub returns-in-4 : goal.returns-in-4
unfolding sort_node_at pick
returns-in-4 c = rw c.in-4.is refl

pub returns-in-5 : goal.returns-in-5
returns-in-5 c = sort-width _ _ c.in-5.is c.word_at.ensures c.if-word_at-eq-SIZE.true c.word_at-in-5.ensures

pub returns-in_default : goal.returns-in_default
returns-in_default c = sort_bits _ _ c.in-5.is c.word_at.ensures c.if-word_at-eq-SIZE.false

pub returns-in-10 : goal.returns-in-10
returns-in-10 c = sort-applied _ _ c.in-10.is c.applied.ensures

pub returns-in_default-2 : goal.returns-in_default-2
unfolding sort_node_at
returns-in_default-2 c = search picks depth 24
