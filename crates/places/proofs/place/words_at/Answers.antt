use native.Mathlib.Omega.{arith}
use mathlib.Core.Path.{◌∙◌}
use Rattle.lexing.proofs.Lexing.Parts.{tail}
use Rattle.places.proofs.Spots.{two-there}
use Rattle.places.proofs.place.words_at.Goals as goal

pub offset_bounds-tree-at : goal.offset_bounds-tree-at
offset_bounds-tree-at c = omega (arith, two-there c.requires)

pub slice_bounds-node_words-count : goal.slice_bounds-node_words-count
slice_bounds-node_words-count c = omega (arith, two-there c.requires)

pub slice_bounds-node_words-start : goal.slice_bounds-node_words-start
slice_bounds-node_words-start c = omega (arith, two-there c.requires)

pub node_words-requires : goal.node_words-requires
node_words-requires c = let p = c.requires in record { first = p.tree; rest = p.rest; words = tail c.args.tree.now c.args.at ∙ p.words }

pub returns : goal.returns
returns c p = c.node_words.ensures p.tree p.rest (tail c.args.tree.now c.args.at ∙ p.words)
