use mathlib.Core.Path.{refl, ap, ◌∙◌}
use native.Mathlib.Omega.{arith}
use lib.ListN.{get_or}
use Rattle.reading.specs.Space.{is_white}
use Rattle.reading.proofs.Picks.{picks}
use Rattle.lexing.proofs.Lexing.White.{between, by_first, space-told, space-byte}
use Rattle.lexing.proofs.space.space_bytes.Goals as goal

pub returns-then-b-lt128 : goal.returns-then-b-lt128
returns-then-b-lt128 c = c.from-then-b-lt128.ensures ∙ space-byte _ c.args.at _ refl c.requires c.if-b-lt128.true _ (c.is_white.ensures ∙ ap is_white c.from.ensures)

pub returns-then-b-eq32 : goal.returns-then-b-eq32
unfolding by_first
returns-then-b-eq32 c = space-told _ c.args.at c.requires (search (picks, arith) depth 24)

pub returns-then-b : goal.returns-then-b
unfolding by_first
returns-then-b c = let b = between 32 (get_or c.args.text.now c.args.at 0) 0x80 c.if-b.true in space-told _ c.args.at c.requires (search (picks, arith) depth 24)

pub returns-in_default : goal.returns-in_default
unfolding by_first
returns-in_default c = space-told _ c.args.at c.requires (search (picks, arith) depth 24)

pub returns-in_default-2 : goal.returns-in_default-2
unfolding by_first
returns-in_default-2 c = space-told _ c.args.at c.requires (search (picks, arith) depth 24)

pub returns-in_default-3 : goal.returns-in_default-3
unfolding by_first
returns-in_default-3 c = space-told _ c.args.at c.requires (search (picks, arith) depth 24)
