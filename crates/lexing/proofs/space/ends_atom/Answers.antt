use native.Mathlib.Omega.{arith}
use lib.ListN.{get_or}
use Rattle.reading.proofs.Picks.{picks}
use Rattle.lexing.proofs.Lexing.White.{between, ends_by, ends-told}
use Rattle.lexing.proofs.space.ends_atom.Goals as goal

pub returns-then-b : goal.returns-then-b
unfolding ends_by
returns-then-b c = let b = between 41 (get_or c.args.text.now c.args.at 0) 0x80 c.if-b.true in ends-told _ c.args.at c.requires (search (picks, arith) depth 24)

pub returns-in_default : goal.returns-in_default
unfolding ends_by
returns-in_default c = ends-told _ c.args.at c.requires (search (picks, arith) depth 24)

pub returns-in-32 : goal.returns-in-32
unfolding ends_by
returns-in-32 c = ends-told _ c.args.at c.requires (search (picks, arith) depth 24)

pub returns-in-32-2 : goal.returns-in-32-2
unfolding ends_by
returns-in-32-2 c = ends-told _ c.args.at c.requires (search (picks, arith) depth 24)
