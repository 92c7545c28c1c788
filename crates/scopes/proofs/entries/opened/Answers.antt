use Rattle.std.proofs.Common.{◌+◌, ◌*◌, set, refl, arith, length-set, eq-eqb, ne_eqb}
use Rattle.reading.specs.Pick.{pick}
use Rattle.scopes.specs.Scopes.{pushed, deeper}
use Rattle.scopes.proofs.entries.opened.Goals as goal

pub returns-then-pairs-eq0 : goal.returns-then-pairs-eq0
unfolding pushed deeper pick
returns-then-pairs-eq0 c = (rw (eq-eqb _ 0 c.if-pairs-eq0.true) refl, rw (eq-eqb _ 0 c.if-pairs-eq0.true) refl)

pub bounds-scopes-depth-2 : goal.bounds-scopes-depth-2
bounds-scopes-depth-2 c = omega (arith, c.requires, length-set c.args.scopes.now (3 * c.args.depth) c.args.pairs)

pub bounds-scopes-depth-3 : goal.bounds-scopes-depth-3
bounds-scopes-depth-3 c = omega (arith, c.requires, length-set c.args.scopes.now (3 * c.args.depth) c.args.pairs, length-set (set c.args.scopes.now (3 * c.args.depth) c.args.pairs) (3 * c.args.depth + 1) c.args.n)

pub returns : goal.returns
unfolding pushed deeper pick
returns c = (rw (ne_eqb _ 0 c.if-pairs-eq0.false) refl, rw (ne_eqb _ 0 c.if-pairs-eq0.false) refl)
