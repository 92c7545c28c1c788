use Rattle.std.proofs.Common.{◌+◌, sym, refl, add-zero, arith, ne_eqb}
use Rattle.reading.specs.Pick.{pick}
use Rattle.scopes.specs.Scopes.{pushed, deeper}
use Rattle.plans.specs.Late.{filled, taken}
use Rattle.scopes.proofs.Variables.{low_wrapped, high_wrapped}
use Rattle.exprs.proofs.late.late.Goals as goal

pub returns-then-pair-eq0 : goal.returns-then-pair-eq0
unfolding pushed deeper filled taken pick
returns-then-pair-eq0 c = rw c.if-pair-eq0.true (refl, refl, refl, sym (add-zero c.args.next))

pub put2-requires : goal.put2-requires
put2-requires c = omega (arith, c.requires.place)

pub opened-requires : goal.opened-requires
opened-requires c = c.requires.entry c.if-pair-eq0.false

pub overflow_add-result : goal.overflow_add-result
overflow_add-result c = omega (arith, c.requires.number)

pub returns : goal.returns
unfolding filled taken pick
returns c =
    rw (ne_eqb c.args.pair 0 c.if-pair-eq0.false, low_wrapped (c.args.count + c.args.next) _ refl, high_wrapped (c.args.count + c.args.next) _ refl, sym c.low.ensures, sym c.high.ensures)
    (c.opened.ensures.0, c.put2.ensures.words, c.opened.ensures.1, refl)
