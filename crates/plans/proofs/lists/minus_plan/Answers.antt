use Rattle.std.proofs.Common.{arith}
use Rattle.plans.proofs.ListPlans.{head-within, head-count}
use Rattle.plans.proofs.NamedPlans.{minus_neg, minus_sub}
use Rattle.plans.proofs.lists.minus_plan.Goals as goal

pub overflow_add-n : goal.overflow_add-n
overflow_add-n c = omega (arith, head-within c.requires.name c.requires.others c.requires.listed)

pub offset_bounds-tree-at : goal.offset_bounds-tree-at
offset_bounds-tree-at c = omega (arith, head-within c.requires.name c.requires.others c.requires.listed)

pub bounds-tree-at : goal.bounds-tree-at
bounds-tree-at c = omega (arith, head-within c.requires.name c.requires.others c.requires.listed)

pub returns-then-n-eq2 : goal.returns-then-n-eq2
returns-then-n-eq2 c s us h count = rw c.behind.ensures (minus_neg _ count _ _ _ _ s us h _ _ c.if-n-eq2.true c.put1.ensures)

pub behind-requires-2 : goal.behind-requires-2
behind-requires-2 c = (omega (arith, head-count c.requires.name c.requires.others c.requires.listed), omega (arith, head-within c.requires.name c.requires.others c.requires.listed))

pub returns : goal.returns
returns c s us h count = rw c.behind-2.ensures (minus_sub _ count _ _ _ _ s us h _ _ c.if-n-eq2.false c.put2.ensures)
