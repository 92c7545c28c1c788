use Rattle.std.specs.Prelude.{Err}
use Rattle.words.specs.declared.refusal.Refusal.TheVariants.{Malformed}
use Rattle.std.proofs.Common.{arith}
use Rattle.plans.proofs.ListPlans.{list-within, first-there, some-headed, some-filled, read_none, read_named, read-applied}
use Rattle.plans.proofs.lists.list_plan.Goals as goal

pub overflow_add-at : goal.overflow_add-at
overflow_add-at c = omega (arith, list-within c.requires.listed)

pub offset_bounds-tree-at : goal.offset_bounds-tree-at
offset_bounds-tree-at c = omega (arith, list-within c.requires.listed)

pub bounds-tree-at : goal.bounds-tree-at
bounds-tree-at c = omega (arith, list-within c.requires.listed)

pub returns-then-tree-at-eq0 : goal.returns-then-tree-at-eq0
returns-then-tree-at-eq0 c items h = read_none _ _ _ _ _ _ _ _ (Err Malformed) items h c.if-tree-at-eq0.true

pub bounds-tree-at-2 : goal.bounds-tree-at-2
bounds-tree-at-2 c = omega (arith, first-there c.requires.items c.requires.listed c.if-tree-at-eq0.false)

pub named_plan-requires : goal.named_plan-requires
named_plan-requires c = some-headed c.requires.items c.requires.listed c.if-tree-at-eq0.false c.if-tree-at-eq-SYMBOL.true

pub returns-then-tree-at-eq-SYMBOL : goal.returns-then-tree-at-eq-SYMBOL
returns-then-tree-at-eq-SYMBOL c items h = read_named _ _ _ _ _ _ _ _ c.named_plan.result items h c.if-tree-at-eq0.false c.if-tree-at-eq-SYMBOL.true c.named_plan.ensures

pub app_plan-requires : goal.app_plan-requires
app_plan-requires c = some-filled c.requires.items c.requires.listed c.if-tree-at-eq0.false

pub returns : goal.returns
returns c items h = read-applied _ _ _ _ _ _ _ _ c.app_plan.result items h c.if-tree-at-eq0.false c.if-tree-at-eq-SYMBOL.false c.app_plan.ensures
