use Rattle.std.proofs.Common.{arith}
use Rattle.places.proofs.Spots.{two-there}
use Rattle.plans.proofs.TreePlans.{three-there, five-there, here-scopes, here-list, planned-list, planned-symbol, planned-integer, planned-boolean, planned-quoted, planned-decimal}
use Rattle.plans.proofs.plan.planned.Goals as goal

pub offset_bounds-tree-at : goal.offset_bounds-tree-at
offset_bounds-tree-at c = omega (arith, two-there c.requires.spot)

pub bounds-tree-at : goal.bounds-tree-at
bounds-tree-at c = omega (arith, two-there c.requires.spot)

pub list_plan-requires : goal.list_plan-requires
list_plan-requires c = here-list _ _ _ _ _ _ _ c.requires c.in-21.is

pub bounds-tree-at-in-16 : goal.bounds-tree-at-in-16
bounds-tree-at-in-16 c = omega (arith, three-there c.requires.spot (λ e. omega arith))

pub bounds-tree-at-in-16-2 : goal.bounds-tree-at-in-16-2
bounds-tree-at-in-16-2 c = omega (arith, three-there c.requires.spot (λ e. omega arith))

pub bounds-tree-at-in-18 : goal.bounds-tree-at-in-18
bounds-tree-at-in-18 c = omega (arith, five-there c.requires.spot c.in-18.is)

pub bounds-tree-at-in-18-2 : goal.bounds-tree-at-in-18-2
bounds-tree-at-in-18-2 c = omega (arith, five-there c.requires.spot c.in-18.is)

pub bounds-tree-at-in-18-3 : goal.bounds-tree-at-in-18-3
bounds-tree-at-in-18-3 c = omega (arith, five-there c.requires.spot c.in-18.is)

pub bounds-tree-at-in-18-4 : goal.bounds-tree-at-in-18-4
bounds-tree-at-in-18-4 c = omega (arith, five-there c.requires.spot c.in-18.is)

pub bounds-tree-at-in-20 : goal.bounds-tree-at-in-20
bounds-tree-at-in-20 c = omega (arith, two-there c.requires.spot)

pub bounds-tree-at-in-17 : goal.bounds-tree-at-in-17
bounds-tree-at-in-17 c = omega (arith, three-there c.requires.spot (λ e. omega arith))

pub bounds-tree-at-in-17-2 : goal.bounds-tree-at-in-17-2
bounds-tree-at-in-17-2 c = omega (arith, three-there c.requires.spot (λ e. omega arith))

pub returns-in-21 : goal.returns-in-21
returns-in-21 c h = planned-list _ _ _ _ _ _ _ h _ _ _ c.list_plan.result c.in-21.is c.list_plan.ensures

pub returns-in-16 : goal.returns-in-16
returns-in-16 c h = let v = c.variable.ensures (here-scopes _ _ _ _ _ _ _ h) in planned-symbol _ _ _ _ _ _ _ h _ _ _ _ c.in-16.is v.0 v.1

pub returns-in-18 : goal.returns-in-18
returns-in-18 c h = let v = c.put_numeral.ensures c.args.count in planned-integer _ _ _ _ _ _ _ h _ _ _ _ c.in-18.is v.0 v.1

pub returns-in-20 : goal.returns-in-20
returns-in-20 c h = planned-boolean _ _ _ _ _ _ _ h _ _ _ _ c.in-20.is c.put2.ensures

pub returns-in-17 : goal.returns-in-17
returns-in-17 c h = planned-quoted _ _ _ _ _ _ _ h _ _ _ _ c.in-17.is c.put_name.ensures

pub returns-in_default : goal.returns-in_default
returns-in_default c h = planned-decimal _ _ _ _ _ _ _ h _ _ _ (λ e. omega arith) (λ e. omega arith) (λ e. omega arith) (λ e. omega arith) (λ e. omega arith)
