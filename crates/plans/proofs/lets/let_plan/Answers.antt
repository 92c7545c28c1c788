use Rattle.std.proofs.Common.{refl, arith}
use Rattle.plans.specs.Plans.{refused}
use Rattle.places.proofs.Spots.{spot-within, two-there}
use Rattle.places.proofs.Rows.{lead-spot}
use Rattle.plans.proofs.ListPlans.{head-within}
use Rattle.places.proofs.Inside.{node-list, node-other}
use Rattle.plans.proofs.LetPlans.{let_lone, let-pair, let-atom, let-few, let-name, let-other, made-alone, made-body}
use Rattle.plans.proofs.lets.let_plan.Goals as goal
use Rattle.plans.proofs.lets.let_plan.Goals.{then-list-lt2-via-then-list-lt2, then-list-lt2-via-else-list-lt2+then-tree-list-ne-SYMBOL}

pub overflow_add-n : goal.overflow_add-n
overflow_add-n c = omega (arith, head-within c.requires.name c.requires.others c.requires.listed)

pub offset_bounds-tree-at : goal.offset_bounds-tree-at
offset_bounds-tree-at c = omega (arith, head-within c.requires.name c.requires.others c.requires.listed)

pub bounds-tree-at : goal.bounds-tree-at
bounds-tree-at c = omega (arith, head-within c.requires.name c.requires.others c.requires.listed)

pub returns-then-n-lt2 : goal.returns-then-n-lt2
returns-then-n-lt2 c s us h count = rw (let_lone s us h c.if-n-lt2.true) (refused refl)

pub through-pair-requires : goal.through-pair-requires
through-pair-requires c = lead-spot (let-pair c.requires.name c.requires.others c.requires.listed c.if-n-lt2.false)

pub list_at-requires : goal.list_at-requires
list_at-requires c = (c.through-pair.ensures (lead-spot (let-pair c.requires.name c.requires.others c.requires.listed c.if-n-lt2.false))).spot

pub returns-in_default : goal.returns-in_default
returns-in_default c s us h count = rw (let-atom s us h c.if-n-lt2.false (c.through-pair.ensures (lead-spot (let-pair s us h c.if-n-lt2.false))) (node-other c.args.tree.now c.through-pair.result c.list_at.ensures c.in_default.is)) (refused refl)

pub offset_bounds-tree-list : goal.offset_bounds-tree-list
offset_bounds-tree-list c = omega (arith, two-there (lead-spot (let-name c.requires.name c.requires.others c.requires.listed c.if-n-lt2.false (c.through-pair.ensures (lead-spot (let-pair c.requires.name c.requires.others c.requires.listed c.if-n-lt2.false))) (node-list _ _ c.list_at.ensures c.in-Some.is) c.if-list-lt2.false)))

pub bounds-tree-list : goal.bounds-tree-list
bounds-tree-list c = omega (arith, two-there (lead-spot (let-name c.requires.name c.requires.others c.requires.listed c.if-n-lt2.false (c.through-pair.ensures (lead-spot (let-pair c.requires.name c.requires.others c.requires.listed c.if-n-lt2.false))) (node-list _ _ c.list_at.ensures c.in-Some.is) c.if-list-lt2.false)))

pub returns-then-list-lt2 : goal.returns-then-list-lt2
returns-then-list-lt2 c s us h count =
    let two = c.if-n-lt2.false in
    let seen = c.through-pair.ensures (lead-spot (let-pair s us h two)) in
    let l = node-list _ _ c.list_at.ensures c.in-Some.is in
    elim c.then-list-lt2.branch [ then-list-lt2-via-then-list-lt2 w ↦ rw (let-few s us h two seen l w.if-list-lt2.true) (refused refl) | then-list-lt2-via-else-list-lt2+then-tree-list-ne-SYMBOL w ↦ rw (let-other s us h two seen l w.if-list-lt2.false w.if-tree-list-ne-SYMBOL.true) (refused refl) ]

pub returns-then-n-lt3 : goal.returns-then-n-lt3
returns-then-n-lt3 c s us h count = made-alone s us h c.if-n-lt2.false (c.through-pair.ensures (lead-spot (let-pair s us h c.if-n-lt2.false))) (node-list _ _ c.list_at.ensures c.in-Some.is) c.if-list-lt2.false c.if-tree-list-ne-SYMBOL.false count c.put1-v.ensures c.if-n-lt3.true

pub words_at-requires : goal.words_at-requires
words_at-requires c = lead-spot (let-pair c.requires.name c.requires.others c.requires.listed c.if-n-lt2.false)

pub overflow_add-result-4 : goal.overflow_add-result-4
overflow_add-result-4 c = omega (arith, spot-within (lead-spot (let-pair c.requires.name c.requires.others c.requires.listed c.if-n-lt2.false)), c.words_at.ensures (lead-spot (let-pair c.requires.name c.requires.others c.requires.listed c.if-n-lt2.false)))

pub returns : goal.returns
returns c s us h count = made-body s us h c.if-n-lt2.false (c.through-pair.ensures (lead-spot (let-pair s us h c.if-n-lt2.false))) (node-list _ _ c.list_at.ensures c.in-Some.is) c.if-list-lt2.false c.if-tree-list-ne-SYMBOL.false count c.put1-v.ensures c.if-n-lt3.false (c.words_at.ensures (lead-spot (let-pair s us h c.if-n-lt2.false)))
