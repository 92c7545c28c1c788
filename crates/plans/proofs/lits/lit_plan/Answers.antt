use Rattle.std.proofs.Common.{sym, refl, ◌∙◌, arith}
use Rattle.plans.specs.Plans.{refused}
use Rattle.places.proofs.Spots.{two-there}
use Rattle.places.proofs.Rows.{lead-spot}
use Rattle.std.proofs.lemmas.Result.{err_from_is_err_and}
use Rattle.plans.proofs.ListPlans.{head-within}
use Rattle.plans.proofs.LitPlans.{width-got, width-none, lit_lone, lit-first, lit-kind, lit-there, lit-second, lit_refused, lit-two, lit-wide, lit-many, made_lit}
use Rattle.plans.proofs.lits.lit_plan.Goals as goal
use Rattle.plans.proofs.lits.lit_plan.Goals.{then-n-lt2-via-then-n-lt2, then-n-lt2-via-else-n-lt2+then-tree-at-ne-QUOTED}

pub overflow_add-n : goal.overflow_add-n
overflow_add-n c = omega (arith, head-within c.requires.name c.requires.others c.requires.listed)

pub offset_bounds-tree-at : goal.offset_bounds-tree-at
offset_bounds-tree-at c = omega (arith, head-within c.requires.name c.requires.others c.requires.listed)

pub bounds-tree-at : goal.bounds-tree-at
bounds-tree-at c = omega (arith, head-within c.requires.name c.requires.others c.requires.listed)

pub bounds-tree-at-else-n-lt2 : goal.bounds-tree-at-else-n-lt2
bounds-tree-at-else-n-lt2 c = omega (arith, two-there (lead-spot (lit-first c.requires.name c.requires.others c.requires.listed c.if-n-lt2.false)))

pub returns-then-n-lt2 : goal.returns-then-n-lt2
returns-then-n-lt2 c s us h count = elim c.then-n-lt2.branch [ then-n-lt2-via-then-n-lt2 w ↦ rw (lit_lone s us h w.if-n-lt2.true) (refused refl) | then-n-lt2-via-else-n-lt2+then-tree-at-ne-QUOTED w ↦ rw (lit-kind s us h w.if-n-lt2.false w.if-tree-at-ne-QUOTED.true) (refused refl) ]

pub bounds-tree-at-2 : goal.bounds-tree-at-2
bounds-tree-at-2 c = omega (arith, lit-there c.requires.name c.requires.others c.requires.listed c.if-n-lt2.false c.if-tree-at-ne-QUOTED.false)

pub bounds-tree-at-3 : goal.bounds-tree-at-3
bounds-tree-at-3 c = omega (arith, lit-there c.requires.name c.requires.others c.requires.listed c.if-n-lt2.false c.if-tree-at-ne-QUOTED.false)

pub returns-in_err-q : goal.returns-in_err-q
returns-in_err-q c s us h count =
    let p = err_from_is_err_and c.from_residual.result c.from_residual.ensures.1 in
    rw (p.1, p.2) (lit_refused s us h c.if-n-lt2.false c.if-tree-at-ne-QUOTED.false c.bytes-bytes.ensures count c.in_err-q.ensures)

pub returns-then-n-lt3 : goal.returns-then-n-lt3
returns-then-n-lt3 c s us h count = rw (lit-two s us h c.if-n-lt2.false c.if-tree-at-ne-QUOTED.false c.bytes-bytes.ensures c.in_ok-q.ensures c.if-n-lt3.true) (refused refl)

pub width_at-requires : goal.width_at-requires
width_at-requires c = lead-spot (lit-second c.requires.name c.requires.others c.requires.listed c.if-n-lt2.false c.if-tree-at-ne-QUOTED.false c.if-n-lt3.false)

pub returns-in_err-width : goal.returns-in_err-width
returns-in_err-width c s us h count =
    let p = err_from_is_err_and c.from_residual-in_err-width.result c.from_residual-in_err-width.ensures.1 in
    let none = width-none _ (c.width_at.ensures (lead-spot (lit-second s us h c.if-n-lt2.false c.if-tree-at-ne-QUOTED.false c.if-n-lt3.false))) (sym c.ok_or.ensures.value ∙ c.in_err-width.was) in
    rw (p.1, p.2, none.1, lit-wide s us h c.if-n-lt2.false c.if-tree-at-ne-QUOTED.false c.bytes-bytes.ensures c.in_ok-q.ensures c.if-n-lt3.false none.0) (refused refl)

pub returns-then-bytes-width : goal.returns-then-bytes-width
returns-then-bytes-width c s us h count = rw (lit-many s us h c.if-n-lt2.false c.if-tree-at-ne-QUOTED.false c.bytes-bytes.ensures c.in_ok-q.ensures c.if-n-lt3.false (width-got _ (c.width_at.ensures (lead-spot (lit-second s us h c.if-n-lt2.false c.if-tree-at-ne-QUOTED.false c.if-n-lt3.false))) (sym c.ok_or.ensures.value ∙ c.in_ok-width.was)) refl c.if-bytes-width.true) (refused refl)

pub returns : goal.returns
returns c s us h count = made_lit s us h c.if-n-lt2.false c.if-tree-at-ne-QUOTED.false c.bytes-bytes.ensures c.in_ok-q.ensures c.if-n-lt3.false count (width-got _ (c.width_at.ensures (lead-spot (lit-second s us h c.if-n-lt2.false c.if-tree-at-ne-QUOTED.false c.if-n-lt3.false))) (sym c.ok_or.ensures.value ∙ c.in_ok-width.was)) refl c.if-bytes-width.false c.put_wide-v.ensures c.put1.ensures
