use mathlib.Core.Path.{ap, ◌∙◌}
use native.Mathlib.Omega.{arith}
use Rattle.reading.specs.Answer.{got}
use Rattle.reading.proofs.TreeHead.{list-first, list-none, list-three}
use Rattle.sorts.proofs.ListForms.{form-none, form-bad, first-long, form-symbol}
use Rattle.sorts.specs.SortNames.{form_in}
use Rattle.sorts.proofs.Outcomes.{gives-bad}
use Rattle.sorts.proofs.sorts.list_form.Goals as goal
use Rattle.sorts.proofs.sorts.list_form.Goals.{then-n-eq0-via-then-n-eq0, then-n-eq0-via-else-n-eq0+then-tree-ne-SYMBOL}

pub bounds-tree-1 : goal.bounds-tree-1
bounds-tree-1 c =
    let a = c.requires in
    omega (arith, list-three a.items a.words)

pub bounds-tree-3 : goal.bounds-tree-3
bounds-tree-3 c =
    let a = c.requires in
    omega (arith, (list-first a.items a.words c.if-n-eq0.false).long)

pub returns-then-n-eq0 : goal.returns-then-n-eq0
returns-then-n-eq0 c ts e = elim c.then-n-eq0.branch [ then-n-eq0-via-then-n-eq0 w ↦ gives-bad form_in (form-none _ ts (list-none ts e w.if-n-eq0.true)) | then-n-eq0-via-else-n-eq0+then-tree-ne-SYMBOL w ↦ gives-bad form_in (form-bad _ ts (list-first ts e w.if-n-eq0.false) w.if-tree-ne-SYMBOL.true) ]

pub bounds-tree-4 : goal.bounds-tree-4
bounds-tree-4 c =
    let a = c.requires in
    omega (arith, first-long c.args.text.now a.items (list-first a.items a.words c.if-n-eq0.false) c.if-tree-ne-SYMBOL.false)

pub bounds-tree-5 : goal.bounds-tree-5
bounds-tree-5 c =
    let a = c.requires in
    omega (arith, first-long c.args.text.now a.items (list-first a.items a.words c.if-n-eq0.false) c.if-tree-ne-SYMBOL.false)

pub returns : goal.returns
returns c ts e = ap got c.sort_form.ensures ∙ form-symbol _ ts (list-first ts e c.if-n-eq0.false) c.if-tree-ne-SYMBOL.false
