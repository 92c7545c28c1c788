use Rattle.std.proofs.Common.{refl, subst, arith}
use Rattle.grammar.specs.Names.{minus, exists, let_in, lit}
use Rattle.forms.specs.FormNames.{FormIs}
use Rattle.grammar.specs.ParseExpr
use Rattle.grammar.specs.ParseExpr.{form_of}
use Rattle.plans.proofs.ListPlans.{head-within, head-count}
use Rattle.plans.proofs.NamedPlans.{form_of_lem, ctor-room, made_one, made-two, made-many, made-cast, made-ctor, made_other, made-apply}
use Rattle.plans.proofs.lists.named_plan.Goals as goal

pub overflow_add-n : goal.overflow_add-n
overflow_add-n c = omega (arith, head-within c.requires.name c.requires.others c.requires.listed)

pub offset_bounds-tree-at : goal.offset_bounds-tree-at
offset_bounds-tree-at c = omega (arith, head-within c.requires.name c.requires.others c.requires.listed)

pub bounds-tree-at : goal.bounds-tree-at
bounds-tree-at c = omega (arith, head-within c.requires.name c.requires.others c.requires.listed)

pub overflow_add-name : goal.overflow_add-name
overflow_add-name c = omega (arith, head-within c.requires.name c.requires.others c.requires.listed)

pub offset_bounds-tree-at-2 : goal.offset_bounds-tree-at-2
offset_bounds-tree-at-2 c = omega (arith, head-within c.requires.name c.requires.others c.requires.listed)

pub bounds-tree-at-2 : goal.bounds-tree-at-2
bounds-tree-at-2 c = omega (arith, head-within c.requires.name c.requires.others c.requires.listed)

pub overflow_add-name-2 : goal.overflow_add-name-2
overflow_add-name-2 c = omega (arith, head-within c.requires.name c.requires.others c.requires.listed)

pub offset_bounds-tree-at-3 : goal.offset_bounds-tree-at-3
offset_bounds-tree-at-3 c = omega (arith, head-within c.requires.name c.requires.others c.requires.listed)

pub bounds-tree-at-3 : goal.bounds-tree-at-3
bounds-tree-at-3 c = omega (arith, head-within c.requires.name c.requires.others c.requires.listed)

pub behind-requires : goal.behind-requires
behind-requires c = (omega (arith, head-count c.requires.name c.requires.others c.requires.listed), omega (arith, head-within c.requires.name c.requires.others c.requires.listed))

pub behind-requires-in-Two : goal.behind-requires-in-Two
behind-requires-in-Two c = (omega (arith, head-count c.requires.name c.requires.others c.requires.listed), omega (arith, head-within c.requires.name c.requires.others c.requires.listed))

pub overflow_sub-n : goal.overflow_sub-n
overflow_sub-n c = omega (arith, head-count c.requires.name c.requires.others c.requires.listed)

pub overflow_sub-n-in-Many : goal.overflow_sub-n-in-Many
overflow_sub-n-in-Many c = omega (arith, head-count c.requires.name c.requires.others c.requires.listed)

pub behind-requires-in-Many : goal.behind-requires-in-Many
behind-requires-in-Many c = (omega (arith, head-count c.requires.name c.requires.others c.requires.listed), omega (arith, head-within c.requires.name c.requires.others c.requires.listed))

pub only-requires : goal.only-requires
only-requires c = omega (arith, head-within c.requires.name c.requires.others c.requires.listed)

pub overflow_add-ctor : goal.overflow_add-ctor
overflow_add-ctor c = omega (arith, (ctor-room c.args.text.now 0 c.args.tree.now c.args.at c.args.w c.args.next c.requires.name c.requires.others c.requires.listed (subst (FormIs (form_of c.args.text.now c.requires.name)) c.in-IsCtor.is (form_of_lem c.args.text.now 0 c.args.tree.now c.args.at c.args.w c.args.next c.requires.name c.requires.others c.requires.listed c.form_named.result c.bytes.ensures c.form_named.ensures))).0)

pub overflow_sub-ctor : goal.overflow_sub-ctor
overflow_sub-ctor c = omega (arith, (ctor-room c.args.text.now 0 c.args.tree.now c.args.at c.args.w c.args.next c.requires.name c.requires.others c.requires.listed (subst (FormIs (form_of c.args.text.now c.requires.name)) c.in-IsCtor.is (form_of_lem c.args.text.now 0 c.args.tree.now c.args.at c.args.w c.args.next c.requires.name c.requires.others c.requires.listed c.form_named.result c.bytes.ensures c.form_named.ensures))).1)

pub only-requires-in-IsCtor : goal.only-requires-in-IsCtor
only-requires-in-IsCtor c = omega (arith, head-within c.requires.name c.requires.others c.requires.listed)

pub returns-in-One : goal.returns-in-One
returns-in-One c s us h = rw c.behind.ensures (made_one _ _ _ _ _ _ s us h _ _ (subst (FormIs (form_of c.args.text.now s)) c.in-One.is (form_of_lem c.args.text.now 0 c.args.tree.now c.args.at c.args.w c.args.next s us h c.form_named.result c.bytes.ensures c.form_named.ensures)) c.put1.ensures)

pub returns-in-Two : goal.returns-in-Two
returns-in-Two c s us h = rw c.behind-in-Two.ensures (made-two _ _ _ _ _ _ s us h _ _ (subst (FormIs (form_of c.args.text.now s)) c.in-Two.is (form_of_lem c.args.text.now 0 c.args.tree.now c.args.at c.args.w c.args.next s us h c.form_named.result c.bytes.ensures c.form_named.ensures)) c.put2.ensures)

pub returns-in-Many : goal.returns-in-Many
returns-in-Many c s us h = rw c.behind-in-Many.ensures (made-many _ _ _ _ _ _ s us h _ _ (subst (FormIs (form_of c.args.text.now s)) c.in-Many.is (form_of_lem c.args.text.now 0 c.args.tree.now c.args.at c.args.w c.args.next s us h c.form_named.result c.bytes.ensures c.form_named.ensures)) refl c.put2-in-Many.ensures)

pub returns-in-Cast : goal.returns-in-Cast
returns-in-Cast c s us h = made-cast _ _ _ _ _ _ s us h _ _ (subst (FormIs (form_of c.args.text.now s)) c.in-Cast.is (form_of_lem c.args.text.now 0 c.args.tree.now c.args.at c.args.w c.args.next s us h c.form_named.result c.bytes.ensures c.form_named.ensures)) refl refl c.only.ensures

pub returns-in-IsCtor : goal.returns-in-IsCtor
returns-in-IsCtor c s us h = made-ctor _ _ _ _ _ _ s us h _ _ (subst (FormIs (form_of c.args.text.now s)) c.in-IsCtor.is (form_of_lem c.args.text.now 0 c.args.tree.now c.args.at c.args.w c.args.next s us h c.form_named.result c.bytes.ensures c.form_named.ensures)) c.put_name.ensures c.only-in-IsCtor.ensures

pub returns-in-Minus : goal.returns-in-Minus
unfolding ParseExpr.parse_form
returns-in-Minus c s us h = made_other _ _ _ _ _ _ s us h _ _ c.minus_plan.result minus (subst (FormIs (form_of c.args.text.now s)) c.in-Minus.is (form_of_lem c.args.text.now 0 c.args.tree.now c.args.at c.args.w c.args.next s us h c.form_named.result c.bytes.ensures c.form_named.ensures)) (c.minus_plan.ensures s us h _)

pub returns-in-Exists : goal.returns-in-Exists
unfolding ParseExpr.parse_form
returns-in-Exists c s us h = made_other _ _ _ _ _ _ s us h _ _ c.exists_plan.result exists (subst (FormIs (form_of c.args.text.now s)) c.in-Exists.is (form_of_lem c.args.text.now 0 c.args.tree.now c.args.at c.args.w c.args.next s us h c.form_named.result c.bytes.ensures c.form_named.ensures)) (c.exists_plan.ensures s us h)

pub returns-in-Let : goal.returns-in-Let
unfolding ParseExpr.parse_form
returns-in-Let c s us h = made_other _ _ _ _ _ _ s us h _ _ c.let_plan.result let_in (subst (FormIs (form_of c.args.text.now s)) c.in-Let.is (form_of_lem c.args.text.now 0 c.args.tree.now c.args.at c.args.w c.args.next s us h c.form_named.result c.bytes.ensures c.form_named.ensures)) (c.let_plan.ensures s us h _)

pub returns-in-Lit : goal.returns-in-Lit
unfolding ParseExpr.parse_form
returns-in-Lit c s us h = made_other _ _ _ _ _ _ s us h _ _ c.lit_plan.result lit (subst (FormIs (form_of c.args.text.now s)) c.in-Lit.is (form_of_lem c.args.text.now 0 c.args.tree.now c.args.at c.args.w c.args.next s us h c.form_named.result c.bytes.ensures c.form_named.ensures)) (c.lit_plan.ensures s us h _)

pub returns-in-Apply : goal.returns-in-Apply
returns-in-Apply c s us h = made-apply _ _ _ _ _ _ s us h _ _ (subst (FormIs (form_of c.args.text.now s)) c.in-Apply.is (form_of_lem c.args.text.now 0 c.args.tree.now c.args.at c.args.w c.args.next s us h c.form_named.result c.bytes.ensures c.form_named.ensures))
