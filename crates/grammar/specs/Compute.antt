-- Opens every definition of this crate at once, for claims that are proved by computing.
use Rattle.reading.specs.Compute.{text_computes}
use Rattle.grammar.specs.Expr.{exprs, binder_items, kind_items, name_items, pred_items, preds_items, bind_items, solution_items, expr_items}
use Rattle.grammar.specs.Item.{raise, words_of, used, bound}
use Rattle.grammar.specs.Names.{keywords, theory, plain_sorts, one_sort, two_sorts, three_items}
use Rattle.grammar.specs.Numbers.{times}
use Rattle.grammar.specs.Operations.{the_tree, make_sort, make_expr, make_bind, make_solution, sort_final, expr_final, bind_final, draft_final}
use Rattle.grammar.specs.ParseBind.{parse_bind}
use Rattle.grammar.specs.ParseExpr.{child_at, nested_at, plain_at, operands, node_form, minus_form, name_of, through, through_name, through_value, let_form, is_ctor_form, call_form, quoted_in, numeral, each_pred, symbols, kvar_form, expr_pred, atom_child, bits_of, sort_in, binders, exists_form, width_of, lit_form, is_apply_atom, is_apply, as_form, apply_form, form_of, parse_form, atom_headed, headed, list_expr, symbol_preds, atom_preds, headed_preds, list_preds, atom_expr, list_child, parse_expr, child}
use Rattle.grammar.specs.ParseSolution.{all_names, all_sorts, parse_solution}
use Rattle.grammar.specs.ParseSort.{in_list, in_atom, symbol_in, in_symbol, integer_in, in_integer, tree_at, size_named, index_named, other_sort, sort_table, func_number, view_at, each_sort, func_sort, function_sort, symbol_sort, atom_sort, size_of, bit_vec_sort, form_sort, sort_form, list_sort, parse_sort, view}
use Rattle.grammar.specs.Raise.{raise_binders, raise_kind, raise_solution, raise_expr}
use Rattle.grammar.specs.Scope.{numbered, same_name, number_among, number_in, symbol_expr, is_among, repeated, distinct}
use Rattle.grammar.specs.Shape.{depth, scopes}
use Rattle.grammar.specs.Sort.{sorts, funcs, abstracted, sort_words}

unfoldable pub parse_computes : Unit {0}
unfolding text_computes exprs binder_items kind_items name_items pred_items preds_items bind_items solution_items expr_items raise words_of used bound keywords theory plain_sorts one_sort two_sorts three_items times the_tree make_sort make_expr make_bind make_solution sort_final expr_final bind_final draft_final parse_bind child_at nested_at plain_at operands node_form minus_form name_of through through_name through_value let_form is_ctor_form call_form quoted_in numeral each_pred symbols kvar_form expr_pred atom_child bits_of sort_in binders exists_form width_of lit_form is_apply_atom is_apply as_form apply_form form_of parse_form atom_headed headed list_expr symbol_preds atom_preds headed_preds list_preds atom_expr list_child parse_expr child all_names all_sorts parse_solution in_list in_atom symbol_in in_symbol integer_in in_integer tree_at size_named index_named other_sort sort_table func_number view_at each_sort func_sort function_sort symbol_sort atom_sort size_of bit_vec_sort form_sort sort_form list_sort parse_sort view raise_binders raise_kind raise_solution raise_expr numbered same_name number_among number_in symbol_expr is_among repeated distinct depth scopes sorts funcs abstracted sort_words
parse_computes = tt
