-- Opens every definition of this crate at once, for claims that are proved by computing.
use Rattle.grammar.specs.Compute.{parse_computes}
use Rattle.judging.specs.Judge.{word, word_below, choose, two_words, four_words, several, span_within, name_within, ctors, sort_kinds, sort_deep, sort_at, binder_at, binders_at, kinds, header, sort_if, planned, expr_deep, at_end, expr_at, judge_solution}
use Rattle.writing.specs.Digits.{figures, decimal}
use Rattle.smt.specs.Sexp.{symbol_byte, white, printable, quotable, reserved_words, is_reserved, simple, symbol_text, print}
use Rattle.smt.specs.SexpBack.{canonical, natural, run_sx, class_of, step, ended, more, tokens_in, snoc, build, read_sxs}
use Rattle.smt.specs.Term.{terms, sort_sx, var_sx, var_sxs, term_sx, closed_bytes}
use Rattle.smt.specs.TermBack.{lead_named, view, read_closed}
use Rattle.smt.specs.Vocabulary.{operators, relations, bit_vectors}
use Rattle.smt.specs.Writer.{fresh_symbol, bits_ident, fits_width, function_of, width_of, formed, writable, all_writable, bytes_of, symbol_of, sort_of, vars_of, fields_of, head_kind, head_of, term_of, solution_term, written}
use Rattle.smt.specs.Meant.{meants}
use Rattle.smt.specs.Meaning.{lettered, own_of, words, plain_sense, bits_sense, test_sense, sense, plain_sorts, own_sorted, named_sort, sort_sense, sort_meaning, vars_meaning, meaning, closed_meaning, read_solution}
use Rattle.smt.specs.Shape.{sort_shape, vars_shape, node_shape, expr_shape, shape}
use Rattle.smt.specs.Operation.{bytes_final, smtlib_by, smtlib_final, smtlib_said, smtlib_out}

unfoldable pub smt_computes : Unit {0}
unfolding parse_computes word word_below choose two_words four_words several span_within name_within ctors sort_kinds sort_deep sort_at binder_at binders_at kinds header sort_if planned expr_deep at_end expr_at judge_solution figures decimal symbol_byte white printable quotable reserved_words is_reserved simple symbol_text print canonical natural run_sx class_of step ended more tokens_in snoc build read_sxs terms sort_sx var_sx var_sxs term_sx closed_bytes lead_named view read_closed operators relations bit_vectors fresh_symbol bits_ident fits_width function_of width_of formed writable all_writable bytes_of symbol_of sort_of vars_of fields_of head_kind head_of term_of solution_term written meants lettered own_of words plain_sense bits_sense test_sense sense plain_sorts own_sorted named_sort sort_sense sort_meaning vars_meaning meaning closed_meaning read_solution sort_shape vars_shape node_shape expr_shape shape bytes_final smtlib_by smtlib_final smtlib_said smtlib_out
smt_computes = tt
