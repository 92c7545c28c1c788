use mathlib.Core.Path.{◌≡◌, refl, sym, ap, ◌∙◌}
use lib.ListN.{length}
use lib.Seq.{length-take-le}
use Rattle.words.specs.Answered.{answered}
use Rattle.writing.proofs.Wrote.{wrote_as}
use Rattle.solsmt.specs.Script.{comment_line}
use Rattle.solsmt.proofs.Made.{Made, made, not_made, made_inside, space-inside, made-text}
use borrow.Author.Rules.{rules}
use Rattle.solsmt.proofs.lines.Goals as goal

pub slice_bounds-made-end : goal.slice_bounds-made-end
slice_bounds-made-end c = made_inside (let the_long : length c.list_end-k.new.out ≡ 65536 = search rules in the_long) (let the_made_of : Made c.args.words.now c.args.text.now c.list_end-k.new.out c.smtlib.new.out c.in-Ok.n = made _ _ _ (sym (ap answered c.in-Ok.is) ∙ c.smtlib.ensures.answer) c.smtlib.ensures.output in the_made_of) c.list_end-k.ensures

pub function-requires : goal.function-requires
function-requires c = space-inside (let the_long : length c.list_end-k.new.out ≡ 65536 = search rules in the_long) (let the_made_of : Made c.args.words.now c.args.text.now c.list_end-k.new.out c.smtlib.new.out c.in-Ok.n = made _ _ _ (sym (ap answered c.in-Ok.is) ∙ c.smtlib.ensures.answer) c.smtlib.ensures.output in the_made_of) c.list_end-k.ensures

pub returns-in-Ok : goal.returns-in-Ok
returns-in-Ok c s n judged = wrote_as (made-text (let the_long : length c.list_end-k.new.out ≡ 65536 = search rules in the_long) (let the_made_of : Made c.args.words.now c.args.text.now c.list_end-k.new.out c.smtlib.new.out c.in-Ok.n = made _ _ _ (sym (ap answered c.in-Ok.is) ∙ c.smtlib.ensures.answer) c.smtlib.ensures.output in the_made_of) c.list_end-k.ensures s n judged) refl c.function.ensures

pub returns-in-Err : goal.returns-in-Err
returns-in-Err c s n judged = wrote_as (ap comment_line c.from.ensures ∙ sym (not_made _ _ _ s n (let the_long : length c.list_end-k.new.out ≡ 65536 = search rules in the_long) judged (sym (ap answered c.in-Err.is) ∙ c.smtlib.ensures.answer))) refl c.comment.ensures

pub slice_bounds-function-end : goal.slice_bounds-function-end
slice_bounds-function-end c = sym (length-take-le _ _ (made_inside (let the_long : length c.list_end-k.new.out ≡ 65536 = search rules in the_long) (let the_made_of : Made c.args.words.now c.args.text.now c.list_end-k.new.out c.smtlib.new.out c.in-Ok.n = made _ _ _ (sym (ap answered c.in-Ok.is) ∙ c.smtlib.ensures.answer) c.smtlib.ensures.output in the_made_of) c.list_end-k.ensures))
