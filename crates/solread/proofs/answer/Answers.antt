use mathlib.Core.Path.{sym, ap}
use lib.Seq.{length-take-le}
use Rattle.words.specs.Answered.{heard}
use Rattle.solread.specs.Printed.{slice}
use Rattle.replies.proofs.Solved.{ToldSolution}
use Rattle.solread.proofs.Shown.{shown-long, shown-refused, shown-accepted, words_inside}
use Rattle.solread.proofs.answer.Goals as goal

pub returns-then-text-gt8192 : goal.returns-then-text-gt8192
returns-then-text-gt8192 c = shown-long c.args.text.now c.args.out.now c.requires c.if-text-gt8192.true c.from.ensures c.refusal.ensures

pub slice_bounds-words-end : goal.slice_bounds-words-end
unfolding slice
slice_bounds-words-end c = words_inside (let the_told : ToldSolution c.args.text.now slice slice slice c.open.result.next (heard c.solution-call.result.said) c.solution-call.new.out = record { new = c.open.ensures; says = c.solution-call.ensures.said; leaves = c.solution-call.ensures.output } in the_told) (ap heard c.in-Ok.is)

pub returns-in-Ok : goal.returns-in-Ok
unfolding slice
returns-in-Ok c = shown-accepted c.args.text.now c.args.out.now c.requires (let the_told : ToldSolution c.args.text.now slice slice slice c.open.result.next (heard c.solution-call.result.said) c.solution-call.new.out = record { new = c.open.ensures; says = c.solution-call.ensures.said; leaves = c.solution-call.ensures.output } in the_told) c.if-text-gt8192.false (ap heard c.in-Ok.is) c.solution.ensures

pub returns-in-Err : goal.returns-in-Err
unfolding slice
returns-in-Err c = shown-refused c.args.text.now c.args.out.now c.requires (let the_told : ToldSolution c.args.text.now slice slice slice c.open.result.next (heard c.solution-call.result.said) c.solution-call.new.out = record { new = c.open.ensures; says = c.solution-call.ensures.said; leaves = c.solution-call.ensures.output } in the_told) c.if-text-gt8192.false (ap heard c.in-Err.is) c.from-in-Err.ensures c.refusal-in-Err.ensures

pub slice_bounds-solution-end-in-Ok : goal.slice_bounds-solution-end-in-Ok
unfolding slice
slice_bounds-solution-end-in-Ok c = sym (length-take-le _ _ (words_inside (let the_told : ToldSolution c.args.text.now slice slice slice c.open.result.next (heard c.solution-call.result.said) c.solution-call.new.out = record { new = c.open.ensures; says = c.solution-call.ensures.said; leaves = c.solution-call.ensures.output } in the_told) (ap heard c.in-Ok.is)))
