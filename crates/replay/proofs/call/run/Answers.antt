use Rattle.replay.proofs.Calling.{ran-one, ran-all, ran-sort, ran-expr, ran-bind, ran-solution}
use Rattle.replay.proofs.call.run.Goals as goal

pub returns-in-82 : goal.returns-in-82
returns-in-82 c = ran-one c.args.op c.args.reader.next c.args.text.now c.args.tree.now c.args.draft.now c.args.out.now c.in-82.is c.read_one.ensures

pub returns-in-65 : goal.returns-in-65
returns-in-65 c = ran-all c.args.op c.args.reader.next c.args.text.now c.args.tree.now c.args.draft.now c.args.out.now c.in-65.is c.read_all.ensures

pub returns-in-83 : goal.returns-in-83
returns-in-83 c = ran-sort c.args.op c.args.reader.next c.args.text.now c.args.tree.now c.args.draft.now c.args.out.now c.in-83.is c.sort.ensures

pub returns-in-69 : goal.returns-in-69
returns-in-69 c = ran-expr c.args.op c.args.reader.next c.args.text.now c.args.tree.now c.args.draft.now c.args.out.now c.in-69.is c.expression.ensures

pub returns-in-66 : goal.returns-in-66
returns-in-66 c = ran-bind c.args.op c.args.reader.next c.args.text.now c.args.tree.now c.args.draft.now c.args.out.now c.in-66.is c.bind.ensures

pub returns-in_default : goal.returns-in_default
returns-in_default c = let k = c.in_default.in_default-own.rest in ran-solution c.args.op c.args.reader.next c.args.text.now c.args.tree.now c.args.draft.now c.args.out.now k.0.0.0.0.1 k.0.0.0.1 k.0.0.1 k.0.1 k.1 c.solution.ensures
