use mathlib.Core.Path.{◌∙◌}
use Rattle.replay.proofs.Calling.{asked-no, asked-yes}
use Rattle.replay.proofs.call.asked.Goals as goal

pub returns-then-is_recorded-clause-same : goal.returns-then-is_recorded-clause-same
returns-then-is_recorded-clause-same c = asked-yes c.args.line c.args.words.now c.args.text.now c.args.tree.now c.args.draft.now c.args.out.now c.run-answer.ensures c.fill.ensures c.fill-2.ensures c.fill-3.ensures c.is_recorded.ensures c.reply.ensures c.if-is_recorded.true c.is_clear.ensures

pub returns-else-is_recorded-clause-same : goal.returns-else-is_recorded-clause-same
returns-else-is_recorded-clause-same c = c.if-is_recorded.false ∙ asked-no c.args.line c.args.words.now c.args.text.now c.args.tree.now c.args.draft.now c.args.out.now c.run-answer.ensures c.fill.ensures c.fill-2.ensures c.fill-3.ensures c.is_recorded.ensures c.reply.ensures c.if-is_recorded.false
