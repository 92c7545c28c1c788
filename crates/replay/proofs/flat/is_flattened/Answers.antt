use Rattle.replay.proofs.Calling.{flat-verdict}
use Rattle.replay.proofs.flat.is_flattened.Goals as goal

pub returns : goal.returns
returns c = flat-verdict c.args.line c.args.words.now c.args.given.now c.args.out.now c.fill.ensures c.flatten.ensures.answer c.flatten.ensures.output c.reply-reply.ensures c.is_recorded.ensures
