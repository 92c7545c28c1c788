use Rattle.judging.proofs.ReadFields.{any_in, any_out}
use Rattle.heads.proofs.skip.Goals as goal

pub returns-then-words-at : goal.returns-then-words-at
returns-then-words-at c = any_out _ _ _ c.requires c.if-words-at.true

pub returns : goal.returns
returns c = any_in _ _ _ c.requires c.if-words-at.false
