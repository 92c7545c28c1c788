use Rattle.heads.proofs.ReadHead.{quantified_in, quantified-out}
use Rattle.heads.proofs.quantified.Goals as goal

pub returns-in_default : goal.returns-in_default
returns-in_default c = quantified-out _ _ _ c.in_default.ensures.lookup.3

pub returns : goal.returns
returns c = quantified_in _ _ _ c.in-Some.ensures.lookup.3 c.binders_end.ensures c.operands.ensures
