use Rattle.heads.proofs.ReadHead.{counted_in, counted-out}
use Rattle.heads.proofs.counted.Goals as goal

pub returns-in_default : goal.returns-in_default
returns-in_default c = counted-out _ _ c.in_default.ensures.lookup.3

pub returns : goal.returns
returns c = counted_in _ _ c.in-Some.ensures.lookup.3
