use Rattle.std.proofs.Common.{refl, le-ltb, lt-ltb}
use Rattle.reading.specs.Pick.{pick}
use Rattle.plans.proofs.lists.only.Goals as goal

pub returns-then-n-lt2 : goal.returns-then-n-lt2
unfolding pick
returns-then-n-lt2 c = rw (lt-ltb _ _ c.if-n-lt2.true) refl

pub returns : goal.returns
unfolding pick
returns c = rw (le-ltb _ _ c.if-n-lt2.false) refl
