use mathlib.Core.Path.{refl}
use Rattle.smtnames.specs.Written.{tells, keeps}
use Rattle.smtfronts.proofs.FrontsRest.{rest-callee}
use Rattle.smtfronts.proofs.callee.named.Goals as goal

pub returns-in-Fresh : goal.returns-in-Fresh
returns-in-Fresh c = rw c.in-Fresh.is (tells c.fresh.ensures refl)

pub returns-in-Named : goal.returns-in-Named
returns-in-Named c = rw c.in-Named.is c.name.ensures

pub returns-in-Theory : goal.returns-in-Theory
returns-in-Theory c = rw c.in-Theory.is c.function.ensures

pub returns-in_default : goal.returns-in_default
returns-in_default c = rw (rest-callee c.args.text.now c.args.node c.in_default.not-Fresh c.in_default.not-Named c.in_default.not-Theory) (keeps refl refl)
