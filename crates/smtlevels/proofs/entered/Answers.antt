use mathlib.Core.Path.{◌∙◌}
use lib.ListN.{length-set}
use native.Mathlib.Omega.{arith}
use Rattle.smtlevels.proofs.Levels.{known_more}
use Rattle.smtlevels.proofs.entered.Goals as goal

pub halved-k-requires : goal.halved-k-requires
halved-k-requires c = c.requires

pub offset_bounds-bases-k : goal.offset_bounds-bases-k
offset_bounds-bases-k c = omega (arith, c.halved-k.ensures.room.1)

pub bounds-bases-k : goal.bounds-bases-k
bounds-bases-k c = c.halved-k.ensures.room.1

pub overflow_add-result : goal.overflow_add-result
overflow_add-result c = omega (arith, c.halved-k.ensures.room.1)

pub returns : goal.returns
returns c = record { room = (length-set c.halved-k.new.bases c.halved-k.result c.args.base ∙ c.halved-k.ensures.room.0, omega (arith, c.halved-k.ensures.room.1)); lists = λ m cs e o. known_more c.halved-k.new.bases c.halved-k.result m cs (omega (arith, c.halved-k.ensures.room.0, c.halved-k.ensures.room.1)) e (c.halved-k.ensures.lists cs o) }
