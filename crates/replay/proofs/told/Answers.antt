use mathlib.Core.Path.{refl}
use Rattle.reading.proofs.Picks.{pick_true, pick-false, pick_eq, pick_ne}
use Rattle.replay.proofs.told.Goals as goal

pub returns-then-same : goal.returns-then-same
returns-then-same c = record { reader = refl; opened = refl; kept = refl; answers = c.more.ensures; differing = pick_true _ c.if-same.true refl; first = pick_true _ c.if-same.true refl }

pub returns-then-state-eq0 : goal.returns-then-state-eq0
returns-then-state-eq0 c = record { reader = refl; opened = refl; kept = refl; answers = c.more.ensures; differing = pick-false _ c.if-same.false c.more-2.ensures; first = pick-false _ c.if-same.false (pick_eq _ c.if-state-eq0.true c.more.ensures) }

pub returns-else-state-eq0 : goal.returns-else-state-eq0
returns-else-state-eq0 c = record { reader = refl; opened = refl; kept = refl; answers = c.more.ensures; differing = pick-false _ c.if-same.false c.more-2.ensures; first = pick-false _ c.if-same.false (pick_ne _ c.if-state-eq0.false refl) }
