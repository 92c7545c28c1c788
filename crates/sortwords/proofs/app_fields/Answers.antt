use Rattle.judging.proofs.Exits.{exits}
use Rattle.sortwords.proofs.SortRead.{app-no, app-out, app_in}
use Rattle.sortwords.proofs.app_fields.Goals as goal

pub returns-in_err-a : goal.returns-in_err-a
returns-in_err-a c = exits _ _ c.from_residual.ensures (app-no _ _ _ c.in_err-a.ensures)

pub returns-in_default : goal.returns-in_default
returns-in_default c = app-out _ _ _ c.in_ok-a.ensures c.in_default.ensures.lookup.3

pub returns : goal.returns
returns c = app_in _ _ _ c.in_ok-a.ensures c.in-Some.ensures.lookup.3
