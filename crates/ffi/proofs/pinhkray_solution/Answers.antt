use mathlib.Core.Path.{refl}
use Rattle.boundary.proofs.Replies.{counted-reply}
use borrow.Author.Rules.{rules}
use Rattle.ffi.proofs.pinhkray_solution.Goals as goal

pub returns : goal.returns
returns c = counted-reply c.open.ensures c.solution-solved.ensures _ c.from-told.ensures refl
