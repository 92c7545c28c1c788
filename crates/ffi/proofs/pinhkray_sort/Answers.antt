use mathlib.Core.Path.{refl}
use Rattle.boundary.proofs.Replies.{sort-reply}
use borrow.Author.Rules.{rules}
use Rattle.ffi.proofs.pinhkray_sort.Goals as goal

pub returns : goal.returns
returns c = sort-reply c.open.ensures c.sort-answer.ensures _ c.from-told.ensures refl refl refl
