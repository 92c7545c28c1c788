use mathlib.Core.Path.{refl}
use Rattle.boundary.proofs.Replies.{read-reply}
use borrow.Author.Rules.{rules}
use Rattle.ffi.proofs.pinhkray_read_one.Goals as goal

pub returns : goal.returns
returns c = read-reply c.open.ensures c.read_one-answer.ensures _ c.from-told.ensures refl refl
