use mathlib.Core.Path.{refl}
use native.Mathlib.Omega.{arith}
use Rattle.sorts.proofs.RowWords.{mark-none, mark-some}
use Rattle.sorts.proofs.sort_words.put_mark.Goals as goal

pub returns-then-m-eq0 : goal.returns-then-m-eq0
returns-then-m-eq0 c = rw (mark-none _ c.if-m-eq0.true) (omega arith, refl)

pub returns : goal.returns
returns c = rw (mark-some _ c.if-m-eq0.false) (omega arith, c.put.ensures)
