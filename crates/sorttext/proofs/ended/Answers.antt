use mathlib.Core.Path.{refl}
use Rattle.writing.proofs.Wrote.{wrote_seq, wrote_as}
use Rattle.sorttext.proofs.EndTexts.{end-last, end_more}
use Rattle.sorttext.proofs.ended.Goals as goal

pub returns-then-left-eq0 : goal.returns-then-left-eq0
returns-then-left-eq0 c cs o e = wrote_as (end-last cs o e c.if-left-eq0.true) refl c.closed-p.ensures

pub returns : goal.returns
returns c cs o e = wrote_as (end_more cs o e c.if-left-eq0.false) refl (wrote_seq _ _ c.closed-p.ensures c.byte.ensures)
