use mathlib.Core.Path.{refl}
use Rattle.writing.proofs.Wrote.{wrote_none, wrote_seq, wrote_as}
use Rattle.smtbools.proofs.ByCount.{folded-none, folded-one, folded_more}
use Rattle.smtbools.proofs.folded.Goals as goal

-- src/operators.rt:42:9
pub returns-then-n-eq0 : goal.returns-then-n-eq0
returns-then-n-eq0 c = wrote_as (folded-none _ _ _ c.if-n-eq0.true) refl c.bytes.ensures

-- src/operators.rt:45:9
pub returns-then-n-eq1 : goal.returns-then-n-eq1
returns-then-n-eq1 c = wrote_as (folded-one _ _ _ c.if-n-eq1.true) refl (wrote_none _ _)

-- src/operators.rt:38:1
pub returns : goal.returns
returns c = wrote_as (folded_more _ _ _ c.if-n-eq0.false c.if-n-eq1.false) refl (wrote_seq _ _ c.byte-a.ensures (wrote_seq _ _ c.bytes-b.ensures c.byte.ensures))
