use Rattle.std.proofs.lemmas.Result.{err_from_is_err_and}
use mathlib.Core.Path.{sym}
use Rattle.writing.proofs.Wrote.{wrote_none}
use Rattle.smtnames.proofs.Tells.{part-put, part-gone, tells-to, tells_as, tells_seq, tells-end, tells_stop}
use Rattle.smtfronts.proofs.FrontsSteps.{exists-none, exists-some}
use Rattle.smtfronts.proofs.fronts.exists_front.Goals as goal

pub returns-then-n-eq0 : goal.returns-then-n-eq0
returns-then-n-eq0 c limit bs m e = tells_as (sym (exists-none limit _ _ _ _ bs e c.if-n-eq0.true)) (tells-to (wrote_none _ _))

pub returns : goal.returns
returns c limit bs m e =
    tells_as (sym (exists-some limit _ _ _ _ bs e c.if-n-eq0.false))
    (tells_seq _ c.bytes-a.ensures (tells-end _ (part-put (c.vars.ensures limit bs m e) c.in_ok-told.was) c.byte.ensures))

pub returns-in_err-told : goal.returns-in_err-told
returns-in_err-told c limit bs m e =
    let p = err_from_is_err_and c.from_residual.result c.from_residual.ensures.1 in
    rw (p.1, p.2) (tells_as (sym (exists-some limit _ _ _ _ bs e c.if-n-eq0.false))
    (tells_seq _ c.bytes-a.ensures (tells_stop _ (part-gone (c.vars.ensures limit bs m e) c.in_err-told.was))))
