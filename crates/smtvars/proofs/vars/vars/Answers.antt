use Rattle.std.proofs.lemmas.Result.{err_from_is_err_and}
use mathlib.Core.Path.{refl, ap, ◌∙◌}
use native.Mathlib.Omega.{arith}
use lib.ListN.{length}
use Rattle.smtnames.proofs.Tells.{gone-told, part-told, put, put_as, gone_as, put_seq, gone-behind}
use Rattle.smtvars.proofs.VarTexts.{vars-text}
use Rattle.smtvars.proofs.VarLoop.{coming_start, coming_end, coming_put, coming_next, coming_as, next-spaced, next-first, next-gone, next_as}
use Rattle.smtvars.proofs.vars.vars.Goals as goal
use Rattle.smtvars.proofs.vars.vars.Goals.{then-i-gt0, else-i-gt0}

pub loop-i-init : goal.loop-i-init
loop-i-init c = (refl, λ limit bs m e. coming_as (omega arith) (coming_start _ _ e))

pub returns-in_err-told : goal.returns-in_err-told
returns-in_err-told c limit bs m e =
    let p = err_from_is_err_and c.from_residual.result c.from_residual.ensures.1 in
    rw (p.1, p.2) (gone-told (gone_as (vars-text _ bs) (gone-behind (put c.byte-p.ensures) (next-gone (elim c.if-i-gt0.branch [ then-i-gt0 v ↦ next_as v.out-is v.p-is (next-spaced (c.loop-i.invariant.1 limit bs m e) (omega arith) (omega arith) v.byte-p-then-i-gt0.ensures) | else-i-gt0 v ↦ next_as v.out-is v.p-is (next-first (c.loop-i.invariant.1 limit bs m e) (omega arith) (omega arith)) ]) c.var.ensures c.in_err-told.was))))

pub loop-i-preserved : goal.loop-i-preserved
loop-i-preserved c = (c.var.auto.out ∙ (elim c.if-i-gt0.branch [ then-i-gt0 v ↦ ap length v.out-is ∙ (v.byte-p-then-i-gt0.ensures.kept ∙ c.loop-i.invariant.0) | else-i-gt0 v ↦ ap length v.out-is ∙ c.loop-i.invariant.0 ]), λ limit bs m e. coming_as (omega arith) (coming_next (elim c.if-i-gt0.branch [ then-i-gt0 v ↦ next_as v.out-is v.p-is (next-spaced (c.loop-i.invariant.1 limit bs m e) (omega arith) (omega arith) v.byte-p-then-i-gt0.ensures) | else-i-gt0 v ↦ next_as v.out-is v.p-is (next-first (c.loop-i.invariant.1 limit bs m e) (omega arith) (omega arith)) ]) c.var.ensures _ (omega arith) (omega arith) c.in_ok-told.was))

pub returns : goal.returns
returns c limit bs m e = part-told (coming_end (c.loop-i.invariant.1 limit bs m e) (omega arith)) (put_as (vars-text _ bs) (put_seq (put c.byte-p.ensures) (coming_put (c.loop-i.invariant.1 limit bs m e) (omega arith) c.byte.ensures)))
