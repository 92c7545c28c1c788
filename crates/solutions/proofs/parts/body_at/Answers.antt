use Rattle.std.proofs.lemmas.Result.{err_from_is_err_and}
use mathlib.Core.Path.{refl}
use native.Mathlib.Omega.{arith}
use Rattle.solutions.proofs.SolutionBody.{body-here, body_refused_lem, body_twice, body-wrote}
use Rattle.solutions.proofs.parts.body_at.Goals as goal

pub expr-requires : goal.expr-requires
expr-requires c = body-here c.requires refl _ (omega arith) c.opened-depth.ensures.0 c.opened-depth.ensures.1

pub twice-requires : goal.twice-requires
twice-requires c = c.requires.params

pub returns-then-twice : goal.returns-then-twice
returns-then-twice c h = body_twice h refl (c.expr.ensures.1 (body-here h refl _ (omega arith) c.opened-depth.ensures.0 c.opened-depth.ensures.1)) c.in_ok-done.was (c.twice.ensures h.params) c.if-twice.true

pub returns-in_err-done : goal.returns-in_err-done
returns-in_err-done c h =
    let p = err_from_is_err_and c.from_residual.result c.from_residual.ensures.1 in
    rw (p.1, p.2) (body_refused_lem h refl (c.expr.ensures.1 (body-here h refl _ (omega arith) c.opened-depth.ensures.0 c.opened-depth.ensures.1)) c.in_err-done.was)

pub returns : goal.returns
returns c h = body-wrote h refl (c.expr.ensures.1 (body-here h refl _ (omega arith) c.opened-depth.ensures.0 c.opened-depth.ensures.1)) c.in_ok-done.was (c.twice.ensures h.params) c.if-twice.false
