use native.Mathlib.Omega.{arith}
use Rattle.judging.proofs.Exits.{exits}
use Rattle.sortwords.proofs.SortRead.{head-out, head_plain, head-none, head-other, head_bitvec, head-func, head-size, head_abs, head-var, head-var-no, head-app}
use Rattle.sortwords.proofs.sort_head.Goals as goal

pub returns-in_default : goal.returns-in_default
returns-in_default c = head-out _ _ _ c.in_default.ensures.lookup.3

pub returns-in-5 : goal.returns-in-5
returns-in-5 c = head_bitvec _ _ _ c.in-Some.ensures.lookup.3 c.in-5.is

pub returns-in-6 : goal.returns-in-6
returns-in-6 c = head-size _ _ _ c.in-Some.ensures.lookup.3 c.in-6.is c.one_field.ensures

pub returns-in_ok-two_end-in-7 : goal.returns-in_ok-two_end-in-7
returns-in_ok-two_end-in-7 c = head-var _ _ _ c.in-Some.ensures.lookup.3 c.in-7.is c.in_ok-two_end-in-7.ensures

pub returns-in_err-two_end-in-7 : goal.returns-in_err-two_end-in-7
returns-in_err-two_end-in-7 c = exits _ _ c.from_residual.ensures (head-var-no _ _ _ c.in-Some.ensures.lookup.3 c.in-7.is c.in_err-two_end-in-7.ensures)

pub returns-in-8 : goal.returns-in-8
returns-in-8 c = head-func _ _ _ c.in-Some.ensures.lookup.3 c.in-8.is

pub returns-in-9 : goal.returns-in-9
returns-in-9 c = head_abs _ _ _ c.in-Some.ensures.lookup.3 c.in-9.is c.one_field-in-9.ensures

pub returns-in-10 : goal.returns-in-10
returns-in-10 c = head-app _ _ _ c.in-Some.ensures.lookup.3 c.in-10.is c.app_fields.ensures

pub returns-in-1 : goal.returns-in-1
returns-in-1 c = head_plain _ _ _ c.in-Some.ensures.lookup.3 c.in-1.if-this-lt1-own.false c.in-1.if-this-lt5-own.true

pub returns-in_default-k : goal.returns-in_default-k
returns-in_default-k c = head-none _ _ _ c.in-Some.ensures.lookup.3 c.in_default-k.if-this-lt1-own.true

pub returns-in_default-k-2 : goal.returns-in_default-k-2
returns-in_default-k-2 c =
    let r = c.in_default-k.in_default-own.rest in
    head-other _ _ _ c.in-Some.ensures.lookup.3 (omega (arith, c.in_default-k.if-this-lt5-own.false, r.1, r.0.1, r.0.0.1, r.0.0.0.1, r.0.0.0.0.1, r.0.0.0.0.0.1))
