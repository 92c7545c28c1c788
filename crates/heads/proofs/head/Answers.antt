use mathlib.Core.Logic.{inl, inr}
use native.Mathlib.Omega.{arith}
use Rattle.heads.proofs.ReadHead.{at_32, at_33, at_34, at_35, at_36, at_37, at_38, at_39, at_40, at_41, at_42, at_43, at_44, at_45, at_46, at_47, at_48, at_49, at_50, at_52, head-either, head-high, head-kind, head-low, head-next, head-out, next}
use Rattle.heads.proofs.head.Goals as goal

pub returns-in_default : goal.returns-in_default
returns-in_default c = head-out _ _ _ c.in_default.ensures.lookup.3

pub returns-in-32 : goal.returns-in-32
returns-in-32 c = head-kind _ _ _ c.in-Some.ensures.lookup.3 32 c.in-32.is (at_32 _ _ _ c.skip.ensures c.operands.ensures)

pub returns-in-33 : goal.returns-in-33
returns-in-33 c = head-kind _ _ _ c.in-Some.ensures.lookup.3 33 c.in-33.is (at_33 _ _ _ c.below.ensures c.operands-in-33.ensures)

pub returns-in-34 : goal.returns-in-34
returns-in-34 c = head-either _ _ _ c.in-Some.ensures.lookup.3 34 37 c.in-34.is (at_34 _ _ _ c.span_end.ensures c.operands-in-34.ensures) (at_37 _ _ _ c.span_end.ensures c.operands-in-34.ensures)

pub returns-in-35 : goal.returns-in-35
returns-in-35 c = head-kind _ _ _ c.in-Some.ensures.lookup.3 35 c.in-35.is (at_35 _ _ _ c.skip-in-35.ensures c.operands-in-35.ensures)

pub returns-in-36 : goal.returns-in-36
returns-in-36 c = head-kind _ _ _ c.in-Some.ensures.lookup.3 36 c.in-36.is (at_36 _ _ _ c.skip-in-36.ensures c.operands-in-36.ensures)

pub returns-in-38 : goal.returns-in-38
returns-in-38 c = head-kind _ _ _ c.in-Some.ensures.lookup.3 38 c.in-38.is (at_38 _ _ _ c.arguments.ensures)

pub returns-in-39 : goal.returns-in-39
returns-in-39 c = head-either _ _ _ c.in-Some.ensures.lookup.3 39 44 c.in-39.is (at_39 _ _ _) (at_44 _ _ _)

pub returns-in-40 : goal.returns-in-40
returns-in-40 c = head-kind _ _ _ c.in-Some.ensures.lookup.3 40 c.in-40.is (at_40 _ _ _ c.below-in-40.ensures c.operands-in-40.ensures)

pub returns-in-41 : goal.returns-in-41
returns-in-41 c = head-kind _ _ _ c.in-Some.ensures.lookup.3 41 c.in-41.is (at_41 _ _ _)

pub returns-in-42 : goal.returns-in-42
returns-in-42 c =
    let s = c.in-42.in_default-own.rest.0.0.0.0.0.0 in
    head-next _ _ _ c.in-Some.ensures.lookup.3 42 (next (next (next (next (next (next (next (next (next (next c.in-42.if-k-lt32-own.false s.0.0.0.0.0.0.0.0.1) s.0.0.0.0.0.0.0.1) (λ q. s.0.0.0.0.0.0.1 (inl q))) s.0.0.0.0.0.1) s.0.0.0.0.1) (λ q. s.0.0.0.0.0.0.1 (inr q))) s.0.0.0.1) (λ q. s.0.0.1 (inl q))) s.0.1) s.1) c.in-42.if-k-lt44-own.true (at_42 _ _ _ c.counted.ensures) (at_43 _ _ _ c.counted.ensures)

pub returns-in-45 : goal.returns-in-45
returns-in-45 c =
    let s = c.in-45.in_default-own.rest.0.0.0.0.0.0 in
    head-next _ _ _ c.in-Some.ensures.lookup.3 45 (next c.in-45.if-k-lt44-own.false (λ q. s.0.0.1 (inr q))) c.in-45.if-k-lt47-own.true (at_45 _ _ _) (at_46 _ _ _)

pub returns-in-47 : goal.returns-in-47
returns-in-47 c = head-kind _ _ _ c.in-Some.ensures.lookup.3 47 c.in-47.is (at_47 _ _ _ c.below-in-47.ensures c.operands-in-47.ensures)

pub returns-in-48 : goal.returns-in-48
returns-in-48 c = head-kind _ _ _ c.in-Some.ensures.lookup.3 48 c.in-48.is (at_48 _ _ _ c.span_end-in-48.ensures c.operands-in-48.ensures)

pub returns-in-49 : goal.returns-in-49
returns-in-49 c = head-kind _ _ _ c.in-Some.ensures.lookup.3 49 c.in-49.is (at_49 _ _ _ c.below-in-49.ensures c.operands-in-49.ensures)

pub returns-in-50 : goal.returns-in-50
returns-in-50 c = head-kind _ _ _ c.in-Some.ensures.lookup.3 50 c.in-50.is (at_50 _ _ _ c.span_end-in-50.ensures c.operands-in-50.ensures)

pub returns-in-51 : goal.returns-in-51
returns-in-51 c = head-kind _ _ _ c.in-Some.ensures.lookup.3 51 c.in-51.is c.quantified.ensures

pub returns-in-52 : goal.returns-in-52
returns-in-52 c = head-kind _ _ _ c.in-Some.ensures.lookup.3 52 c.in-52.is (at_52 _ _ _ c.skip-in-52.ensures c.operands-in-52.ensures)

pub returns-in_default-k : goal.returns-in_default-k
returns-in_default-k c = head-low _ _ _ c.in-Some.ensures.lookup.3 c.in_default-k.if-k-lt32-own.true

pub returns-in_default-k-2 : goal.returns-in_default-k-2
returns-in_default-k-2 c =
    let r = c.in_default-k.in_default-own.rest in
    head-high _ _ _ c.in-Some.ensures.lookup.3 (omega (arith, c.in_default-k.if-k-lt47-own.false, r.1, r.0.1, r.0.0.1, r.0.0.0.1, r.0.0.0.0.1, r.0.0.0.0.0.1))
