use native.Mathlib.Omega.{arith}
use Rattle.sortwords.proofs.SortRead.{ctor-out, ctor_plain, ctor_data, ctor-other}
use Rattle.sortwords.proofs.ctor_end.Goals as goal

pub returns-in_default : goal.returns-in_default
returns-in_default c = ctor-out _ _ _ c.in_default.ensures.lookup.3

pub returns-in-0 : goal.returns-in-0
returns-in-0 c = ctor_plain _ _ _ c.in-Some.ensures.lookup.3 c.in-0.if-k-lt2-own.true

pub returns-in-2 : goal.returns-in-2
returns-in-2 c = ctor_data _ _ _ c.in-Some.ensures.lookup.3 c.in-2.is c.span_end.ensures

pub returns-in_default-k : goal.returns-in_default-k
returns-in_default-k c = ctor-other _ _ _ c.in-Some.ensures.lookup.3 (omega (arith, c.in_default-k.if-k-lt2-own.false, c.in_default-k.in_default-own.rest.1))
