use mathlib.Core.Path.{refl}
use native.Mathlib.Omega.{arith}
use Rattle.reading.specs.Number.{value_of}
use Rattle.sorts.specs.SortNames.{number_in}
use Rattle.sorts.proofs.Outcomes.{gives-bad}
use Rattle.sorts.proofs.FuncShape.{arity_out, arity_in_lem}
use Rattle.sorts.proofs.sorts.func_number.Goals as goal

pub returns-then-q-ne0 : goal.returns-then-q-ne0
unfolding value_of
returns-then-q-ne0 c = gives-bad number_in (arity_out _ (omega arith))

pub returns : goal.returns
returns c = arity_in_lem _ _ _ _ _ refl c.if-q-ne0.false c.if-q-ne0-2.false c.if-q-ne0-3.false c.if-q-gt-MAX_FUNC.false
