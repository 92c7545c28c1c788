use native.Mathlib.Omega.{arith}
use Rattle.reading.specs.Number.{value_of}
use Rattle.words.specs.Quads.{as_wide}
use Rattle.writing.proofs.Decimals.{decimal-some}
use Rattle.writing.proofs.Quads.{digit-lowest}
use Rattle.writing.proofs.Pieces.{end_none, end-next, end-few, end-all}
use Rattle.writing.proofs.decimal.Goals as goal

pub loop-i-init : goal.loop-i-init
loop-i-init c = end_none _ _ _ c.figures-many.ensures

pub loop-i-preserved : goal.loop-i-preserved
loop-i-preserved c = end-next c.loop-i.invariant c.shortened-s.ensures (omega arith)

pub overflow_cast-out : goal.overflow_cast-out
overflow_cast-out c = omega (arith, digit-lowest (as_wide c.loop-i.rest) (end-few c.loop-i.invariant (omega arith)))

pub overflow_add-out-2 : goal.overflow_add-out-2
overflow_add-out-2 c = omega (arith, digit-lowest (as_wide c.loop-i.rest) (end-few c.loop-i.invariant (omega arith)))

pub bounds-out-place-2 : goal.bounds-out-place-2
bounds-out-place-2 c = omega (arith, c.figures-many.ensures, decimal-some (value_of (as_wide c.args.q)))

pub returns : goal.returns
returns c =
    let e = digit-lowest (as_wide c.loop-i.rest) (end-few c.loop-i.invariant (omega arith)) in
    rw e.1 at (end-all c.loop-i.invariant (omega arith) c.figures-many.ensures (omega arith))
