use native.Mathlib.Omega.{arith}
use mathlib.Core.Path.{refl}
use Rattle.writing.specs.Laid.{laid}
use Rattle.writing.proofs.Wrote.{wrote-all}
use Rattle.writing.proofs.byte.Goals as goal

pub returns-then-place-out : goal.returns-then-place-out
unfolding laid
returns-then-place-out c = wrote-all refl (omega arith) refl
