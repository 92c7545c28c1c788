use mathlib.Core.Path.{ap}
use native.Mathlib.Omega.{arith}
use Rattle.words.specs.Quads.{as_quad}
use Rattle.words.proofs.Wides.{wide-small}
use Rattle.words.proofs.quad.QuadFromU64.from.Goals as goal

pub returns : goal.returns
returns c = ap as_quad (wide-small _ (omega arith))
