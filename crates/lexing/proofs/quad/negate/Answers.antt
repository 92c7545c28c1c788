use mathlib.Core.Path.{ap}
use Rattle.words.specs.Quads.{as_quad, as_wide}
use Rattle.lexing.proofs.Lexing.Limbs.{flipped}
use Rattle.lexing.proofs.quad.negate.Goals as goal

pub returns : goal.returns
returns c =
    let x = c.flip-x in
    let y = c.flip-y in
    let z = c.flip-z in
    let w = c.flip-w in
    ap as_quad (flipped (as_wide c.args.q) (record { a = x.result.lo; b = y.result.lo; c = z.result.lo; d = w.result.lo }) _ _ _ _ (record { a = x.ensures.2; b = y.ensures.2; c = z.ensures.2; d = w.ensures.2 }) w.ensures.1 x.ensures.0 y.ensures.0 z.ensures.0 w.ensures.0)
