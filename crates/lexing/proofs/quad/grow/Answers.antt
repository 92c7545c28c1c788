use Rattle.lexing.proofs.Lexing.Limbs.{grown}
use Rattle.lexing.proofs.quad.grow.Goals as goal

pub returns : goal.returns
returns c =
    let x = c.times-x in
    let y = c.times-y in
    let z = c.times-z in
    let w = c.times-w in
    grown _ _ _ _ _ _ _ _ (record { a = x.ensures.2; b = y.ensures.2; c = z.ensures.2; d = w.ensures.2 }) x.ensures.0 y.ensures.0 z.ensures.0 w.ensures.0
