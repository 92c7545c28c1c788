use native.Mathlib.Omega.{arith}
use Rattle.lexing.proofs.Lexing.Limbs.{product}
use Rattle.lexing.proofs.quad.times.Goals as goal

pub overflow_mul-t : goal.overflow_mul-t
overflow_mul-t c = omega (arith, product c.args.m c.args.w c.ranges.w.fits)

pub overflow_add-t : goal.overflow_add-t
overflow_add-t c = omega (arith, product c.args.m c.args.w c.ranges.w.fits)

pub returns : goal.returns
returns c = omega (arith, product c.args.m c.args.w c.ranges.w.fits)
