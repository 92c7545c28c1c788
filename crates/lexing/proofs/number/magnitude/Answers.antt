use mathlib.Core.Path.{subst}
use native.Mathlib.Omega.{arith}
use Rattle.reading.specs.Number.{digits}
use Rattle.lexing.specs.Quads.{QuickOf}
use Rattle.lexing.specs.declared.number.Quick.{Quick}
use Rattle.lexing.proofs.Lexing.Mags.{mag_none, mag_small}
use Rattle.lexing.proofs.number.magnitude.Goals as goal

pub returns-in-Is : goal.returns-in-Is
returns-in-Is c = mag_small _ _ _ (omega arith) c.from.ensures (subst (λ (r : Quick). QuickOf r (digits c.args.base c.args.t.now)) c.in-Is.is c.short_digits.ensures)

pub returns-in-No : goal.returns-in-No
returns-in-No c = mag_none _ (subst (λ (r : Quick). QuickOf r (digits c.args.base c.args.t.now)) c.in-No.is c.short_digits.ensures)
