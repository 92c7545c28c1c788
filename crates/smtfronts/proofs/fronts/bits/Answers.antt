use mathlib.Core.Path.{sym, refl}
use Rattle.reading.specs.Answer.{unwritable}
use Rattle.writing.proofs.Wrote.{wrote_seq}
use Rattle.smtnames.proofs.Tells.{tells-to, tells-no, tells_as}
use Rattle.smtfronts.proofs.FrontsSteps.{bits_refused, bits_taken}
use mathlib.Core.Path.{ap}
use mathlib.Core.Bool.{not}
use Rattle.smtfronts.proofs.fronts.bits.Goals as goal

pub returns-then-not-fits : goal.returns-then-not-fits
returns-then-not-fits c = tells_as (sym (bits_refused _ _ c.fits.ensures (ap not c.if-not-fits.true))) (tells-no unwritable refl)

pub returns : goal.returns
returns c =
    tells_as (sym (bits_taken _ _ c.fits.ensures (ap not c.if-not-fits.false)))
    (tells-to
    (wrote_seq _ _ c.bytes-a.ensures
    (wrote_seq _ _ c.decimal-b.ensures
    (wrote_seq _ _ c.byte-c.ensures
    (wrote_seq _ _ c.decimal_word-d.ensures c.byte.ensures)))))
