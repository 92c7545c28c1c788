use mathlib.Core.Path.{sym, ◌∙◌}
use Rattle.show.proofs.Judged.{ok-at, err-at, fits-no, fits-some, fits_all}
use Rattle.show.proofs.fits.Goals as goal

pub long_enough-requires : goal.long_enough-requires
long_enough-requires c = fits-some c.args.words.now 0 (sym (ok-at _ c.if-is_ok.ensures.value).1 ∙ c.solution.ensures)

pub returns-then-is_ok : goal.returns-then-is_ok
returns-then-is_ok c = fits_all _ _ (λ i h. (c.type_inv.words i).fits) (sym (ok-at _ c.if-is_ok.ensures.value).1 ∙ c.solution.ensures) c.long_enough.ensures

pub returns-else-is_ok : goal.returns-else-is_ok
returns-else-is_ok c = c.if-is_ok.false ∙ fits-no _ _ (sym (err-at _ c.if-is_ok.ensures.value).1 ∙ c.solution.ensures)
