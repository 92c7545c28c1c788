use mathlib.Core.Path.{sym, ◌∙◌}
use Rattle.show.proofs.Showing.{hides}
use Rattle.show.proofs.solution.Goals as goal

pub returns : goal.returns
returns c = hides _ _ (sym c.fits.ensures ∙ c.if-fits.false) c.clear.ensures
