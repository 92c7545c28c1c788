use mathlib.Core.Path.{sym, ap, ◌∙◌}
use Rattle.sorts.specs.Rows.{judged, ended}
use Rattle.sorts.proofs.ListForms.{plain-row}
use Rattle.sorts.proofs.sorts.row_end.Goals as goal

pub returns-then-is_size : goal.returns-then-is_size
unfolding judged
returns-then-is_size c ts e = rw c.in-BitVec.is (ap (λ b. ended b c.args.words) (sym c.if-is_size.true ∙ c.is_size.ensures ts e))

pub returns-else-is_size : goal.returns-else-is_size
unfolding judged
returns-else-is_size c ts e = rw c.in-BitVec.is (ap (λ b. ended b c.args.words) (sym c.if-is_size.false ∙ c.is_size.ensures ts e))

pub returns-in_default : goal.returns-in_default
returns-in_default c ts e = plain-row _ c.args.row ts c.in_default.not-BitVec
