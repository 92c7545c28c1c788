use mathlib.Core.Path.{sym, ap, ◌∙◌}
use borrow.Author.Tests.{false-ltb}
use Rattle.std.specs.Option.{is_some}
use Rattle.judging.proofs.ReadFields.{below_in, below-no, below_out}
use Rattle.heads.proofs.below.Goals as goal

pub returns-in-Some : goal.returns-in-Some
returns-in-Some c = below_in _ _ _ c.in-Some.ensures.lookup.3 c.if-k-bound.true

pub returns-in_default : goal.returns-in_default
returns-in_default c = below-no _ _ _ c.in-Some.ensures.lookup.3 c.if-k-bound.false

pub returns-in_default-2 : goal.returns-in_default-2
returns-in_default-2 c = below_out _ _ _ (false-ltb _ _ (sym (ap (λ o. is_some o) c.in_default.is) ∙ c.get.ensures.lookup.0))
