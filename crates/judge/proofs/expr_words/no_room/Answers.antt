use mathlib.Core.Path.{sym, ap, ◌∙◌}
use borrow.Author.Tests.{false-ltb}
use Rattle.std.specs.Option.{is_some}
use Rattle.judge.proofs.ReadExpr.{full-known, full-high, full-low, full-out}
use Rattle.judge.proofs.expr_words.no_room.Goals as goal

pub returns-in-Some : goal.returns-in-Some
returns-in-Some c = full-known _ _ c.in-Some.ensures.lookup.3 c.if-k-ge-NUMERAL.true c.if-k-lt-KINDS_END.true

pub returns-in_default : goal.returns-in_default
returns-in_default c = full-high _ _ c.in-Some.ensures.lookup.3 c.if-k-lt-KINDS_END.false

pub returns-in_default-2 : goal.returns-in_default-2
returns-in_default-2 c = full-low _ _ c.in-Some.ensures.lookup.3 c.if-k-ge-NUMERAL.false

pub returns-in_default-3 : goal.returns-in_default-3
returns-in_default-3 c = full-out _ _ (false-ltb _ _ (sym (ap (λ o. is_some o) c.in_default.is) ∙ c.get.ensures.lookup.0))
