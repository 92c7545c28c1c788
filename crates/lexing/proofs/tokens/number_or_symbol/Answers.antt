use mathlib.Core.Path.{sym, ap, ◌∙◌}
use Rattle.lexing.specs.Quads.{as_integer}
use Rattle.lexing.proofs.Lexing.Leaves.{coded-integer, coded-decimal, coded-symbol}
use Rattle.lexing.proofs.Lexing.Letters.{letter_integer, letter_decimal}
use Rattle.lexing.proofs.tokens.number_or_symbol.Goals as goal

pub returns-then-first-gt57 : goal.returns-then-first-gt57
returns-then-first-gt57 c = c.spanned.ensures ∙ coded-symbol _ _ _ (ap as_integer (letter_integer _ c.if-first-gt57.true)) (letter_decimal _ c.if-first-gt57.true)

pub returns-in-Some : goal.returns-in-Some
returns-in-Some c = coded-integer _ _ _ _ c.in-Some.ensures

pub returns-in-None : goal.returns-in-None
returns-in-None c = c.spanned-in-None.ensures ∙ coded-decimal _ _ _ c.in-None.ensures (sym c.if-is_decimal.true ∙ c.is_decimal.ensures)

pub returns-in-None-2 : goal.returns-in-None-2
returns-in-None-2 c = c.spanned-in-None-2.ensures ∙ coded-symbol _ _ _ c.in-None-2.ensures (sym c.if-is_decimal.false ∙ c.is_decimal.ensures)
