use mathlib.Core.List.{[], ◌∷◌}
use native.Mathlib.Omega.{arith}
use Rattle.words.specs.Quads.{as_wide}
use Rattle.lexing.proofs.Lexing.Signs.{value-under, value-over}
use Rattle.places.proofs.Numerals.{numeral-plus, numeral-minus}
use Rattle.places.proofs.Puts.{put_append}
use Rattle.places.proofs.expr_words.put_numeral.Goals as goal

pub returns-then-q-lt2147483648 : goal.returns-then-q-lt2147483648
returns-then-q-lt2147483648 c count = (rw (numeral-plus count (as_wide c.args.q) (value-under _ (omega arith) c.if-q-lt2147483648.true)) c.put_wide.ensures, omega (arith, c.put_wide.ensures.is))

pub returns : goal.returns
returns c count = (rw (numeral-minus count (as_wide c.args.q) (value-over _ c.if-q-lt2147483648.false) c.negate.ensures) (put_append (_ ∷ []) _ c.put1-v.ensures c.put_wide-2.ensures), omega (arith, c.put1-v.ensures.is, c.put_wide-2.ensures.is))
