use Prim.Native.Nat.{◌^◌}
use mathlib.Core.Path.{refl, ap, ◌∙◌}
use borrow.Author.Tests.{leb-true}
use Rattle.std.specs.Prelude.{Some, None}
use Rattle.reading.specs.Number.{below}
use Rattle.lexing.specs.Quads.{as_word}
use Rattle.lexing.proofs.Lexing.Signs.{unsigned-words}
use Rattle.lexing.proofs.number.u64_of.Goals as goal

pub returns-in_err-unsigned : goal.returns-in_err-unsigned
unfolding below
returns-in_err-unsigned c = c.from_residual.ensures ∙ ap as_word (unsigned-words _ 10 (2 ^ 64) None (leb-true (2 ^ 64) (2 ^ 128) refl) c.in_err-unsigned.ensures)

pub returns : goal.returns
returns c = c.low_words.ensures ∙ ap as_word (unsigned-words _ 10 (2 ^ 64) (Some c.in_ok-unsigned.field-0) (leb-true (2 ^ 64) (2 ^ 128) refl) c.in_ok-unsigned.ensures)
