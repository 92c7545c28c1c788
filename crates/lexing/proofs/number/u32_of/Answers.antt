use Prim.Native.Nat.{◌^◌}
use mathlib.Core.Path.{refl, ap, ◌∙◌}
use borrow.Author.Tests.{leb-true}
use Rattle.std.specs.Prelude.{Some, None}
use Rattle.reading.specs.Number.{below, unsigned}
use Rattle.lexing.specs.Quads.{as_word}
use Rattle.lexing.proofs.Lexing.Mags.{narrowed, tried}
use Rattle.lexing.proofs.number.u32_of.Goals as goal

pub returns-in_err-u64_of : goal.returns-in_err-u64_of
unfolding below unsigned
returns-in_err-u64_of c = c.from_residual.ensures ∙ ap as_word (narrowed (2 ^ 32) (2 ^ 64) (leb-true (2 ^ 32) (2 ^ 64) refl) _ None c.in_err-u64_of.ensures)

pub returns : goal.returns
unfolding unsigned
returns c =
    tried c.try_from.result c.in_ok-u64_of.field-0 (2 ^ 32) _ c.try_from.ensures c.ok.ensures.value
    ∙ ap as_word (narrowed (2 ^ 32) (2 ^ 64) (leb-true (2 ^ 32) (2 ^ 64) refl) _ (Some c.in_ok-u64_of.field-0) c.in_ok-u64_of.ensures)
