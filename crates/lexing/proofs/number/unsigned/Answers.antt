use Prim.Native.Nat.{ℕ, ◌^◌}
use mathlib.Core.Path.{ap, ◌∙◌}
use mathlib.Core.List.{List}
use Rattle.reading.specs.Number.{digits, below, unsigned}
use Rattle.lexing.specs.Quads.{as_mag}
use Rattle.lexing.proofs.Lexing.Parts.{tail_at}
use Rattle.lexing.proofs.number.unsigned.Goals as goal

pub returns : goal.returns
unfolding unsigned
returns c =
    let a = c.args in
    c.magnitude.ensures ∙ ap (λ (s : List ℕ). as_mag (below (2 ^ 128) (digits a.base s))) (tail_at a.t.now _ _ c.plus_bytes-k.ensures.0)
