use mathlib.Core.Path.{refl, ap, ◌∙◌}
use native.Mathlib.Omega.{arith}
use lib.ListN.{drop, length-drop}
use Rattle.reading.specs.Token.{closes, token_at}
use Rattle.lexing.specs.TokenWords.{as_token}
use Rattle.reading.proofs.Picks.{picks, pick_eq}
use Rattle.reading.proofs.Token.{space_le}
use Rattle.lexing.proofs.Lexing.Leaves.{token-blank, token-leaf}
use Rattle.lexing.proofs.tokens.token_at.Goals as goal

pub overflow_add-result : goal.overflow_add-result
overflow_add-result c =
    let a = c.args in
    omega (arith, c.space_bytes-n.ensures, space_le (drop a.at a.text.now), length-drop a.at a.text.now)

pub returns-then-n-ne0 : goal.returns-then-n-ne0
returns-then-n-ne0 c = token-blank _ c.args.at c.requires.1 _ c.space_bytes-n.ensures (λ e. omega arith) (λ e. omega arith) (λ e. omega arith) (λ e. omega arith) c.if-n-ne0.true

pub returns-in-40 : goal.returns-in-40
unfolding token_at
returns-in-40 c = ap (as_token _) (pick_eq _ c.in-40.is refl)

pub returns-in-41 : goal.returns-in-41
unfolding token_at
returns-in-41 c = ap (as_token _) {x = closes} (search (picks, arith) depth 8)

pub returns-in-34 : goal.returns-in-34
unfolding token_at
returns-in-34 c = c.quoted.ensures ∙ ap (as_token _) (search (picks, arith) depth 8)

pub returns-in-64 : goal.returns-in-64
unfolding token_at
returns-in-64 c = c.at_sign.ensures ∙ ap (as_token _) (search (picks, arith) depth 8)

pub returns-else-n-ne0 : goal.returns-else-n-ne0
returns-else-n-ne0 c = token-leaf _ c.args.at c.requires.1 _ c.space_bytes-n.ensures (λ e. omega arith) (λ e. omega arith) (λ e. omega arith) (λ e. omega arith) _ _ c.if-n-ne0.false c.atom_end-e.ensures.0 c.atom-w.ensures
