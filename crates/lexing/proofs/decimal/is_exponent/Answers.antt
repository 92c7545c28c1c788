use Prim.Native.Nat.{ℕ}
use mathlib.Core.List.{List}
use mathlib.Core.Path.{ap, ◌∙◌}
use native.Mathlib.Omega.{arith}
use lib.ListN.{drop}
use Rattle.reading.specs.Number.{sign_bytes}
use Rattle.reading.specs.Decimal.{some_digits}
use Rattle.lexing.proofs.Lexing.Parts.{tail}
use Rattle.lexing.proofs.Lexing.Decimals.{exponent-end, exponent-some, exponent-no}
use Rattle.lexing.proofs.decimal.is_exponent.Goals as goal

pub returns-in-empty : goal.returns-in-empty
returns-in-empty c = exponent-end _ (omega arith)

pub returns-in-101 : goal.returns-in-101
returns-in-101 c = exponent-some _ c.in-101.len_at_least _ (λ n. omega arith) (c.signed_digits.ensures ∙ ap (λ (s : List ℕ). some_digits (drop (sign_bytes s) s)) (tail c.args.t.now 1))

pub returns-in_default : goal.returns-in_default
returns-in_default c = exponent-no _ c.in_default.len_at_least (λ e. grind arith) (λ e. grind arith)
