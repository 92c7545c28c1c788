-- Names in the rows of a table.
use Prim.Native.Nat.{ℕ}
use mathlib.Core.Path.{◌≡◌, refl, sym, ap}
use mathlib.Core.List.{List}
use Rattle.reading.specs.Bytes.{Named}
use Rattle.writing.specs.Wrote.{WroteBytes}
use Rattle.writing.proofs.Wrote.{wrote_as}
use Rattle.smt.specs.Writer.{spelled_at}
use Rattle.smtoperators.specs.Operators.{operator_text}

-- The name in a row of a table, by the row's number.
pub spelled_as : {A : Type 0} (rows : List (Named A)) (j : ℕ) {k : ℕ} {l l' : List ℕ} {place p : ℕ} → k ≡ j → WroteBytes l place (operator_text (spelled_at rows j)) l' p → WroteBytes l place (operator_text (spelled_at rows k)) l' p
spelled_as rows j e w = wrote_as (ap (λ (k : ℕ). operator_text (spelled_at rows k)) (sym e)) refl w
