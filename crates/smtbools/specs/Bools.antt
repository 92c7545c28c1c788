-- And and Or in front of their operands; true and false.
use Rattle.std.specs.Prelude.{ℕ, zero, suc, Bool, true, false, List, []}
use Rattle.reading.specs.Bytes.{ascii}
use Rattle.smtoperators.specs.Operators.{operator_text}

-- And and Or: what stands for no operand, nothing for one, and the operator for more.
unfoldable pub folded_text : List ℕ → List ℕ → ℕ → List ℕ
folded_text unit name zero = unit
folded_text unit name (suc zero) = []
folded_text unit name (suc (suc n)) = operator_text name

-- True and false.
abbrev pub bool_text : Bool → List ℕ
bool_text true = ascii "true"
bool_text false = ascii "false"
