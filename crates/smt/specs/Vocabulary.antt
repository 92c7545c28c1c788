-- The symbols of SMT-LIB's own theories that a solution is written with, each once.
use Rattle.std.specs.Prelude.{ℕ, List, [], ◌∷◌, take, drop}
use Rattle.reading.specs.Bytes.{Named, named}
use Rattle.grammar.specs.Expr.{BinOp, op_add, op_sub, op_mul, op_div, op_mod, Relation, rel_eq, rel_ne, rel_gt, rel_ge, rel_lt, rel_le}
use Rattle.grammar.specs.Names.{theory}

-- In the order of their numbers. Neg is `-`, too, with one operand.
unfoldable pub operators : List (Named BinOp)
operators =
    named "+" op_add
    ∷ named "-" op_sub
    ∷ named "*" op_mul
    ∷ named "div" op_div
    ∷ named "mod" op_mod
    ∷ []

-- In the order of their numbers. Iff is `=`, too.
unfoldable pub relations : List (Named Relation)
relations =
    named "=" rel_eq
    ∷ named "distinct" rel_ne
    ∷ named ">" rel_gt
    ∷ named ">=" rel_ge
    ∷ named "<" rel_lt
    ∷ named "<=" rel_le
    ∷ []

-- The bit-vector functions, the theory functions from 9 to 31: SMT-LIB has them under the same names.
unfoldable pub bit_vectors : List (Named ℕ)
bit_vectors = take 23 (drop 9 theory)
