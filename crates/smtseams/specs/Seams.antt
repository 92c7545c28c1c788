-- What stands between operands and behind them, by what the code is told of a kind.
use Rattle.std.specs.Prelude.{ℕ, Bool, true, false, List, [], ◌∷◌, ltb, leb}
use Rattle.reading.specs.Bytes.{ascii}
use Rattle.nodes.specs.declared.kind.Node.{Node}
use Rattle.nodes.specs.declared.kind.Node.TheVariants as told

-- Between two operands.
abbrev pub seam_of : Bool → List ℕ
seam_of true = ascii ")) "
seam_of false = ascii " "

-- Before an operand: nothing before the first one.
abbrev pub gap_of : Bool → Bool → List ℕ
gap_of true inLet = []
gap_of false inLet = seam_of inLet

-- Between two operands there are other bytes in a let.
abbrev pub node_lets : Node → Bool
node_lets (told.Num q) = false
node_lets (told.Bool b) = false
node_lets (told.Str s) = false
node_lets (told.BitVec q width) = false
node_lets (told.Fresh k) = false
node_lets (told.Named s) = false
node_lets told.Neg = false
node_lets (told.Bin op) = false
node_lets told.If = false
node_lets told.And = false
node_lets told.Or = false
node_lets told.Not = false
node_lets told.Imp = false
node_lets told.Iff = false
node_lets (told.Atom r) = false
node_lets (told.Let s) = true
node_lets (told.Theory k) = false
node_lets (told.IsCtor s) = false
node_lets (told.Exists m) = false
node_lets (told.LetFresh k) = true
node_lets told.Other = false

-- A parenthesis stands behind the operands.
abbrev pub node_closes : Node → ℕ → Bool
node_closes (told.Num q) n = false
node_closes (told.Bool b) n = false
node_closes (told.Str s) n = false
node_closes (told.BitVec q width) n = false
node_closes (told.Fresh k) n = false
node_closes (told.Named s) n = false
node_closes told.Neg n = true
node_closes (told.Bin op) n = true
node_closes told.If n = true
node_closes told.And n = leb 2 n
node_closes told.Or n = leb 2 n
node_closes told.Not n = true
node_closes told.Imp n = true
node_closes told.Iff n = true
node_closes (told.Atom r) n = true
node_closes (told.Let s) n = true
node_closes (told.Theory k) n = false
node_closes (told.IsCtor s) n = true
node_closes (told.Exists m) n = ltb 0 m
node_closes (told.LetFresh k) n = true
node_closes told.Other n = false

-- The parenthesis, if there is one.
abbrev pub close_text : Bool → List ℕ
close_text true = 41 ∷ []
close_text false = []
