-- What stands in front of the operands of an expression, between them and behind them.
use Rattle.std.specs.Prelude.{ℕ, zero, suc, ◌<◌, Bool, true, false, List, [], ◌∷◌, ◌++◌, leb}
use Rattle.reading.specs.Pick.{pick}
use Rattle.reading.specs.Bytes.{ascii}
use Rattle.reading.specs.Number.{Wide, value_of}
use Rattle.reading.specs.Answer.{Ans, got, bad, and_then, unwritable}
use Rattle.grammar.specs.Expr.{Binder, Kind}
use Rattle.words.specs.Quads.{as_wide}
use Rattle.words.specs.Spans.{as_span}
use Rattle.nodes.specs.declared.kind.Node.{Node}
use Rattle.nodes.specs.declared.kind.Node.TheVariants as told
use Rattle.writing.specs.Digits.{decimal}
use Rattle.smt.specs.Sexp.{symbol_text, list, print}
use Rattle.smt.specs.Term.{ident_sx, var_sxs, term_sx}
use Rattle.smt.specs.Vocabulary.{operators, relations}
use Rattle.smt.specs.Writer.{spelled_at, fits_width, Form, alone, operator, folded, letting, some, fields_of}
use Rattle.smtoperators.specs.Operators.{operator_text}
use Rattle.smtbools.specs.Bools.{folded_text, bool_text}
use Rattle.smtfunctions.specs.Functions.{function_text}
use Rattle.smtnames.specs.Pieces.{joined, name_text, fresh_text, string_text, vars_text}

-- In front of so many operands.
unfoldable pub front_of : Form → ℕ → List ℕ
front_of (alone t) n = print (term_sx t)
front_of (operator i k) n = operator_text (print (ident_sx i))
front_of (folded unit i) zero = print (ident_sx unit)
front_of (folded unit i) (suc zero) = []
front_of (folded unit i) (suc (suc n)) = operator_text (print (ident_sx i))
front_of (letting x) n = ascii "(let ((" ++ (symbol_text x ++ (32 ∷ []))
front_of (some []) n = []
front_of (some (v ∷ vs)) n = ascii "(exists " ++ (print (list (var_sxs (v ∷ vs))) ++ (32 ∷ []))

-- Between two operands there are other bytes in a let.
unfoldable pub form_lets : Form → Bool
form_lets (alone t) = false
form_lets (operator i k) = false
form_lets (folded unit i) = false
form_lets (letting x) = true
form_lets (some vs) = false

-- A parenthesis stands behind the operands.
unfoldable pub form_closes : Form → ℕ → Bool
form_closes (alone t) n = false
form_closes (operator i k) n = true
form_closes (folded unit i) n = leb 2 n
form_closes (letting x) n = true
form_closes (some []) n = false
form_closes (some (v ∷ vs)) n = true

-- In front of the operands of a kind.
unfoldable pub front_text : List ℕ → Kind → ℕ → Ans (List ℕ)
front_text text k n = and_then (fields_of text k) λ f. got (front_of f n)

-- A value of a width.
unfoldable pub bits_text : Wide → ℕ → Ans (List ℕ)
bits_text v width = pick (fits_width v width) (got (ascii "(_ bv" ++ (decimal (value_of v) ++ (32 ∷ decimal width ++ (41 ∷ []))))) (bad unwritable)

-- A let of a fresh variable, up to its value.
unfoldable pub let_fresh_text : ℕ → List ℕ
let_fresh_text k = ascii "(let ((" ++ (fresh_text k ++ (32 ∷ []))

-- In front of the operands by what the code is told of a kind; the binders of an exists are not told.
abbrev pub node_text : List ℕ → Node → ℕ → Ans (List ℕ)
node_text text (told.Num q) n = got (decimal (value_of (as_wide q)))
node_text text (told.Bool b) n = got (bool_text b)
node_text text (told.Str s) n = string_text text (as_span s)
node_text text (told.BitVec q width) n = bits_text (as_wide q) width
node_text text (told.Fresh k) n = got (fresh_text k)
node_text text (told.Named s) n = name_text text 110 (as_span s)
node_text text told.Neg n = got (ascii "(- ")
node_text text (told.Bin op) n = got (operator_text (spelled_at operators op))
node_text text told.If n = got (ascii "(ite ")
node_text text told.And n = got (folded_text (ascii "true") (ascii "and") n)
node_text text told.Or n = got (folded_text (ascii "false") (ascii "or") n)
node_text text told.Not n = got (ascii "(not ")
node_text text told.Imp n = got (ascii "(=> ")
node_text text told.Iff n = got (ascii "(= ")
node_text text (told.Atom r) n = got (operator_text (spelled_at relations r))
node_text text (told.Let s) n = joined (got (ascii "(let ((")) (joined (name_text text 110 (as_span s)) (got (ascii " ")))
node_text text (told.Theory k) n = bad unwritable
node_text text (told.IsCtor s) n = joined (got (ascii "((_ is ")) (joined (name_text text 110 (as_span s)) (got (ascii ") ")))
node_text text (told.Exists m) n = bad unwritable
node_text text (told.LetFresh k) n = got (let_fresh_text k)
node_text text told.Other n = bad unwritable

-- Operators and relations have numbers in their tables.
abbrev pub Numbered : Node → Type 0
Numbered (told.Num q) = Unit {0}
Numbered (told.Bool b) = Unit {0}
Numbered (told.Str s) = Unit {0}
Numbered (told.BitVec q width) = Unit {0}
Numbered (told.Fresh k) = Unit {0}
Numbered (told.Named s) = Unit {0}
Numbered told.Neg = Unit {0}
Numbered (told.Bin op) = op < 5
Numbered told.If = Unit {0}
Numbered told.And = Unit {0}
Numbered told.Or = Unit {0}
Numbered told.Not = Unit {0}
Numbered told.Imp = Unit {0}
Numbered told.Iff = Unit {0}
Numbered (told.Atom r) = r < 6
Numbered (told.Let s) = Unit {0}
Numbered (told.Theory k) = Unit {0}
Numbered (told.IsCtor s) = Unit {0}
Numbered (told.Exists m) = Unit {0}
Numbered (told.LetFresh k) = Unit {0}
Numbered told.Other = Unit {0}

-- An exists up to its body; without variables it is its body.
unfoldable pub exists_text : List ℕ → List Binder → Ans (List ℕ)
exists_text text [] = got []
exists_text text (b ∷ bs) = joined (got (ascii "(exists ")) (joined (vars_text text (b ∷ bs)) (got (ascii " ")))

-- The head of an application with arguments, behind a parenthesis and before a space.
abbrev pub callee_text : List ℕ → Node → Ans (List ℕ)
callee_text text (told.Num q) = bad unwritable
callee_text text (told.Bool b) = bad unwritable
callee_text text (told.Str s) = bad unwritable
callee_text text (told.BitVec q width) = bad unwritable
callee_text text (told.Fresh k) = got (fresh_text k)
callee_text text (told.Named s) = name_text text 110 (as_span s)
callee_text text told.Neg = bad unwritable
callee_text text (told.Bin op) = bad unwritable
callee_text text told.If = bad unwritable
callee_text text told.And = bad unwritable
callee_text text told.Or = bad unwritable
callee_text text told.Not = bad unwritable
callee_text text told.Imp = bad unwritable
callee_text text told.Iff = bad unwritable
callee_text text (told.Atom r) = bad unwritable
callee_text text (told.Let s) = bad unwritable
callee_text text (told.Theory k) = function_text k
callee_text text (told.IsCtor s) = bad unwritable
callee_text text (told.Exists m) = bad unwritable
callee_text text (told.LetFresh k) = bad unwritable
callee_text text told.Other = bad unwritable
