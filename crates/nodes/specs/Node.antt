-- The kind and the fields of an expression, as the code tells them.
use Rattle.std.specs.Prelude.{ℕ, ◌+◌, ◌-◌, ◌*◌, ◌^◌, List, [], ◌∷◌, eqb, ltb, length, get_or}
use Rattle.reading.specs.Pick.{pick}
use Rattle.reading.specs.Bytes.{Maybe, nothing, just}
use Rattle.grammar.specs.Expr.{op_number, rel_number, Kind, k_num, k_bool, k_str, k_bit_vec, k_fresh, k_named, k_neg, k_bin, k_if, k_and, k_or, k_not, k_imp, k_iff, k_atom, k_let, k_theory, k_is_ctor, k_exists, k_let_fresh}
use Rattle.judging.specs.Judge.{among}
use Rattle.words.specs.Quads.{as_quad}
use Rattle.words.specs.declared.quad.Quad.{Quad}
use Rattle.words.specs.declared.span.Span.{Span}
use Rattle.words.specs.Spans.{told_span}
use Rattle.nodes.specs.declared.kind.Node.{Node}
use Rattle.nodes.specs.declared.kind.Node.TheVariants as told

-- A kind as it is told.
abbrev pub node_of : Kind → Node
node_of (k_num v) = told.Num (as_quad v)
node_of (k_bool b) = told.Bool b
node_of (k_str s) = told.Str (told_span s)
node_of (k_bit_vec v width) = told.BitVec (as_quad v) width
node_of (k_fresh k) = told.Fresh k
node_of (k_named x) = told.Named (told_span x.span)
node_of k_neg = told.Neg
node_of (k_bin op) = told.Bin (op_number op)
node_of k_if = told.If
node_of k_and = told.And
node_of k_or = told.Or
node_of k_not = told.Not
node_of k_imp = told.Imp
node_of k_iff = told.Iff
node_of (k_atom r) = told.Atom (rel_number r)
node_of (k_let x) = told.Let (told_span x.span)
node_of (k_theory k) = told.Theory k
node_of (k_is_ctor x) = told.IsCtor (told_span x.span)
node_of (k_exists bs) = told.Exists (length bs)
node_of (k_let_fresh k) = told.LetFresh k

-- A number of 64 bits, a span and a number of 128 bits by the words from a place on.
abbrev pub long_of : List ℕ → ℕ → ℕ
long_of ws a = get_or ws a 0 + get_or ws (a + 1) 0 * 2 ^ 32

abbrev pub span_of : List ℕ → ℕ → Span
span_of ws a = record { start = get_or ws a 0; len = get_or ws (a + 1) 0 }

abbrev pub quad_of : List ℕ → ℕ → Quad
quad_of ws a = record { a = get_or ws a 0; b = get_or ws (a + 1) 0; c = get_or ws (a + 2) 0; d = get_or ws (a + 3) 0 }

-- What each kind from 32 on is, with fields that begin at a place; kind 38 is an application.
unfoldable pub nodes_at : List ℕ → ℕ → List Node
nodes_at ws a =
    told.Num (quad_of ws a)
    ∷ told.Bool (eqb (get_or ws a 0) 1)
    ∷ told.Str (span_of ws a)
    ∷ told.BitVec (quad_of ws a) (get_or ws (a + 4) 0)
    ∷ told.Fresh (long_of ws a)
    ∷ told.Named (span_of ws a)
    ∷ told.Other
    ∷ told.Neg
    ∷ told.Bin (get_or ws a 0)
    ∷ told.If
    ∷ told.And
    ∷ told.Or
    ∷ told.Not
    ∷ told.Imp
    ∷ told.Iff
    ∷ told.Atom (get_or ws a 0)
    ∷ told.Let (span_of ws a)
    ∷ told.Theory (get_or ws a 0)
    ∷ told.IsCtor (span_of ws a)
    ∷ told.Exists (get_or ws a 0)
    ∷ told.LetFresh (long_of ws a)
    ∷ []

abbrev pub or_other : Maybe Node → Node
or_other nothing = told.Other
or_other (just x) = x

-- The kind whose word stands at a place, and the fields behind it.
unfoldable pub node_at : List ℕ → ℕ → Node
node_at ws at = pick (ltb (get_or ws at 0) 32) told.Other (or_other (among (nodes_at ws (at + 1)) (get_or ws at 0 - 32)))
