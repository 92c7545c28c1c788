-- The kinds of the forms with operands, and the table of keywords.
use Prim.Native.Nat.{ℕ, ◌≤◌}
use mathlib.Core.Path.{◌≡◌, refl}
use mathlib.Core.Bool.{Bool, true, false}
use native.Mathlib.Omega.{arith}
use Rattle.reading.specs.Bytes.{Span, SpanWithin, Maybe, nothing, just}
use Rattle.reading.specs.Number.{Wide}
use Rattle.reading.specs.Tree.{Trees, AllWithin}
use Rattle.grammar.specs.Item.{words_of, used, bound}
use Rattle.grammar.specs.Expr.{k_bit_vec, k_neg, BinOp, op_add, op_mul, op_div, op_mod, Relation, rel_eq, rel_ne, rel_gt, rel_ge, rel_lt, rel_le, k_bin, k_not, k_or, k_and, k_if, k_atom, k_iff, k_imp, k_is_ctor, kind_items}
use Rattle.grammar.specs.Names.{Form, fixed, many, cast, exists, let_in, lit, minus, is_ctor, apply, keywords}
use Rattle.grammar.specs.Scope.{var_of}
use Rattle.grammar.specs.ParseExpr.{or_else_form}
use Rattle.grammar.specs.Shape.{HasOperands}
use Rattle.grammar.specs.Literals.{LiteralFits}
use Rattle.grammar.proofs.AnswerHolds.{AllRows, IfThere}
use Rattle.grammar.proofs.WalkKeeps.{PlainKind}

-- A name that stands in trees.
abbrev pub NameFromAny : Trees → Span → Type 0
NameFromAny ts s = (limit : ℕ) → AllWithin ts limit → SpanWithin s limit

-- Kinds that have no field but codes.
pub neg_plain : (ts : Trees) → PlainKind ts k_neg
unfolding kind_items used bound words_of
neg_plain ts = record { uses = λ n. refl; binds = λ n. refl; opens = refl; coded = λ limit numbers w. tt; size = λ n. omega arith; fits = tt; named = refl; made = tt }

if_plain : (ts : Trees) → PlainKind ts k_if
unfolding kind_items used bound words_of
if_plain ts = record { uses = λ n. refl; binds = λ n. refl; opens = refl; coded = λ limit numbers w. tt; size = λ n. omega arith; fits = tt; named = refl; made = tt }

and-plain : (ts : Trees) → PlainKind ts k_and
unfolding kind_items used bound words_of
and-plain ts = record { uses = λ n. refl; binds = λ n. refl; opens = refl; coded = λ limit numbers w. tt; size = λ n. omega arith; fits = tt; named = refl; made = tt }

or_plain : (ts : Trees) → PlainKind ts k_or
unfolding kind_items used bound words_of
or_plain ts = record { uses = λ n. refl; binds = λ n. refl; opens = refl; coded = λ limit numbers w. tt; size = λ n. omega arith; fits = tt; named = refl; made = tt }

not_plain : (ts : Trees) → PlainKind ts k_not
unfolding kind_items used bound words_of
not_plain ts = record { uses = λ n. refl; binds = λ n. refl; opens = refl; coded = λ limit numbers w. tt; size = λ n. omega arith; fits = tt; named = refl; made = tt }

imp_plain : (ts : Trees) → PlainKind ts k_imp
unfolding kind_items used bound words_of
imp_plain ts = record { uses = λ n. refl; binds = λ n. refl; opens = refl; coded = λ limit numbers w. tt; size = λ n. omega arith; fits = tt; named = refl; made = tt }

iff_plain : (ts : Trees) → PlainKind ts k_iff
unfolding kind_items used bound words_of
iff_plain ts = record { uses = λ n. refl; binds = λ n. refl; opens = refl; coded = λ limit numbers w. tt; size = λ n. omega arith; fits = tt; named = refl; made = tt }

pub bin_plain : (op : BinOp) (ts : Trees) → PlainKind ts (k_bin op)
unfolding kind_items used bound words_of
bin_plain op ts = record { uses = λ n. refl; binds = λ n. refl; opens = refl; coded = λ limit numbers w. tt; size = λ n. omega arith; fits = tt; named = refl; made = tt }

rel_plain : (r : Relation) (ts : Trees) → PlainKind ts (k_atom r)
unfolding kind_items used bound words_of
rel_plain r ts = record { uses = λ n. refl; binds = λ n. refl; opens = refl; coded = λ limit numbers w. tt; size = λ n. omega arith; fits = tt; named = refl; made = tt }

pub bits_plain : (ts : Trees) (v : Wide) (width : ℕ) → LiteralFits (k_bit_vec v width) → PlainKind ts (k_bit_vec v width)
unfolding kind_items used bound words_of
bits_plain ts v width f = record { uses = λ n. refl; binds = λ n. refl; opens = refl; coded = λ limit numbers w. tt; size = λ n. omega arith; fits = f; named = refl; made = tt }

-- A kind with a name from the trees.
pub ctor-plain : (ts : Trees) (x : Span) → NameFromAny ts x → PlainKind ts (k_is_ctor (var_of x))
unfolding kind_items used bound words_of
ctor-plain ts x f = record { uses = λ n. refl; binds = λ n. refl; opens = refl; coded = λ limit numbers w. f limit w; size = λ n. omega arith; fits = tt; named = refl; made = tt }

-- What a form asks of a name of l bytes: that its kind is plain and has its number of operands; that `is$` stands in it.
abbrev pub FormFits : ℕ → Form → Type 0
FormFits l (fixed k n) = ((m : ℕ) → m ≡ n → HasOperands k m) × ((ts : Trees) → PlainKind ts k)
FormFits l (many k) = ((m : ℕ) → HasOperands k m) × ((ts : Trees) → PlainKind ts k)
FormFits l cast = Unit {0}
FormFits l exists = Unit {0}
FormFits l let_in = Unit {0}
FormFits l lit = Unit {0}
FormFits l minus = Unit {0}
FormFits l is_ctor = 3 ≤ l
FormFits l apply = Unit {0}

pub keywords-fit : (l : ℕ) → AllRows keywords (λ _ f. FormFits l f)
unfolding keywords
keywords-fit l = (
  tt,
  (
    tt,
    (
      tt,
      (
        (λ m e. e, not_plain),
        (
          (λ m. tt, or_plain),
          (
            (λ m. tt, and-plain),
            (
              tt,
              (
                (λ m e. e, if_plain),
                (
                  (λ m e. e, bin_plain op_add),
                  (
                    tt,
                    (
                      (λ m e. e, bin_plain op_mul),
                      (
                        (λ m e. e, bin_plain op_div),
                        (
                          (λ m e. e, bin_plain op_mod),
                          (
                            (λ m e. e, rel_plain rel_eq),
                            (
                              (λ m e. e, rel_plain rel_ne),
                              (
                                (λ m e. e, rel_plain rel_lt),
                                (
                                  (λ m e. e, rel_plain rel_le),
                                  (
                                    (λ m e. e, rel_plain rel_gt),
                                    (
                                      (λ m e. e, rel_plain rel_ge),
                                      ((λ m e. e, iff_plain), ((λ m e. e, imp_plain), (tt, tt))),
                                    ),
                                  ),
                                ),
                              ),
                            ),
                          ),
                        ),
                      ),
                    ),
                  ),
                ),
              ),
            ),
          ),
        ),
      ),
    ),
  ),
)

pub form-fits : (l : ℕ) (b : Bool) (m : Maybe Form) → (b ≡ true → 3 ≤ l) → IfThere m (FormFits l) → FormFits l (or_else_form b m)
form-fits l b (just f) h k = k
form-fits l true nothing h k = h refl
form-fits l false nothing h k = tt
