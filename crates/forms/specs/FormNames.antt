-- The forms of lists, the theory functions and the bits of a literal, as the code has them.
use Rattle.std.specs.Prelude.{ℕ, ◌≡◌, [], ◌∷◌, Option, Some, None, Result, Ok, Err}
use Rattle.reading.specs.Bytes.{Maybe, nothing, just}
use Rattle.reading.specs.Number.{Wide}
use Rattle.words.specs.declared.quad.Quad.{Quad}
use Rattle.words.specs.declared.refusal.Refusal.{Refusal}
use Rattle.words.specs.Quads.{as_quad}
use Rattle.words.specs.Refusals.{refusal_of}
use Rattle.reading.specs.Answer.{Ans, got, bad}
use Rattle.grammar.specs.Item.{plain}
use Rattle.grammar.specs.Expr.{Kind, kind_items}
use Rattle.grammar.specs.Names.{Form, fixed, many, cast, exists, let_in, lit, minus, is_ctor, apply}
use Rattle.forms.specs.declared.keywords.Form.{Form as Code}
use Rattle.forms.specs.declared.keywords.Form.TheVariants as code

-- A kind of one word, and a fixed number of operands.
pub record IsOne (f : Form) (a n : ℕ) : Type 0 where
  pub kind : Kind
  pub is : f ≡ fixed kind n
  pub words : kind_items kind n ≡ plain a ∷ []

-- A kind and its code.
pub record IsTwo (f : Form) (a b n : ℕ) : Type 0 where
  pub kind : Kind
  pub is : f ≡ fixed kind n
  pub words : kind_items kind n ≡ plain a ∷ plain b ∷ []

-- A kind and how many operands it has.
pub record IsMany (f : Form) (a : ℕ) : Type 0 where
  pub kind : Kind
  pub is : f ≡ many kind
  pub words : (n : ℕ) → kind_items kind n ≡ plain a ∷ plain n ∷ []

-- What the code says of a form.
abbrev pub FormIs : Form → Code → Type 0
FormIs f (code.One a n) = IsOne f a n
FormIs f (code.Two a b n) = IsTwo f a b n
FormIs f (code.Many a) = IsMany f a
FormIs f code.Cast = f ≡ cast
FormIs f code.Exists = f ≡ exists
FormIs f code.Let = f ≡ let_in
FormIs f code.Lit = f ≡ lit
FormIs f code.Minus = f ≡ minus
FormIs f code.IsCtor = f ≡ is_ctor
FormIs f code.Apply = f ≡ apply

-- The number of a theory function.
abbrev pub theory_in : Option ℕ → Maybe ℕ
theory_in (Some n) = just n
theory_in None = nothing

-- The value of a literal, or why there is none.
abbrev pub as_bits : Ans Wide → Result Quad Refusal
as_bits (got w) = Ok (as_quad w)
as_bits (bad e) = Err (refusal_of e)
