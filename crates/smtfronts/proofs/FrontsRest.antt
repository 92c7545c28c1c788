-- What is left where some of the kinds that are told have been looked for.
use Prim.Native.Nat.{ℕ}
use mathlib.Core.Path.{◌≡◌, refl}
use mathlib.Core.List.{List}
use mathlib.Core.Logic.{◌⊎◌, ⊎_elim}
use Rattle.words.specs.declared.span.Span.{Span}
use Rattle.reading.specs.Answer.{bad, unwritable}
use Rattle.nodes.specs.declared.kind.Node.{Node}
use Rattle.nodes.specs.declared.kind.Node.TheVariants as told
use Rattle.smtfronts.specs.Fronts.{callee_text, node_text}

-- Every kind but variables and theory functions.
module _ (text : List ℕ) where
  pub rest-callee : (node : Node) → ((k : ℕ) → node ≡ told.Fresh k → ⊥) → ((s : Span) → node ≡ told.Named s → ⊥) → ((k : ℕ) → node ≡ told.Theory k → ⊥) → callee_text text node ≡ bad unwritable
  rest-callee (told.Num q) f g h = refl
  rest-callee (told.Bool b) f g h = refl
  rest-callee (told.Str s) f g h = refl
  rest-callee (told.BitVec q width) f g h = refl
  rest-callee (told.Fresh k) f g h = absurd (f k refl)
  rest-callee (told.Named s) f g h = absurd (g s refl)
  rest-callee told.Neg f g h = refl
  rest-callee (told.Bin op) f g h = refl
  rest-callee told.If f g h = refl
  rest-callee told.And f g h = refl
  rest-callee told.Or f g h = refl
  rest-callee told.Not f g h = refl
  rest-callee told.Imp f g h = refl
  rest-callee told.Iff f g h = refl
  rest-callee (told.Atom r) f g h = refl
  rest-callee (told.Let s) f g h = refl
  rest-callee (told.Theory k) f g h = absurd (h k refl)
  rest-callee (told.IsCtor s) f g h = refl
  rest-callee (told.Exists m) f g h = refl
  rest-callee (told.LetFresh k) f g h = refl
  rest-callee told.Other f g h = refl

  -- A theory function alone, an exists and any other kind.
  pub unwritten : (n : ℕ) (node : Node) → ((k : ℕ) × (node ≡ told.Theory k)) ⊎ (((m : ℕ) × (node ≡ told.Exists m)) ⊎ (node ≡ told.Other)) → node_text text node n ≡ bad unwritable
  unwritten n node h = ⊎_elim (λ (p : (k : ℕ) × (node ≡ told.Theory k)). rw p.1 refl) (λ q. ⊎_elim (λ (p : (m : ℕ) × (node ≡ told.Exists m)). rw p.1 refl) (λ (p : node ≡ told.Other). rw p refl) q) h
