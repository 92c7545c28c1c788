-- Laws of tokens and of the words of atoms.
use Prim.Native.Nat.{ℕ, suc, ◌+◌, ◌-◌, ◌<◌}
use mathlib.Core.Bool.{Bool, true, false}
use mathlib.Core.Path.{◌≡◌, refl, sym, ap, ◌∙◌}
use mathlib.Core.List.{List, ◌∷◌}
use native.Mathlib.Numerals.{add-one}
use native.Mathlib.Omega.{arith}
use lib.Dec.{ltb}
use lib.ListN.{length, get_or, take, drop, length-take, length-drop}
use lib.Seq.{drop-cons}
use borrow.Author.Tests.{lt-ltb, le-ltb}
use Rattle.std.specs.Prelude.{Option, Some, None}
use Rattle.reading.specs.Bytes.{before, starts_with, Span, Maybe, nothing, just}
use Rattle.reading.specs.Number.{Wide}
use Rattle.reading.specs.Space.{space_bytes, ends_atom}
use Rattle.reading.specs.Tree.{Atom, symbol, quoted, integer, atom_words}
use Rattle.reading.specs.Token as spec
use Rattle.reading.specs.Token.{or_decimal, atom_of, quoted_token, at_token, token_at}
use Rattle.words.specs.declared.quad.Quad.{Quad}
use Rattle.lexing.specs.declared.tokens.Coded.{Coded}
use Rattle.lexing.specs.declared.tokens.Token.TheVariants.{Blank, Leaf, Unfinished}
use Rattle.words.specs.Quads.{as_wide}
use Rattle.lexing.specs.Quads.{as_integer}
use Rattle.lexing.specs.Found.{FoundAt}
use Rattle.lexing.specs.TokenWords.{as_words, as_coded, span_coded, quoted_at, symbol_at, as_token}
use Rattle.reading.proofs.Picks.{pick_eq, pick_ne}
use Rattle.reading.proofs.Bytes.{before_le}

-- The words inside a magnitude.
abbrev quad_in : Quad → Option Quad → Quad
quad_in d (Some q) = q
quad_in d None = d

abbrev is_there : Option Quad → ℕ
is_there (Some q) = 1
is_there None = 0

-- No integer.
none : (m : Maybe Wide) → None ≡ as_integer m → nothing ≡ m
none nothing e = refl
none (just w) e = let z : ◌≡◌ {A = ℕ} 0 1 = ap is_there e in absurd (omega arith)

-- What bytes are an atom of, by the integer that they are and whether they are a decimal.
module _ (isDec : Bool) (s : Span) where
  pub coded-integer : (m : Maybe Wide) (q : Quad) → Some q ≡ as_integer m → record { count = 5; words = record { a = 18; b = q.a; c = q.b; d = q.c; e = q.d } } ≡ as_coded (or_decimal m isDec s)
  unfolding or_decimal atom_words
  coded-integer nothing q e = let z : ◌≡◌ {A = ℕ} 1 0 = ap is_there e in absurd (omega arith)
  coded-integer (just w) q e = ap (λ (x : Quad). as_coded (integer (as_wide x))) (ap (quad_in q) e)

  pub coded-decimal : (m : Maybe Wide) → None ≡ as_integer m → true ≡ isDec → span_coded 19 s ≡ as_coded (or_decimal m isDec s)
  unfolding or_decimal atom_words
  coded-decimal m e t = rw (← none m e, ← t)

  pub coded-symbol : (m : Maybe Wide) → None ≡ as_integer m → false ≡ isDec → span_coded 16 s ≡ as_coded (or_decimal m isDec s)
  unfolding or_decimal atom_words
  coded-symbol m e t = rw (← none m e, ← t)

-- An atom as a token.
leaf : (p p' : ℕ) (w : Coded) (x : Atom) → p ≡ p' → w ≡ as_coded x → Leaf p w.count w.words ≡ Leaf p' (length (atom_words x)) (as_words x)
leaf p p' w x e q = rw (e, q)

-- A token that ends with a byte at the place e, or does not end.
module _ (s : List ℕ) (at : ℕ) (test : List ℕ → Bool) (token : Bool → spec.Token) where
  open-token : FoundAt test s (at + 1) None → as_token at (token false) ≡ as_token at (token (ltb (before test (drop (at + 1) s)) (length (drop (at + 1) s))))
  open-token h = ap (λ (t : Bool). as_token at (token t)) (sym (le-ltb (before test (drop (at + 1) s)) (length (drop (at + 1) s)) (omega (arith, length-drop (at + 1) s))))

  leaf-token : (e : ℕ) (w : Coded) (x : Atom) → FoundAt test s (at + 1) (Some e) → w ≡ as_coded x → spec.word x (suc (before test (drop (at + 1) s))) ≡ token true
      → Leaf (e + 1) w.count w.words ≡ as_token at (token (ltb (before test (drop (at + 1) s)) (length (drop (at + 1) s))))
  leaf-token e w x h q r =
      let n : ℕ = before test (drop (at + 1) s) in
      let ends : ltb n (length (drop (at + 1) s)) ≡ true = lt-ltb n (length (drop (at + 1) s)) (omega (arith, length-drop (at + 1) s)) in
      leaf (e + 1) (at + suc (suc n)) w x (omega arith) q ∙ ap (as_token at) (r ∙ ap token (sym ends))

-- A string, and an `@`.
module _ (s : List ℕ) (at : ℕ) where
  string : Bool → spec.Token
  string t = quoted_token t at (before (starts_with 34) (drop (at + 1) s))

  pub quoted_open : FoundAt (starts_with 34) s (at + 1) None → Unfinished ≡ as_token at (quoted_at at (drop (at + 1) s))
  unfolding quoted_token string
  quoted_open h = open-token s at (starts_with 34) string h

  pub quoted-leaf : (e : ℕ) → FoundAt (starts_with 34) s (at + 1) (Some e) → (w : Coded) → w ≡ span_coded 17 (record { start = at + 1; len = e - (at + 1) })
      → Leaf (e + 1) w.count w.words ≡ as_token at (quoted_at at (drop (at + 1) s))
  unfolding quoted_token string atom_words
  quoted-leaf e h w q =
      let n : ℕ = before (starts_with 34) (drop (at + 1) s) in
      let len : e - (at + 1) ≡ n = omega arith in
      leaf-token s at (starts_with 34) string e w (quoted (record { start = at + 1; len = n })) h (q ∙ ap (λ (k : ℕ). span_coded 17 (record { start = at + 1; len = k })) len) refl

  sign : Bool → spec.Token
  sign t = at_token t at (before (starts_with 41) (drop (at + 1) s))

  pub symbol_open : FoundAt (starts_with 41) s (at + 1) None → Unfinished ≡ as_token at (symbol_at at (drop (at + 1) s))
  unfolding at_token sign
  symbol_open h = open-token s at (starts_with 41) sign h

  pub symbol-leaf : (e : ℕ) → FoundAt (starts_with 41) s (at + 1) (Some e) → (w : Coded) → w ≡ span_coded 16 (record { start = at; len = e + 1 - at })
      → Leaf (e + 1) w.count w.words ≡ as_token at (symbol_at at (drop (at + 1) s))
  unfolding at_token sign atom_words
  symbol-leaf e h w q =
      let n : ℕ = before (starts_with 41) (drop (at + 1) s) in
      let len : e + 1 - at ≡ suc (suc n) = omega arith in
      leaf-token s at (starts_with 41) sign e w (symbol (record { start = at; len = suc (suc n) })) h (q ∙ ap (λ (k : ℕ). span_coded 16 (record { start = at; len = k })) len) refl

-- Other tokens, where the byte is none of the four.
module _ (s : List ℕ) (at : ℕ) (h : at < length s) (n : ℕ) (en : n ≡ space_bytes (drop at s))
    (n₁ : get_or s at 0 ≡ 40 → ⊥) (n₂ : get_or s at 0 ≡ 41 → ⊥) (n₃ : get_or s at 0 ≡ 34 → ⊥) (n₄ : get_or s at 0 ≡ 64 → ⊥) where
  here : drop at s ≡ get_or s at 0 ∷ drop (at + 1) s
  here = rw (drop-cons s at 0, add-one)

  space : space_bytes (get_or s at 0 ∷ drop (at + 1) s) ≡ n
  space = sym (en ∙ ap space_bytes here)

  pub token-blank : (n ≡ 0 → ⊥) → Blank (at + n) ≡ as_token at (token_at at (get_or s at 0) (drop (at + 1) s))
  unfolding token_at
  token-blank z =
      let k : space_bytes (get_or s at 0 ∷ drop (at + 1) s) ≡ 0 → ⊥ = λ q. z (sym space ∙ q) in
      let p : at + n ≡ at + suc (space_bytes (get_or s at 0 ∷ drop (at + 1) s) - 1) = omega (arith, space) in
      ap Blank p ∙ ap (as_token at) (pick_ne _ n₁ (pick_ne _ n₂ (pick_ne _ n₃ (pick_ne _ n₄ (pick_ne _ k refl)))))

  pub token-leaf : (e : ℕ) (w : Coded) → n ≡ 0 → e ≡ at + 1 + before ends_atom (drop (at + 1) s)
      → w ≡ as_coded (atom_of (take (e - at) (drop at s)) (record { start = at; len = length (take (e - at) (drop at s)) }))
      → Leaf e w.count w.words ≡ as_token at (token_at at (get_or s at 0) (drop (at + 1) s))
  unfolding token_at
  token-leaf e w z p q =
      let rest : List ℕ = drop (at + 1) s in
      let m : ℕ = before ends_atom rest in
      let bytes : List ℕ = get_or s at 0 ∷ take m rest in
      let size : e - at ≡ suc m = omega arith in
      let same : take (e - at) (drop at s) ≡ bytes = ap (λ (k : ℕ). take k (drop at s)) size ∙ ap (take (suc m)) here in
      let long : length bytes ≡ suc m = omega (arith, length-take m rest, before_le ends_atom rest) in
      let x : Atom = atom_of bytes (record { start = at; len = suc m }) in
      let spans : w ≡ as_coded x = q ∙ ap (λ (l : List ℕ). as_coded (atom_of l (record { start = at; len = length l }))) same ∙ ap (λ (k : ℕ). as_coded (atom_of bytes (record { start = at; len = k }))) long in
      leaf e (at + suc m) w x (omega arith) spans
      ∙ ap (as_token at) (pick_ne _ n₁ (pick_ne _ n₂ (pick_ne _ n₃ (pick_ne _ n₄ (pick_eq _ (space ∙ z) refl)))))
