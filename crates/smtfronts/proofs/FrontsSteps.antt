-- What the functions that write a front do, step by step.
use Prim.Native.Nat.{ℕ, ◌+◌, ◌≤◌}
use mathlib.Core.Bool.{Bool, true, false, not}
use mathlib.Core.Path.{◌≡◌, refl, sym, ap, subst, ◌∙◌}
use mathlib.Core.List.{List, [], ◌∷◌, ◌++◌}
use native.Mathlib.Omega.{arith}
use lib.ListN.{length}
use borrow.Author.Tests.{not-true, not-false}
use Rattle.reading.specs.Bytes.{ascii}
use Rattle.reading.specs.Number.{Wide, value_of}
use Rattle.reading.specs.Answer.{got, bad, unwritable}
use Rattle.reading.proofs.Picks.{pick_yes, pick_no}
use Rattle.grammar.specs.Expr.{Binder, Kind}
use Rattle.judging.specs.Judge.{reads, operands_of, binders_at, header}
use Rattle.nodes.specs.Node.{node_of}
use Rattle.nodes.specs.declared.kind.Node.{Node}
use Rattle.nodes.specs.declared.kind.Node.TheVariants as told
use Rattle.judging.proofs.SpellKind.{binders-count}
use Rattle.nodes.proofs.ExistsAt.{exists-binders, header-inside, exists-told}
use Rattle.writing.specs.Digits.{decimal}
use Rattle.smt.specs.Writer.{fits_width}
use Rattle.std.specs.Prelude.{Result}
use Rattle.words.specs.declared.refusal.Refusal.{Refusal}
use Rattle.smtnames.specs.Pieces.{joined, vars_text}
use Rattle.smtfronts.specs.Fronts.{bits_text, exists_text, front_text, node_text, Numbered}
use Rattle.smtnames.specs.Written.{TellsPiece}
use Rattle.smtfronts.proofs.FrontsNode.{node-numbered, node-front, exists-front}
use Rattle.smtnames.proofs.Tells.{tells_as}

-- A value that is none of its width, and one that is.
module _ (v : Wide) (width : ℕ) {t : Bool} (e : t ≡ fits_width v width) where
  pub bits_refused : not t ≡ true → bad unwritable ≡ bits_text v width
  unfolding bits_text
  bits_refused h = pick_no _ e (not-true t h) refl

  pub bits_taken : not t ≡ false → got (40 ∷ 95 ∷ 32 ∷ 98 ∷ 118 ∷ (decimal (value_of v) ++ (32 ∷ decimal width ++ (41 ∷ [])))) ≡ bits_text v width
  unfolding bits_text
  bits_taken h = pick_yes _ e (not-false t h) refl

-- What is told of a node is told of the kind that was looked for.
pub node_as : (text : List ℕ) (n : ℕ) {node m : Node} {l l' : List ℕ} {place : ℕ} {r : Result ℕ Refusal} → node ≡ m → TellsPiece (node_text text m n) l place l' r → TellsPiece (node_text text node n) l place l' r
node_as text n e t = tells_as (ap (λ (x : Node). node_text text x n) e) t

-- Operators and relations have numbers in their tables.
pub numbered_as : {node m : Node} → node ≡ m → Numbered node → Numbered m
numbered_as e h = subst Numbered e h

-- An exists without binders, and with some.
exists_empty : (text : List ℕ) (bs : List Binder) → length bs ≡ 0 → got [] ≡ exists_text text bs
unfolding exists_text
exists_empty text [] h = refl
exists_empty text (b ∷ bs) h = absurd (omega (arith, h))

exists-filled : (text : List ℕ) (bs : List Binder) → (length bs ≡ 0 → ⊥) → joined (got (ascii "(exists ")) (joined (vars_text text bs) (got (ascii " "))) ≡ exists_text text bs
unfolding exists_text
exists-filled text [] h = absurd (h refl)
exists-filled text (b ∷ bs) h = refl

module _ (limit : ℕ) (ws text : List ℕ) (at n : ℕ) (bs : List Binder) {m : ℕ} (e : binders_at limit n ws at ≡ reads bs m) where
  pub exists-none : n ≡ 0 → got [] ≡ exists_text text bs
  exists-none h = exists_empty text bs (binders-count limit ws at n e ∙ h)

  pub exists-some : (n ≡ 0 → ⊥) → joined (got (ascii "(exists ")) (joined (vars_text text bs) (got (ascii " "))) ≡ exists_text text bs
  exists-some h = exists-filled text bs λ z. h (sym (binders-count limit ws at n e) ∙ z)

-- The front of a kind that was read.
module _ (limit : ℕ) (ws text : List ℕ) (at : ℕ) (k : Kind) {n a : ℕ} (e : header limit ws at ≡ reads (operands_of k n) a) {node : Node} (f : node ≡ node_of k) {l l' : List ℕ} {place : ℕ} {r : Result ℕ Refusal} where
  pub front-never : length ws ≤ at → TellsPiece (front_text text k n) l place l' r
  front-never h = absurd (omega (arith, h, header-inside limit ws at e))

  pub front-exists : {m : ℕ} → node ≡ told.Exists m → ((limit : ℕ) (bs : List Binder) (j : ℕ) → binders_at limit m ws (at + 2) ≡ reads bs j → TellsPiece (exists_text text bs) l place l' r) → TellsPiece (front_text text k n) l place l' r
  front-exists {m} g h =
      let x = exists-told k (sym g ∙ f) in
      let y = exists-binders limit ws at (rw x.1 at e) in
      rw x.1 (tells_as (sym (exists-front text x.0 n)) (h limit x.0 y.0 (ap (λ (i : ℕ). binders_at limit i ws (at + 2)) x.2 ∙ y.1)))

  pub front-plain : ((m : ℕ) → node ≡ told.Exists m → ⊥) → (Numbered node → TellsPiece (node_text text node n) l place l' r) → TellsPiece (front_text text k n) l place l' r
  front-plain g h =
      tells_as (sym (node-front text k n λ m q. g m (f ∙ q))) (rw f at (h (numbered_as (sym f) (node-numbered k))))
