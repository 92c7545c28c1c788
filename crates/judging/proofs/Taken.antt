-- What was read, taken apart: the parts of an expression that was read, and the first of several.
use Prim.Native.Nat.{ℕ, zero, suc, ◌+◌, ◌-◌, ◌<◌}
use mathlib.Core.Bool.{Bool, true, false}
use mathlib.Core.Path.{◌≡◌, refl, sym, ◌∙◌}
use mathlib.Core.List.{List}
use native.Mathlib.Omega.{arith}
use lib.Dec.{ltb}
use lib.ListN.{length, get_or}
use borrow.Author.Tests.{ltb-true}
use Rattle.reading.specs.Bytes.{Maybe}
use Rattle.reading.specs.Pick.{pick}
use Rattle.reading.specs.Answer.{not_words}
use Rattle.grammar.specs.Sort.{Sort}
use Rattle.grammar.specs.Expr.{Kind, Expr, Exprs, node, app, enil, econs}
use Rattle.judging.specs.Judge.{Judged, reads, fails, FromWords, go_on, operands_of, arguments_of, several, sort_if, word, header, planned, expr_deep}
use Rattle.judging.proofs.FieldsBack.{moved}

-- Nothing is read where a refusal is met.
pub never-reads : {A P : Type 0} {r n : ℕ} {a : A} → fails r ≡ reads a n → P
never-reads e = let z : ◌≡◌ {A = ℕ} 0 1 = cc in absurd (omega arith)

-- One after the other: the first was read, and so was the second behind it.
pub first_read : {A B P : Type 0} (x : Judged A) (f : A → FromWords B) (ws : List ℕ) {b : B} {n : ℕ} → go_on x f ws ≡ reads b n → ((a : A) (m : ℕ) → x ≡ reads a m → f a ws m ≡ reads b n → P) → P
first_read (reads a m) f ws e k = k a m refl e
first_read (fails r) f ws e k = never-reads e

-- Only refusals come behind what was read.
refused-behind : {A B P : Type 0} (x : Judged A) (f : A → ℕ) (ws : List ℕ) {b : B} {n : ℕ} → go_on x (λ a us m. fails (f a)) ws ≡ reads b n → P
refused-behind (reads a m) f ws e = never-reads e
refused-behind (fails r) f ws e = never-reads e

-- The same value and the same end.
pub same-value : {A : Type 0} {a b : A} {m n : ℕ} → reads a m ≡ reads b n → a ≡ b
same-value e = cc

pub same_end : {A : Type 0} {a b : A} {m n : ℕ} → reads a m ≡ reads b n → m ≡ n
same_end e = cc

-- A word that is read: what it is, what stands behind it, and that it stands among the words.
pub word_read : (ws : List ℕ) (at : ℕ) {w n : ℕ} → word ws at ≡ reads w n → (w ≡ get_or ws at 0) × (n ≡ at + 1) × (at < length ws)
unfolding word pick
word_read ws at {w} {n} e = go (ltb at (length ws)) refl e
  where
    go : (t : Bool) → ltb at (length ws) ≡ t → pick t (reads (get_or ws at 0) (at + 1)) (fails not_words) ≡ reads w n → (w ≡ get_or ws at 0) × (n ≡ at + 1) × (at < length ws)
    go true h f = (sym (same-value f), sym (same_end f), ltb-true at (length ws) h)
    go false h f = never-reads f

module _ (limit : ℕ) (ws : List ℕ) (at : ℕ) {P : Type 0} {e : Expr} {n : ℕ} where
  -- Nothing is read where there is no room, or no header.
  pub read-no-room : (room : ℕ) → room ≡ 0 → expr_deep limit room ws at ≡ reads e n → P
  unfolding expr_deep
  read-no-room zero z q = refused-behind (word ws at) _ ws q
  read-no-room (suc room) z q = absurd (omega (arith, z))

  pub read-no-header : (room : ℕ) {r : ℕ} → (room ≡ 0 → ⊥) → header limit ws at ≡ fails r → expr_deep limit room ws at ≡ reads e n → P
  unfolding expr_deep
  read-no-header zero z h q = absurd (z refl)
  read-no-header (suc room) z h q = never-reads (rw h at q)

  -- A kind and its operands.
  pub read-operands : (room : ℕ) {k : Kind} {c a : ℕ} → (room ≡ 0 → ⊥) → header limit ws at ≡ reads (operands_of k c) a → expr_deep limit room ws at ≡ reads e n
      → ((es : Exprs) → several (expr_deep limit (room - 1)) enil econs c ws a ≡ reads es n → e ≡ node k es → P) → P
  unfolding expr_deep planned
  read-operands zero z h q f = absurd (z refl)
  read-operands (suc room) {k} {c} {a} z h q f =
      let p : suc room - 1 ≡ room = omega arith in
      first_read (several (expr_deep limit room) enil econs c ws a) _ ws (rw h at q) λ es m x y.
      f es (rw p (x ∙ moved (same_end y))) (sym (same-value y))

  -- An application: arguments, output sort, head.
  pub read-arguments : (room : ℕ) {f : Bool} {c a : ℕ} → (room ≡ 0 → ⊥) → header limit ws at ≡ reads (arguments_of f c) a → expr_deep limit room ws at ≡ reads e n
      → ((es : Exprs) (b : ℕ) (o : Maybe Sort) (d : ℕ) (h : Expr) → several (expr_deep limit (room - 1)) enil econs c ws a ≡ reads es b → sort_if limit f ws b ≡ reads o d → expr_deep limit (room - 1) ws d ≡ reads h n → e ≡ app o es h → P) → P
  unfolding expr_deep planned
  read-arguments zero z h q g = absurd (z refl)
  read-arguments (suc room) {f} {c} {a} z h q g =
      let p : suc room - 1 ≡ room = omega arith in
      first_read (several (expr_deep limit room) enil econs c ws a) _ ws (rw h at q) λ es b x y.
      first_read (sort_if limit f ws b) _ ws y λ o d s t.
      first_read (expr_deep limit room ws d) _ ws t λ i m u v.
      g es b o d i (rw p x) s (rw p (u ∙ moved (same_end v))) (sym (same-value v))

module _ (p : FromWords Expr) (ws : List ℕ) (at : ℕ) {P : Type 0} {es : Exprs} {n : ℕ} where
  -- None of several, or the first of them and the others.
  pub read_none : (i : ℕ) → i ≡ 0 → several p enil econs i ws at ≡ reads es n → (es ≡ enil → at ≡ n → P) → P
  unfolding several
  read_none zero z q f = f (sym (same-value q)) (same_end q)
  read_none (suc i) z q f = absurd (omega (arith, z))

  pub read_more : (i : ℕ) → 0 < i → several p enil econs i ws at ≡ reads es n
      → ((f : Expr) (m : ℕ) (fs : Exprs) → p ws at ≡ reads f m → several p enil econs (i - 1) ws m ≡ reads fs n → es ≡ econs f fs → P) → P
  unfolding several
  read_more zero z q f = absurd (omega (arith, z))
  read_more (suc i) z q f =
      let k : suc i - 1 ≡ i = omega arith in
      first_read (p ws at) _ ws q λ g m x y.
      first_read (several p enil econs i ws m) _ ws y λ gs j u v.
      f g m gs x (rw k (u ∙ moved (same_end v))) (sym (same-value v))
