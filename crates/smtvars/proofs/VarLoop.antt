-- The loop over sorted variables, step by step.
use Prim.Native.Nat.{ℕ, ◌-◌, ◌≤◌, ◌<◌}
use mathlib.Core.Path.{◌≡◌, refl, sym, ap, ◌∙◌}
use mathlib.Core.List.{List, [], ◌∷◌}
use native.Mathlib.Omega.{arith}
use lib.Dec.{ltb}
use Rattle.reading.specs.Pick.{pick}
use Rattle.reading.specs.Answer.{Ans, got}
use Rattle.reading.proofs.Picks.{pick_lt, pick_ge, pick-holds}
use Rattle.grammar.specs.Expr.{Binder}
use Rattle.judging.specs.Judge.{reads, binder_at, binders_at}
use Rattle.writing.specs.Wrote.{WroteBytes}
use Rattle.smtnames.specs.Pieces.{joined, var_text}
use Rattle.smtnames.specs.Written.{TellsPart}
use Rattle.std.specs.Prelude.{Result, Ok, Err}
use Rattle.words.specs.declared.refusal.Refusal.{Refusal}
use Rattle.words.specs.declared.walked.Walked.{Walked}
use Rattle.smtnames.proofs.Joined.{joined_assoc, joined-none}
use Rattle.smtnames.proofs.Tells.{Put, put, Gone, put-none, put_seq, put_as, gone-behind, gone-first, gone_as, part-put, part_end, part-gone}
use Rattle.smtvars.proofs.VarTexts.{spaced_vars, inside_vars, vars_body}
use Rattle.sorttext.proofs.WordsRead.{FirstBinder, binders-first, binders-none}

-- Of n variables, which end at m, i are to come from the place a on: the first of all, or one behind a space.
pub record Coming (text ws : List ℕ) (limit n : ℕ) (bs : List Binder) (m : ℕ) (l₀ : List ℕ) (place : ℕ) (l : List ℕ) (a p i : ℕ) : Type 0 where
  pub front : Ans (List ℕ)
  pub left : List Binder
  pub read : binders_at limit i ws a ≡ reads left m
  pub whole : vars_body text bs ≡ joined front (joined (pick (ltb i n) (spaced_vars text left) (inside_vars text left)) (got (41 ∷ [])))
  pub laid : Put front l₀ place l p

pub coming_start : {text ws : List ℕ} {limit n : ℕ} {bs : List Binder} {m : ℕ} (l : List ℕ) (place : ℕ) {a : ℕ} → binders_at limit n ws a ≡ reads bs m → Coming text ws limit n bs m l place l a place n
unfolding vars_body
coming_start {text} {n = n} {bs = bs} l place e =
    record {
      front = got [];
      left = bs;
      read = e;
      whole = ap (λ z. joined z (got (41 ∷ []))) (pick_ge {a = n} {b = n} _ (omega arith) refl) ∙ sym (joined-none _);
      laid = put-none l place;
    }

-- As many are to come by another name.
pub coming_as : {text ws : List ℕ} {limit n : ℕ} {bs : List Binder} {m : ℕ} {l₀ : List ℕ} {place : ℕ} {l : List ℕ} {a p i j : ℕ} → j ≡ i → Coming text ws limit n bs m l₀ place l a p i → Coming text ws limit n bs m l₀ place l a p j
coming_as e c = rw e c

-- A variable is about to be written.
pub record Next (text ws : List ℕ) (limit : ℕ) (bs : List Binder) (m : ℕ) (l₀ : List ℕ) (place : ℕ) (l : List ℕ) (a p i : ℕ) : Type 0 where
  pub front : Ans (List ℕ)
  pub var : Binder
  pub others : List Binder
  pub end : ℕ
  pub one : binder_at limit ws a ≡ reads var end
  pub rest : binders_at limit (i - 1) ws end ≡ reads others m
  pub whole : vars_body text bs ≡ joined front (joined (var_text text var) (joined (spaced_vars text others) (got (41 ∷ []))))
  pub laid : Put front l₀ place l p

module _ {text ws : List ℕ} {limit n : ℕ} {bs : List Binder} {m : ℕ} {l₀ : List ℕ} {place : ℕ} {l : List ℕ} {a p i : ℕ} (c : Coming text ws limit n bs m l₀ place l a p i) where
  -- Behind a space, or the first of all.
  pub next-spaced : {l₁ : List ℕ} {p₁ : ℕ} → 0 < i → i < n → WroteBytes l p (32 ∷ []) l₁ p₁ → Next text ws limit bs m l₀ place l₁ a p₁ i
  unfolding spaced_vars
  next-spaced h k w =
      let f : FirstBinder limit ws a i c.left m = binders-first limit ws a i h c.read in
      record {
        front = joined c.front (got (32 ∷ []));
        var = f.first;
        others = f.others;
        end = f.next;
        one = f.one;
        rest = f.rest;
        whole =
            c.whole
            ∙ ap (λ z. joined c.front (joined z (got (41 ∷ [])))) (sym (pick_lt {a = i} {b = n} _ k refl) ∙ ap (spaced_vars text) f.all)
            ∙ simp joined_assoc;
        laid = put_seq c.laid (put w);
      }

  pub next-first : 0 < i → n ≤ i → Next text ws limit bs m l₀ place l a p i
  unfolding inside_vars
  next-first h k =
      let f : FirstBinder limit ws a i c.left m = binders-first limit ws a i h c.read in
      record {
        front = c.front;
        var = f.first;
        others = f.others;
        end = f.next;
        one = f.one;
        rest = f.rest;
        whole =
            c.whole
            ∙ ap (λ z. joined c.front (joined z (got (41 ∷ [])))) (sym (pick_ge {a = i} {b = n} _ k refl) ∙ ap (inside_vars text) f.all)
            ∙ simp joined_assoc;
        laid = c.laid;
      }

  -- None is left.
  pub coming_end : i ≤ 0 → a ≡ m
  coming_end h = (binders-none limit ws a i h c.read).1

  pub coming_put : {l₁ : List ℕ} {p₁ : ℕ} → i ≤ 0 → WroteBytes l p (41 ∷ []) l₁ p₁ → Put (vars_body text bs) l₀ place l₁ p₁
  unfolding spaced_vars inside_vars
  coming_put h w =
      let e : c.left ≡ [] = (binders-none limit ws a i h c.read).0 in
      let s : spaced_vars text c.left ≡ got [] = ap (spaced_vars text) e in
      let t : inside_vars text c.left ≡ got [] = ap (inside_vars text) e in
      let q : pick (ltb i n) (spaced_vars text c.left) (inside_vars text c.left) ≡ got [] = pick-holds (ltb i n) _ _ (λ z. z ≡ got []) s t in
      put_as (c.whole ∙ ap (λ z. joined c.front (joined z (got (41 ∷ [])))) q ∙ ap (joined c.front) (joined-none _)) (put_seq c.laid (put w))

module _ {text ws : List ℕ} {limit : ℕ} {bs : List Binder} {m : ℕ} {l₀ : List ℕ} {place : ℕ} {l : List ℕ} {a p i : ℕ} (c : Next text ws limit bs m l₀ place l a p i) {l₁ : List ℕ} {r : Result Walked Refusal} (w : (limit : ℕ) (b : Binder) (e : ℕ) → binder_at limit ws a ≡ reads b e → TellsPart e (var_text text b) l p l₁ r) where
  -- It is written, or it is refused.
  pub coming_next : (n : ℕ) {v : Walked} → 0 < i → i ≤ n → r ≡ Ok v → Coming text ws limit n bs m l₀ place l₁ v.next v.place (i - 1)
  coming_next n {v} h k f =
      let t = w limit c.var c.end c.one in
      let z : v.next ≡ c.end = part_end t f in
      record {
        front = joined c.front (var_text text c.var);
        left = c.others;
        read = rw z c.rest;
        whole =
            c.whole
            ∙ sym (joined_assoc c.front (var_text text c.var) _)
            ∙ ap (λ z. joined (joined c.front (var_text text c.var)) (joined z (got (41 ∷ [])))) (pick_lt {a = i - 1} {b = n} _ (omega (arith, h, k)) refl);
        laid = put_seq c.laid (part-put t f);
      }

  pub next-gone : {k : Refusal} → r ≡ Err k → Gone (vars_body text bs) l₀ l₁ k
  next-gone f = gone_as c.whole (gone-behind c.laid (gone-first _ (part-gone (w limit c.var c.end c.one) f)))

-- The same by other names.
pub next_as : {text ws : List ℕ} {limit : ℕ} {bs : List Binder} {m : ℕ} {l₀ : List ℕ} {place : ℕ} {l l' : List ℕ} {a p p' i : ℕ} → l' ≡ l → p' ≡ p → Next text ws limit bs m l₀ place l a p i → Next text ws limit bs m l₀ place l' a p' i
next_as e f t = rw (e, f) t
