-- A sort at a place of the tree, whose words are laid from a place of the output on; and what such an outcome says.
use Prim.Native.Nat.{ℕ, ◌+◌, ◌-◌, ◌*◌, ◌≤◌, min}
use mathlib.Core.Path.{◌≡◌, refl, sym, ap, subst, ◌∙◌}
use mathlib.Core.List.{List, ◌++◌}
use native.Mathlib.Omega.{arith}
use native.Mathlib.Nat.{zero-add}
use lib.ListN.{length, take, drop}
use lib.Seq.{take_at}
use Rattle.reading.specs.Tree.{Tree, tree_words}
use Rattle.reading.specs.Answer.{Refusal as Met, Ans, got, bad}
use Rattle.grammar.specs.Sort.{Sort, sort_words}
use Rattle.grammar.specs.ParseSort.{parse_sort}
use Rattle.sorts.specs.Outcome.{Outcome, wrote, refused}
use Rattle.words.specs.Refusals.{refusal_of}
use Rattle.places.specs.Spot.{Spot}
use Rattle.writing.proofs.Laid.{laid-over}
use Rattle.places.specs.Outcome.{Put, OutcomeAt, wrote_at, refused_at}
use Rattle.words.specs.declared.refusal.Refusal.{Refusal}
use Rattle.std.specs.Prelude.{Result, Ok, Err}
use Rattle.grammar.proofs.AnswerHolds.{Every}
use Rattle.grammar.proofs.SortOf.{SortOf, sort_of_lem}
use Rattle.sorts.proofs.Lend.{lent-rest}

-- ---- what an outcome says

-- No answer is both.
never : {B : Type 0} {r : Result ℕ Refusal} {u : ℕ} {e : Refusal} → r ≡ Ok u → r ≡ Err e → B
never p q = let z : ◌≡◌ {A = ℕ} 0 1 = cc in absurd (omega arith)

same-done : {r : Result ℕ Refusal} {u v : ℕ} → r ≡ Ok u → r ≡ Ok v → u ≡ v
same-done p q = cc

same-refused : {r : Result ℕ Refusal} {u v : Refusal} → r ≡ Err u → r ≡ Err v → u ≡ v
same-refused p q = cc

-- There is a value, and its words are laid.
pub record GotAt {A : Type 0} (words : A → List ℕ) (a : Ans A) (w : ℕ) (o o' : List ℕ) (u : ℕ) : Type 0 where
  pub value : A
  pub is : a ≡ got value
  pub put : Put o w (words value) o' u

-- There is none.
pub record BadAt {A : Type 0} (a : Ans A) (e : Refusal) : Type 0 where
  pub why : Met
  pub is : a ≡ bad why
  pub same : e ≡ refusal_of why

module _ {A : Type 0} {words : A → List ℕ} where
  pub got-at : {a : Ans A} {w u : ℕ} {o o' : List ℕ} {r : Result ℕ Refusal} → OutcomeAt words a w o o' r → r ≡ Ok u → GotAt words a w o o' u
  got-at (wrote_at {a} d l) e = record { value = a; is = refl; put = record { is = same-done e d; words = l } }
  got-at (refused_at d) e = never e d

  pub bad-at : {a : Ans A} {w : ℕ} {e : Refusal} {o o' : List ℕ} {r : Result ℕ Refusal} → OutcomeAt words a w o o' r → r ≡ Err e → BadAt a e
  bad-at (wrote_at d l) e = never d e
  bad-at (refused_at {e = why} d) e = record { why = why; is = refl; same = same-refused e d }

  -- The rest of m from f on was lent, and came back as ys.
  pub lent-done : {a : Ans A} {w f n : ℕ} {m ys : List ℕ} {r : Result ℕ Refusal} → f ≡ min w (length m) → Outcome words a (take (length m - f) (drop f m)) ys r → r ≡ Ok n
      → OutcomeAt words a w m (take f m ++ (ys ++ drop (length m - f) (drop f m))) (Ok (w + n))
  lent-done {w = w} {f = f} {m = m} {ys = ys} p (wrote {a} d l) e =
      wrote_at (ap (λ (k : ℕ). Ok (w + k)) (same-done e d)) (lent-rest (words a) m ys w f p l ∙ laid-over (words a) m w)
  lent-done p (refused d) e = never e d

  pub lent-refused : {a : Ans A} {w : ℕ} {n : Refusal} {m z o ys : List ℕ} {r : Result ℕ Refusal} → Outcome words a o ys r → r ≡ Err n → OutcomeAt words a w m z (Err n)
  lent-refused (wrote d l) e = never d e
  lent-refused (refused d) e = refused_at (ap Err (same-refused e d))

  -- Words laid over an output are laid from its start on.
  pub over-at : {a : Ans A} {o o' : List ℕ} {r : Result ℕ Refusal} → Outcome words a o o' r → OutcomeAt words a 0 o o' r
  over-at {o = o} (wrote {a} d l) = wrote_at (d ∙ ap Ok (sym (zero-add (length (words a))))) (l ∙ laid-over (words a) o 0)
  over-at (refused d) = refused_at d

-- What holds of every value holds of this one.
pub every_got : {A : Type 0} {a : Ans A} {x : A} (Q : A → Type 0) → Every a Q → a ≡ got x → Q x
every_got {a = a} {x = x} Q h e = subst (λ (b : Ans _). Every b Q) e h

-- ---- a sort

-- A sort that was read has at most 16 words for each of its tree's.
pub sort-short : (text : List ℕ) (t : Tree) {s : Sort} → parse_sort text t ≡ got s → length (sort_words s) + 1 ≤ 16 * length (tree_words t)
sort-short text t e = (every_got (SortOf t) (sort_of_lem text t) e).short

-- The part of the words that a tree takes.
pub exact : {ws : List ℕ} {at : ℕ} (p : Spot ws at) (j : ℕ) → j ≡ length (tree_words p.tree) → take (at + j - at) (drop at ws) ≡ tree_words p.tree
exact {ws} {at} p j h = let d : at + j - at ≡ j = omega arith in rw (d, p.words) (take_at (tree_words p.tree) p.rest j (sym h))
