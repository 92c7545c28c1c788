-- The kind and the fields of an expression that are read are spelled by the words that were read.
use Prim.Native.Nat.{ℕ}
use mathlib.Core.Bool.{Bool}
use mathlib.Core.Path.{◌≡◌, refl}
use mathlib.Core.List.{List, [], ◌∷◌}
use lib.ListN.{length}
use Rattle.reading.specs.Tree.{bit}
use Rattle.grammar.specs.Item.{words_of}
use Rattle.grammar.specs.Expr.{Binder, Kind, k_exists, kind_items}
use Rattle.judging.specs.Spelled.{Spelled}
use Rattle.judging.specs.Judge.{◌>>=◌, reads, plan, word, word_below, choose, two_words, four_words, Plan, operands_of, arguments_of, span_within, name_within, binder_at, binders_at, kinds, header}
use Rattle.judging.proofs.Spell.{Low, Post, Behind, Each, last, ◌&◌, chain_post, post_reads, done, step, step_with, word_post, a_word, a-below, a-flag, a-four, a-two, chosen, counted}
use Rattle.judging.proofs.SpellSort.{a-span, a-name, binders-behind}

-- The words of a kind and its fields.
abbrev pub plan_words : Plan → List ℕ
plan_words (operands_of k n) = words_of (kind_items k n)
plan_words (arguments_of f n) = 38 ∷ bit f ∷ n ∷ []

-- How many binders are read.
several-binders : (limit : ℕ) (ws : List ℕ) (n at : ℕ) → Post (binders_at limit n ws at) (λ bs m. length bs ≡ n)
unfolding binders_at
several-binders limit ws n at = counted ws (binder_at limit) [] (λ b bs. b ∷ bs) length refl (λ b bs. refl) n at

pub binders-count : (limit : ℕ) (ws : List ℕ) (at n : ℕ) {bs : List Binder} {m : ℕ} → binders_at limit n ws at ≡ reads bs m → length bs ≡ n
binders-count limit ws at n e = post_reads (binders_at limit n ws at) (λ bs m. length bs ≡ n) (several-binders limit ws n at) e

module _ (limit : ℕ) (ws : List ℕ) (low : Low ws) where
  -- So many binders.
  an_exists : (n : ℕ) → Behind ws (51 ∷ n ∷ []) (binders_at limit n >>= λ bs. plan (k_exists bs) 1) plan_words
  unfolding kind_items words_of
  an_exists n =
      step_with (binders_at limit n) (λ bs. length bs ≡ n) (binders-behind limit low n) (several-binders limit ws n) λ bs e. done _ (rw e refl)

  -- Each kind.
  each_kind : Each ws [] plan_words (kinds limit) 32
  unfolding kinds kind_items words_of
  each_kind =
      step four_words a-four (λ v. done _ refl)
      & step (word_below 2) a-flag (λ b. done _ refl)
      & step (span_within limit) (a-span limit) (λ s. done _ refl)
      & step four_words a-four (λ v. step word a_word (λ width. done _ refl))
      & step two_words (a-two low) (λ k. done _ refl)
      & step (name_within limit) (a-name limit) (λ x. done _ refl)
      & step (word_below 2) a-flag (λ f. step word a_word (λ n. done _ refl))
      & done _ refl
      & step word a_word (chosen {xs = 40 ∷ []} (done _ refl & done _ refl & done _ refl & done _ refl & done _ refl & last))
      & done _ refl
      & step word a_word (λ n. done _ refl)
      & step word a_word (λ n. done _ refl)
      & done _ refl
      & done _ refl
      & done _ refl
      & step word a_word (chosen {xs = 47 ∷ []} (done _ refl & done _ refl & done _ refl & done _ refl & done _ refl & done _ refl & last))
      & step (name_within limit) (a-name limit) (λ x. done _ refl)
      & step (word_below 42) (a-below 42) (λ k. done _ refl)
      & step (name_within limit) (a-name limit) (λ x. done _ refl)
      & step word a_word an_exists
      & step two_words (a-two low) (λ k. done _ refl)
      & last

  -- A kind and its fields, anywhere.
  pub header_post : (at : ℕ) → Post (header limit ws at) (λ p n. Spelled ws at n (plan_words p))
  unfolding header
  header_post at =
      chain_post (word ws at) (choose 32 (kinds limit)) ws (λ k n. Spelled ws at n (k ∷ [])) (λ p n. Spelled ws at n (plan_words p)) (word_post ws at) λ k n s.
      (chosen {xs = []} each_kind k).reach at n s

-- A kind with so many operands.
pub operands-spelled : (limit : ℕ) (ws : List ℕ) → Low ws → (at : ℕ) {k : Kind} {n a : ℕ} → header limit ws at ≡ reads (operands_of k n) a → Spelled ws at a (words_of (kind_items k n))
operands-spelled limit ws low at e =
    post_reads (header limit ws at) (λ p n. Spelled ws at n (plan_words p)) (header_post limit ws low at) e

-- The first three words of an application.
pub arguments-spelled : (limit : ℕ) (ws : List ℕ) → Low ws → (at : ℕ) {f : Bool} {n a : ℕ} → header limit ws at ≡ reads (arguments_of f n) a → Spelled ws at a (38 ∷ bit f ∷ n ∷ [])
arguments-spelled limit ws low at e =
    post_reads (header limit ws at) (λ p n. Spelled ws at n (plan_words p)) (header_post limit ws low at) e
