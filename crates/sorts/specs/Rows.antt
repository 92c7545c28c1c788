-- List sorts as the code reads them: words in front of a row of sorts, and what is judged behind it.
use Rattle.std.specs.Prelude.{ℕ, zero, suc, Bool, true, false, List, [], ◌∷◌, ◌++◌, Result, Ok, Err}
use Rattle.reading.specs.Tree.{Trees, tnil, tcons, trees}
use Rattle.reading.specs.Answer.{Ans, got, bad, and_then, malformed}
use Rattle.grammar.specs.Sort.{Sorts, snil, scons, ctor_words, sort_words}
use Rattle.grammar.specs.Names.{SortForm, func, function, bit_vec, applied}
use Rattle.grammar.specs.ParseSort.{in_symbol, size_of, sort_form}
use Rattle.words.specs.declared.refusal.Refusal.{Refusal}
use Rattle.words.specs.declared.refusal.Refusal.TheVariants.{Malformed}

-- What stands before the first of some sorts, the first m of which are inputs of functions.
abbrev pub mark : ℕ → List ℕ
mark zero = []
mark (suc m) = 8 ∷ []

-- The words of sorts, the first m of which are inputs of functions.
unfoldable pub row_words : ℕ → Sorts → List ℕ
row_words m snil = []
row_words zero (scons s ss) = sort_words s ++ row_words zero ss
row_words (suc m) (scons s ss) = 8 ∷ sort_words s ++ row_words m ss

-- What stands before the n sorts of a list sort.
abbrev pub row_head : SortForm → ℕ → List ℕ
row_head func n = []
row_head function n = 8 ∷ []
row_head bit_vec n = 5 ∷ []
row_head (applied c) n = 10 ∷ ctor_words c ++ (n ∷ [])

-- The words of n Abs, the first with index i.
unfoldable pub abs_words : ℕ → ℕ → List ℕ
abs_words i zero = []
abs_words i (suc n) = 9 ∷ i ∷ abs_words (suc i) n

-- There is an answer.
abbrev pub is_got : {A : Type 0} → Ans A → Bool
is_got (got a) = true
is_got (bad r) = false

-- The answer by a judgement of the sorts that were read.
abbrev pub ended : Bool → ℕ → Result ℕ Refusal
ended true n = Ok n
ended false n = Err Malformed

module _ (text : List ℕ) where
  -- How a list is read, by its first item.
  unfoldable pub list_form : Trees → Ans SortForm
  list_form tnil = bad malformed
  list_form (tcons t ts) = and_then (in_symbol t) λ s. got (sort_form text s (trees ts))

  -- The first tree is a size.
  unfoldable pub is_size : Trees → Bool
  is_size tnil = false
  is_size (tcons t ts) = is_got (size_of text t)

  -- The trees are right for the form: that of a bit vector is a size.
  unfoldable pub judged : SortForm → Trees → Bool
  judged func ts = true
  judged function ts = true
  judged bit_vec ts = is_size ts
  judged (applied c) ts = true
