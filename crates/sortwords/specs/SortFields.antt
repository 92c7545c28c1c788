-- The kind and the fields of a sort, and how many sorts follow these inside it, as the code reads them.
use Rattle.std.specs.Prelude.{ℕ, List, [], ◌∷◌}
use Rattle.grammar.specs.Sort.{Ctor}
use Rattle.judging.specs.Judge.{Judged, reads, fails, FromWords, ◌>>=◌, ret, word, two_words, choose, ctors}
use Rattle.words.specs.Answered.{Answered, told, refused}
use Rattle.sortwords.specs.declared.Inside.{Inside}

-- A word of any value, then so many sorts.
unfoldable pub one_field : ℕ → FromWords ℕ
one_field n = do
  i ← word
  ret n

module _ (limit : ℕ) where
  -- A constructor: Set, Map, or Data and its name.
  unfoldable pub ctor_at : FromWords Ctor
  ctor_at = do
    k ← word
    choose 0 (ctors limit) k

  -- A constructor and the number of its sorts.
  unfoldable pub app_fields : FromWords ℕ
  app_fields = do
    c ← ctor_at
    n ← word
    ret n

  -- The fields from kind 1 on.
  unfoldable pub sort_fields : List (FromWords ℕ)
  sort_fields =
      ret 0
      ∷ ret 0
      ∷ ret 0
      ∷ ret 0
      ∷ ret 1
      ∷ one_field 0
      ∷ (do
        i ← two_words
        ret 0)
      ∷ ret 2
      ∷ one_field 1
      ∷ app_fields
      ∷ []

  unfoldable pub sort_head : FromWords ℕ
  sort_head = do
    k ← word
    choose 1 sort_fields k

-- The place behind the fields and how many sorts follow, or the refusal.
abbrev pub inside_of : Judged ℕ → Answered Inside
inside_of (reads n at) = told (record { next = at; sorts = n })
inside_of (fails r) = refused r
