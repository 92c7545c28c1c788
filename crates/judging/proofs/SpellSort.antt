-- Sorts and binders that are read are spelled by the words that were read.
use Prim.Native.Nat.{ℕ, zero, suc, ◌+◌}
use mathlib.Core.Bool.{Bool, true, false}
use mathlib.Core.Path.{◌≡◌, refl, ap}
use mathlib.Core.List.{List, [], ◌∷◌, ◌++◌, append_assoc}
use lib.Dec.{leb}
use lib.ListN.{length}
use Rattle.reading.specs.Pick.{pick}
use Rattle.reading.specs.Answer.{not_words}
use Rattle.reading.specs.Tree.{span_words}
use Rattle.grammar.specs.Sort.{Ctor, c_set, c_map, c_data, Sort, s_int, s_bool, s_real, s_str, s_bit_vec, s_size, s_var, s_func, s_abs, s_app, snil, scons, sorts, two, ctor_words, sort_words, sorts_words}
use Rattle.grammar.specs.Item.{words_of}
use Rattle.grammar.specs.Expr.{binder_items}
use Rattle.grammar.proofs.Items.{words-front}
use Rattle.judging.specs.Judge.{FromWords, ◌>>=◌, ret, fail, word, choose, two_words, several, span_within, name_within, ctors, sort_kinds, sort_deep, sort_at, binder_at, binders_at}
use Rattle.judging.proofs.Spell.{Low, Behind, Each, last, ◌&◌, done, refused, behind, step, step_with, a_word, a-two, chosen, in_turn_lem, counted}

module _ (limit : ℕ) {ws : List ℕ} where
  -- A span.
  pub a-span : Behind ws [] (span_within limit) span_words
  unfolding span_within pick
  a-span = step word a_word λ a. step word a_word λ b. go a b (leb (a + b) limit)
    where
      go : (a b : ℕ) (t : Bool) → Behind ws (a ∷ b ∷ []) (pick t (ret (record { start = a; len = b })) (fail not_words)) span_words
      go a b true = done _ refl
      go a b false = refused not_words

  -- A name.
  pub a-name : Behind ws [] (name_within limit) (λ x. span_words x.span)
  unfolding name_within
  a-name = step (span_within limit) a-span λ s. done _ refl

  -- The constructor of an application.
  a-ctor : (k : ℕ) → Behind ws (10 ∷ k ∷ []) (choose 0 (ctors limit) k) (λ c. 10 ∷ ctor_words c)
  unfolding ctors
  a-ctor = chosen {xs = 10 ∷ []} (done c_set refl & done c_map refl & step (span_within limit) a-span (λ s. done (c_data s) refl) & last)

  module _ (low : Low ws) where
    -- So many sorts behind an application's constructor, if each is spelled.
    an_app : (d : FromWords Sort) → Behind ws [] d sort_words → (c : Ctor) (n : ℕ) → Behind ws ((10 ∷ ctor_words c) ++ (n ∷ [])) (several d snil scons n >>= λ ss. ret (s_app c ss)) sort_words
    unfolding sort_words sorts
    an_app d D c n =
        step_with (several d snil scons n) (λ ss. sorts ss ≡ n) (in_turn_lem d snil scons sorts_words D refl (λ s ss. refl) n) (counted ws d snil scons sorts refl (λ s ss. refl) n) λ ss e.
        done (s_app c ss) (rw (e, append_assoc (ctor_words c) (n ∷ []) (sorts_words ss)) refl)

    -- Each kind of sort, if the sorts inside are spelled.
    each_sort_lem : (d : FromWords Sort) → Behind ws [] d sort_words → Each ws [] sort_words (sort_kinds limit d) 1
    unfolding sort_kinds sort_words
    each_sort_lem d D =
        done s_int refl
        & done s_bool refl
        & done s_real refl
        & done s_str refl
        & step d D (λ s. done (s_bit_vec s) refl)
        & step word a_word (λ width. done (s_size width) refl)
        & step two_words (a-two low) (λ i. done (s_var i) refl)
        & step d D (λ s. step d D (λ t. done (s_func s t) refl))
        & step word a_word (λ i. step d D (λ s. done (s_abs i s) refl))
        & step word a_word (λ k. behind (choose 0 (ctors limit) k) (a-ctor k) (λ c. step word a_word (λ n. an_app d D c n)))
        & last

    -- A sort, with room for so much nesting.
    sort-deep : (deep : ℕ) → Behind ws [] (sort_deep limit deep) sort_words
    unfolding sort_deep
    sort-deep zero = refused not_words
    sort-deep (suc deep) = step word a_word λ k. chosen {xs = []} (each_sort_lem (sort_deep limit deep) (sort-deep deep)) k

    -- A sort.
    pub a-sort : Behind ws [] (sort_at limit) sort_words
    unfolding sort_at
    a-sort = record { reach = (sort-deep (length ws)).reach }

    -- A binder.
    a-binder : Behind ws [] (binder_at limit) (λ b. two b.var ++ sort_words b.sort)
    unfolding binder_at
    a-binder = step two_words (a-two low) λ k. step (sort_at limit) a-sort λ s. done _ refl

    -- So many binders.
    pub binders-behind : (n : ℕ) → Behind ws [] (binders_at limit n) (λ bs. words_of (binder_items bs))
    unfolding binders_at binder_items words_of
    binders-behind n =
        in_turn_lem (binder_at limit) [] (λ b bs. b ∷ bs) (λ bs. words_of (binder_items bs)) a-binder refl
        (λ b bs. ap (λ l. two b.var ++ l) (words-front (sort_words b.sort) (binder_items bs))) n
