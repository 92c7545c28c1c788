-- Words are judged with no other refusals than 6 and 14.
use Prim.Native.Nat.{ℕ, zero, suc, ◌+◌, ◌-◌}
use mathlib.Core.Bool.{Bool, true, false}
use mathlib.Core.List.{List, [], ◌∷◌}
use lib.Dec.{eqb, ltb, leb}
use lib.ListN.{length, get_or}
use Rattle.reading.specs.Limits.{max_nodes}
use Rattle.reading.specs.Pick.{pick}
use Rattle.reading.specs.Answer.{not_words, number, too_deep}
use Rattle.grammar.specs.Sort.{Sort}
use Rattle.grammar.specs.Expr.{Expr, enil, econs}
use Rattle.judging.specs.Judge.{Judged, reads, fails, FromWords, go_on, ◌>>=◌, ret, fail, word, word_below, among, or_fail, choose, two_words, four_words, several, Plan, operands_of, arguments_of, span_within, name_within, ctors, sort_kinds, sort_deep, sort_at, binder_at, binders_at, kinds, header, sort_if, planned, expr_deep, at_end, expr_at, judge_expr, judge_solution}

-- What holds of a refusal.
abbrev pub Fails : {A : Type 0} → (ℕ → Type 0) → Judged A → Type 0
Fails Q (reads a at) = Unit {0}
Fails Q (fails r) = Q r

module _ (Q : ℕ → Type 0) (six : Q (number too_deep)) (fourteen : Q not_words) where
  -- A reader has no other refusals.
  record Only {A : Type 0} (p : FromWords A) : Type 0 where
    only : (ws : List ℕ) (at : ℕ) → Fails Q (p ws at)

  reads_on : {A : Type 0} (a : A) → Only (ret a)
  reads_on a = record { only = λ ws at. tt }

  refuses : {A : Type 0} → Only {A = A} (fail not_words)
  refuses = record { only = λ ws at. fourteen }

  either : {A : Type 0} (t : Bool) {p q : FromWords A} → Only p → Only q → Only (pick t p q)
  unfolding pick
  either true P R = P
  either false P R = R

  then : {A B : Type 0} (p : FromWords A) {f : A → FromWords B} → Only p → ((a : A) → Only (f a)) → Only (p >>= f)
  then {A} p {f} P F = record { only = λ ws at. go ws (p ws at) (P.only ws at) }
    where
      go : (ws : List ℕ) (x : Judged A) → Fails Q x → Fails Q (go_on x f ws)
      go ws (reads a m) h = (F a).only ws m
      go ws (fails r) h = h

  a_word : Only word
  unfolding word pick
  a_word = record { only = λ ws at. go ws at (ltb at (length ws)) }
    where
      go : (ws : List ℕ) (at : ℕ) (t : Bool) → Fails Q (pick t (reads (get_or ws at 0) (at + 1)) (fails not_words))
      go ws at true = tt
      go ws at false = fourteen

  -- Each reader of a list is such.
  infixr 5 ◌&◌
  data Each {A : Type 0} : List (FromWords A) → Type 0 where
    last : Each []
    ◌&◌ : {q : FromWords A} {qs : List (FromWords A)} → Only q → Each qs → Each (q ∷ qs)

  each_among : {A : Type 0} {qs : List (FromWords A)} → Each qs → (i : ℕ) → Only (or_fail (among qs i))
  each_among last i = refuses
  each_among (q & qs) zero = q
  each_among (q & qs) (suc i) = each_among qs i

  chosen : {A : Type 0} (first : ℕ) {qs : List (FromWords A)} → Each qs → (k : ℕ) → Only (choose first qs k)
  unfolding choose
  chosen first qs k = either (ltb k first) refuses (each_among qs (k - first))

  a-below : (m : ℕ) → Only (word_below m)
  unfolding word_below
  a-below m = then word a_word λ k. either (ltb k m) (reads_on k) refuses

  a-two : Only two_words
  unfolding two_words
  a-two = then word a_word λ a. then word a_word λ b. reads_on _

  a-four : Only four_words
  unfolding four_words
  a-four = then word a_word λ a. then word a_word λ b. then word a_word λ c. then word a_word λ d. reads_on _

  some : {A B : Type 0} (p : FromWords A) (none : B) (put : A → B → B) → Only p → (n : ℕ) → Only (several p none put n)
  unfolding several
  some p none put P zero = reads_on none
  some p none put P (suc n) = then p P λ a. then (several p none put n) (some p none put P n) λ b. reads_on _

  module _ (limit : ℕ) where
    a-span : Only (span_within limit)
    unfolding span_within
    a-span = then word a_word λ a. then word a_word λ b. either (leb (a + b) limit) (reads_on _) refuses

    a-name : Only (name_within limit)
    unfolding name_within
    a-name = then (span_within limit) a-span λ s. reads_on _

    -- Sorts, if those inside are such.
    each_ctor : Each (ctors limit)
    unfolding ctors
    each_ctor = reads_on _ & reads_on _ & then (span_within limit) a-span (λ s. reads_on _) & last

    each_sort_lem : (d : FromWords Sort) → Only d → Each (sort_kinds limit d)
    unfolding sort_kinds
    each_sort_lem d D =
        reads_on _
        & reads_on _
        & reads_on _
        & reads_on _
        & then d D (λ s. reads_on _)
        & then word a_word (λ width. reads_on _)
        & then two_words a-two (λ i. reads_on _)
        & then d D (λ s. then d D λ t. reads_on _)
        & then word a_word (λ i. then d D λ s. reads_on _)
        & then word a_word (λ k. then _ (chosen 0 each_ctor k) λ c. then word a_word λ n. then _ (some d _ _ D n) λ ss. reads_on _)
        & last

    a-sort-deep : (deep : ℕ) → Only (sort_deep limit deep)
    unfolding sort_deep
    a-sort-deep zero = refuses
    a-sort-deep (suc deep) = then word a_word λ k. chosen 1 (each_sort_lem (sort_deep limit deep) (a-sort-deep deep)) k

    a-sort : Only (sort_at limit)
    unfolding sort_at
    a-sort = record { only = λ ws at. (a-sort-deep (length ws)).only ws at }

    a-binder : Only (binder_at limit)
    unfolding binder_at
    a-binder = then two_words a-two λ k. then (sort_at limit) a-sort λ s. reads_on _

    some-binders : (n : ℕ) → Only (binders_at limit n)
    unfolding binders_at
    some-binders n = some (binder_at limit) _ _ a-binder n

    -- What the kinds and fields of expressions say.
    each_kind : Each (kinds limit)
    unfolding kinds
    each_kind =
        then four_words a-four (λ v. reads_on _)
        & then (word_below 2) (a-below 2) (λ b. reads_on _)
        & then (span_within limit) a-span (λ s. reads_on _)
        & then four_words a-four (λ v. then word a_word λ width. reads_on _)
        & then two_words a-two (λ k. reads_on _)
        & then (name_within limit) a-name (λ x. reads_on _)
        & then (word_below 2) (a-below 2) (λ f. then word a_word λ n. reads_on _)
        & reads_on _
        & then word a_word (chosen 0 (reads_on _ & reads_on _ & reads_on _ & reads_on _ & reads_on _ & last))
        & reads_on _
        & then word a_word (λ n. reads_on _)
        & then word a_word (λ n. reads_on _)
        & reads_on _
        & reads_on _
        & reads_on _
        & then word a_word (chosen 0 (reads_on _ & reads_on _ & reads_on _ & reads_on _ & reads_on _ & reads_on _ & last))
        & then (name_within limit) a-name (λ x. reads_on _)
        & then (word_below 42) (a-below 42) (λ k. reads_on _)
        & then (name_within limit) a-name (λ x. reads_on _)
        & then word a_word (λ n. then (binders_at limit n) (some-binders n) λ bs. reads_on _)
        & then two_words a-two (λ k. reads_on _)
        & last

    a-header : Only (header limit)
    unfolding header
    a-header = then word a_word (chosen 32 each_kind)

    an_out : (f : Bool) → Only (sort_if limit f)
    unfolding sort_if
    an_out false = reads_on _
    an_out true = then (sort_at limit) a-sort λ s. reads_on _

    what-follows : (d : FromWords Expr) → Only d → (p : Plan) → Only (planned limit d p)
    unfolding planned
    what-follows d D (operands_of k n) = then (several d enil econs n) (some d enil econs D n) λ es. reads_on _
    what-follows d D (arguments_of f n) =
        then (several d enil econs n) (some d enil econs D n) λ es. then (sort_if limit f) (an_out f) λ o. then d D λ h. reads_on _

    six_or : (t u : Bool) → Q (pick t not_words (pick u (number too_deep) not_words))
    unfolding pick
    six_or true u = fourteen
    six_or false true = six
    six_or false false = fourteen

    an_expr_lem : (room : ℕ) → Only (expr_deep limit room)
    unfolding expr_deep
    an_expr_lem zero = then word a_word λ k. record { only = λ ws at. six_or (ltb k 32) (ltb k (32 + length (kinds limit))) }
    an_expr_lem (suc room) = then (header limit) a-header λ p. what-follows (expr_deep limit room) (an_expr_lem room) p

    at-end : {A : Type 0} (a : A) → Only (at_end limit a)
    unfolding at_end pick
    at-end a = record { only = λ ws at. go at (eqb at (length ws)) }
      where
        go : (at : ℕ) (t : Bool) → Fails Q (pick t (reads a at) (fails not_words))
        go at true = tt
        go at false = fourteen

    pub judge_fails : (ws : List ℕ) → Fails Q (judge_expr limit ws)
    unfolding judge_expr expr_at
    judge_fails ws = (then (expr_deep limit max_nodes) (an_expr_lem max_nodes) at-end).only ws 0

    pub solution-fails : (ws : List ℕ) → Fails Q (judge_solution limit ws)
    unfolding judge_solution expr_at
    solution-fails ws =
        (then word a_word (λ n. then (binders_at limit n) (some-binders n) λ bs. then (expr_deep limit max_nodes) (an_expr_lem max_nodes) λ e. at-end _)).only ws 0
