-- The outcome of each call, by what the definition of its operation decides.
use Prim.Native.Nat.{ℕ, ◌+◌, ◌≤◌}
use mathlib.Core.Path.{◌≡◌, refl, ap, subst, ◌∙◌}
use mathlib.Core.Bool.{Bool, true, false}
use mathlib.Core.List.{List}
use native.Mathlib.Omega.{arith}
use lib.Dec.{ltb}
use lib.ListN.{length}
use borrow.Author.Tests.{le-ltb}
use Rattle.reading.specs.Limits.{max_number}
use Rattle.reading.specs.Pick.{pick}
use Rattle.reading.specs.Answer.{number, no_room, numbers_spent, Ans, got, bad, Res, ok, no, chain, lifted, Final, accepts, refuses, finish, fits_in, Said, accepted, zeros, said_of, count_of, output_of}
use Rattle.reading.specs.Reading.{read_text, read_words, read_report, read_final}
use Rattle.grammar.specs.Sort.{sort_words}
use Rattle.grammar.specs.Item.{Item, plains, words_of}
use Rattle.grammar.specs.Expr.{expr_items, bind_items}
use Rattle.grammar.specs.ParseSort.{parse_sort}
use Rattle.grammar.specs.Operations.{the_tree, make_sort, make_expr, make_bind, make_solution, sort_final, expr_final, bind_final}
use Rattle.grammar.proofs.Items.{words-plains}
use Rattle.grammar.proofs.Raise.{raise-plains}
use Rattle.grammar.proofs.AnswerHolds.{Post, any_post}
use Rattle.grammar.specs.Item.{raised_words}
use Rattle.flattening.specs.Operations.{flat_items, solution_fits, solution_final}
use Rattle.session.specs.Session.{Call, Term, a_read, a_sort, an_expr, a_bind, a_solution, term_items, draft_items, term_words, report, make, made, room_for, final, outcome}
use Rattle.replies.specs.Calls.{one_call, all_call, sort_call, expr_call, bind_call, solution_call}

-- What is known of a call at the count c, whose operation decides f.
pub record Known {A : Type 0} (call : Call) (c : ℕ) (words : A → List ℕ) (numbers : A → Said) (f : Final A) : Type 0 where
  pub said : (outcome call c).said ≡ said_of numbers f
  pub count : (outcome call c).count ≡ count_of c f
  pub tree : zeros call.tree ≡ (outcome call c).tree
  pub draft : zeros call.draft ≡ (outcome call c).draft
  pub out : output_of words f call.out ≡ (outcome call c).out

-- A term in place of the value.
termed : {A : Type 0} → (A → Term) → Final A → Final Term
termed term (accepts a n) = accepts (term a) n
termed term (refuses r) = refuses r

module _ {A : Type 0} (term : A → Term) (call : Call) (c : ℕ) (fits : A → Bool) (words : A → List ℕ) (numbers : A → Said) where
  finish-term : ((a : A) → room_for call (term a) ≡ fits a) → (x : Res A) → finish (room_for call) c (chain x (λ a n. ok (term a) n)) ≡ termed term (finish fits c x)
  unfolding finish termed pick
  finish-term room (no r) = refl
  finish-term room (ok a n) = rw (room a) (go (ltb max_number (c + n)) (fits a))
    where
      go : (s b : Bool) → pick s (refuses numbers_spent) (pick b (accepts (term a) n) (refuses (number no_room))) ≡ termed term (pick s (refuses numbers_spent) (pick b (accepts a n) (refuses (number no_room))))
      go true b = refl
      go false true = refl
      go false false = refl

  said-term : ((a : A) → report (term a) ≡ numbers a) → (f : Final A) → said_of report (termed term f) ≡ said_of numbers f
  unfolding said_of termed
  said-term same (accepts a n) = same a
  said-term same (refuses r) = refl

  count-term : (f : Final A) → count_of c (termed term f) ≡ count_of c f
  unfolding count_of termed
  count-term (accepts a n) = refl
  count-term (refuses r) = refl

  out-term : ((a : A) → words a ≡ term_words c (term a)) → (f : Final A) (out : List ℕ) → output_of words f out ≡ output_of (term_words c) (termed term f) out
  unfolding output_of termed
  out-term same (accepts a n) out = rw (same a) refl
  out-term same (refuses r) out = refl

  -- A call whose term is made of a value, with the same room, words and numbers.
  pub known : ((a : A) → room_for call (term a) ≡ fits a) → ((a : A) → words a ≡ term_words c (term a)) → ((a : A) → report (term a) ≡ numbers a) → (x : Res A) → made call ≡ chain x (λ a n. ok (term a) n)
      → Known call c words numbers (finish fits c x)
  unfolding outcome final
  known room same say x e =
      let d : final call c ≡ termed term (finish fits c x) = ap (finish (room_for call) c) e ∙ finish-term room x in
      record {
        said = ap (said_of report) d ∙ said-term say (finish fits c x);
        count = ap (count_of c) d ∙ count-term (finish fits c x);
        tree = refl;
        draft = refl;
        out = rw d (out-term same (finish fits c x) call.out);
      }

-- What takes no number is decided alike at every count, and leaves the count.
abbrev None : {A : Type 0} → Res A → Type 0
None x = Post x (λ _ n. 0 ≡ n)

lifted-none : {A : Type 0} (x : Ans A) → None (lifted x 0)
lifted-none (got a) = refl
lifted-none (bad r) = tt

module _ {A : Type 0} (fits : A → Bool) (c : ℕ) (small : c ≤ max_number) where
  finish-none : (x : Res A) → None x → finish fits c x ≡ finish fits 0 x
  unfolding finish
  finish-none (no r) e = refl
  finish-none (ok a n) e = rw (le-ltb max_number (c + n) (omega arith), le-ltb max_number (0 + n) (omega arith)) refl

  pub count_none : (x : Res A) → None x → count_of c (finish fits 0 x) ≡ c
  unfolding finish count_of pick
  count_none (no r) e = refl
  count_none (ok a n) e = go (ltb max_number (0 + n)) (fits a)
    where
      go : (s b : Bool) → count_of c (pick s (refuses numbers_spent) (pick b (accepts a n) (refuses (number no_room)))) ≡ c
      go true b = refl
      go false true = omega arith
      go false false = refl

-- A call whose term is made of words that hold no number.
plain_known : {A : Type 0} (term : A → Term) (call : Call) (c : ℕ) → c ≤ max_number → (words : A → List ℕ) (numbers : A → Said)
    → ((a : A) → room_for call (term a) ≡ fits_in call.out (words_of (term_items (term a)))) → ((a : A) → term_items (term a) ≡ plains (words a)) → ((a : A) → report (term a) ≡ numbers a)
    → (x : Res A) → None x → made call ≡ chain x (λ a n. ok (term a) n) → Known call c words numbers (finish (λ a. fits_in call.out (words a)) 0 x)
plain_known {A = A} term call c small words numbers room items say x none e =
    subst (Known call c words numbers) (finish-none (λ (a : A). fits_in call.out (words a)) c small x none)
    (known term call c (λ a. fits_in call.out (words a)) words numbers (λ a. room a ∙ ap (fits_in call.out) (ap words_of (items a) ∙ words-plains (words a))) (λ a. rw (items a, raise-plains c (words a), words-plains (words a)) refl) say x e)

-- Read one, read all and sort.
module _ (text out : List ℕ) (c : ℕ) (small : c ≤ max_number) where
  pub one_known : Known (one_call text out) c read_words (read_report false) (read_final false text out)
  unfolding read_final room_for term_items draft_items report make pick words_of
  one_known =
      plain_known (a_read false) (one_call text out) c small read_words (read_report false) (λ r. refl) (λ r. refl) (λ r. refl) (lifted (read_text false text) 0) (lifted-none (read_text false text)) refl

  pub all_known : Known (all_call text out) c read_words (read_report true) (read_final true text out)
  unfolding read_final room_for term_items draft_items report make pick words_of
  all_known =
      plain_known (a_read true) (all_call text out) c small read_words (read_report true) (λ r. refl) (λ r. refl) (λ r. refl) (lifted (read_text true text) 0) (lifted-none (read_text true text)) refl

  pub count-read : (all : Bool) → count_of c (read_final all text out) ≡ c
  unfolding read_final
  count-read all = count_none (λ r. fits_in out (read_words r)) c small (lifted (read_text all text) 0) (lifted-none (read_text all text))

  sort-none : (tree : List ℕ) → None (make_sort text tree 0)
  unfolding make_sort
  sort-none tree = any_post (the_tree text tree) 0 _ _ λ t. lifted-none (parse_sort text t)

  pub sort-known : (tree : List ℕ) → Known (sort_call text tree out) c sort_words (λ s. accepted (length (sort_words s)) 0) (sort_final text tree out)
  unfolding sort_final room_for term_items draft_items report make pick words_of
  sort-known tree = plain_known a_sort (sort_call text tree out) c small sort_words _ (λ s. refl) (λ s. refl) (λ s. refl) (make_sort text tree 0) (sort-none tree) refl

  pub count-sort : (tree : List ℕ) → count_of c (sort_final text tree out) ≡ c
  unfolding sort_final
  count-sort tree = count_none (λ s. fits_in out (sort_words s)) c small (make_sort text tree 0) (sort-none tree)

-- What is known of a call that takes numbers.
abbrev pub KnownItems : {A : Type 0} → Call → ℕ → (A → List Item) → Final A → Type 0
KnownItems call c items f = Known call c (raised_words items c) (λ a. accepted (length (words_of (items a))) 0) f

-- Expression, bind and solution.
module _ (text tree out : List ℕ) (c : ℕ) where
  pub expr-known : KnownItems (expr_call text tree out) c expr_items (expr_final text tree out c)
  unfolding expr_final room_for term_items draft_items report make pick words_of
  expr-known = known an_expr (expr_call text tree out) c (λ e. fits_in out (words_of (expr_items e))) (raised_words expr_items c) _ (λ e. refl) (λ e. refl) (λ e. refl) (make_expr text tree 0) refl

  pub bind-known : KnownItems (bind_call text tree out) c bind_items (bind_final text tree out c)
  unfolding bind_final room_for term_items draft_items report make pick words_of
  bind-known = known a_bind (bind_call text tree out) c (λ b. fits_in out (words_of (bind_items b))) (raised_words bind_items c) _ (λ b. refl) (λ b. refl) (λ b. refl) (make_bind text tree 0) refl

  pub solution-known : (draft : List ℕ) → KnownItems (solution_call text tree draft out) c flat_items (solution_final text tree draft out c)
  unfolding solution_final solution_fits room_for term_items draft_items report make
  solution-known draft =
      known a_solution (solution_call text tree draft out) c (solution_fits draft out) (raised_words flat_items c) _ (λ s. refl) (λ s. refl) (λ s. refl) (make_solution text tree 0) refl
