-- What a call makes: its fresh numbers are good, and there are no more of them than the text has bytes.
use Prim.Native.Nat.{ℕ, ◌+◌, ◌≤◌}
use mathlib.Core.Path.{◌≡◌, refl, sym, ◌∙◌}
use mathlib.Core.Bool.{true, false, false≢true}
use mathlib.Core.List.{List, []}
use native.Mathlib.Omega.{arith}
use Rattle.reading.specs.Limits.{max_bytes}
use Rattle.reading.specs.Tree.{Tree, list, weight, weights}
use Rattle.reading.specs.Answer.{Ans, got, bad, and_then, Res, ok, chain, lifted}
use Rattle.reading.specs.Reading.{read_text, read_words}
use Rattle.reading.proofs.TextTree.{TextTree}
use Rattle.grammar.specs.Item.{bound}
use Rattle.grammar.specs.Sort.{sort_words}
use Rattle.grammar.specs.ParseSort.{in_list, in_symbol, tree_at, parse_sort}
use Rattle.grammar.specs.ParseExpr.{child, parse_expr}
use Rattle.grammar.specs.ParseBind.{parse_bind}
use Rattle.grammar.specs.ParseSolution.{parse_solution}
use Rattle.grammar.specs.Operations.{the_tree, make_sort, make_expr, make_bind, make_solution}
use Rattle.grammar.proofs.Items.{bound-plains}
use Rattle.grammar.proofs.Exact.{exactly_none}
use Rattle.grammar.proofs.AnswerHolds.{Post, Every, chain_post, lifted_post, any_post, both_post, map_post, map-every}
use Rattle.grammar.proofs.BindersOf.{TreeIn, tree-at}
use Rattle.grammar.proofs.TheTree.{the_tree_lem}
use Rattle.grammar.proofs.SortOf.{in_list_lem}
use Rattle.grammar.proofs.Walk.{child_of}
use Rattle.grammar.proofs.WalkPreds.{KeptPreds, preds_of}
use Rattle.grammar.proofs.SolutionOf.{SolutionOf, solution_of}
use Rattle.grammar.proofs.Size.{Sized, SizedAll, sized}
use Rattle.session.specs.Session.{Op, read_one, read_all, sort, expression, bind, solution, Term, a_read, a_sort, an_expr, a_bind, a_solution, term_items, make}
use Rattle.session.specs.Compared.{op_of, ScopedTerm, reads_or_sorts}
use Rattle.session.proofs.Terms.{GoodTerm, bind-good, solution-good, expr-good}

-- An answer that takes no number.
lifted-same : {A : Type 0} (x : Ans A) (n : ℕ) → Post (lifted x n) (λ _ m. n ≡ m)
lifted-same (got a) n = refl
lifted-same (bad r) n = tt

-- Predicates take no more numbers than their tree has bytes.
few-preds : KeptPreds Sized (λ t n ps m. m ≤ n + weight t) (λ ts n ps m. m ≤ n + weights ts)
unfolding weight
few-preds =
    record {
      on_expr = λ t n m e h. h.numbers;
      on_kvar = λ s ts n xs e. omega arith;
      on_and = λ t ts n m ps h. omega (arith, h);
      none = λ n. omega arith;
      more = λ t ts n m p ps qs h k. omega (arith, h, k);
    }

module _ (text : List ℕ) where
  few-bind : (t : Tree) (n : ℕ) → Post (parse_bind text t n) (λ _ m. m ≤ n + weight t)
  unfolding parse_bind weight
  few-bind t n =
      lifted_post (in_list t) n _ (λ ts. weights ts ≤ weight t) _ (lighter t) λ ts l.
      any_post (and_then (tree_at ts 0) in_list) n _ _ λ pair.
      any_post (and_then (tree_at pair 0) in_symbol) n _ _ λ s.
      any_post (and_then (tree_at pair 1) (parse_sort text)) n _ _ λ o.
      lifted_post (tree_at ts 1) n _ (TreeIn ts) _ (tree-at ts 1) λ p i.
      chain_post ((child text p).preds n) _ (λ _ m. m ≤ n + weight p) _ (preds_of text Sized SizedAll (sized text) _ _ few-preds p n) λ ps m h.
      omega (arith, h, i.weighs, l)
    where
      lighter : (u : Tree) → Every (in_list u) (λ ts. weights ts ≤ weight u)
      lighter u = map-every (in_list u) (λ ts. u ≡ list ts) _ (λ ts e. rw e (omega arith)) (in_list_lem u)

  few-solution : (t : Tree) (n : ℕ) → Post (parse_solution text t n) (λ _ m. m ≤ n + weight t)
  few-solution t n =
      map_post (parse_solution text t n) (SolutionOf text Sized t n) _ (λ s m h. omega (arith, h.weighs, h.binders.few, h.body.numbers)) (solution_of text Sized SizedAll (sized text) t n)

  few-expr : (t : Tree) (n : ℕ) → Post (parse_expr text t n) (λ _ m. m ≤ n + weight t)
  unfolding parse_expr
  few-expr t n = map_post (parse_expr text t n) (Sized t [] n) _ (λ e m h. h.numbers) ((child_of text Sized SizedAll (sized text) t).plainly [] n)

-- What every operation makes: a term of its own, good numbers, few of them, and none where it reads or makes a sort.
pub record Fine (op : Op) (n : ℕ) (t : Term) (m : ℕ) : Type 0 where
  pub kind : op_of t ≡ op
  pub exact : GoodTerm n t m
  pub few : m ≤ n + max_bytes
  pub none : reads_or_sorts op ≡ true → n ≡ m

-- From a tree to a term of its own.
from_tree : {A : Type 0} (op : Op) (text tree : List ℕ) (n : ℕ) (p : Tree → ℕ → Res A) (term : A → Term) → ((a : A) → op_of (term a) ≡ op) → reads_or_sorts op ≡ false
    → ((t : Tree) → Post (p t n) (λ a m. GoodTerm n (term a) m)) → ((t : Tree) → Post (p t n) (λ a m. m ≤ n + weight t))
    → Post (chain (chain (lifted (the_tree text tree) n) (λ t. p t)) (λ a. λ m. ok (term a) m)) (Fine op n)
from_tree op text tree n p term own notRead g f =
    chain_post (chain (lifted (the_tree text tree) n) (λ t. p t)) _ (λ a m. GoodTerm n (term a) m × (m ≤ n + max_bytes)) _
    (lifted_post (the_tree text tree) n _ (TextTree text) _ (the_tree_lem text tree) λ t i.
    map_post (p t n) (λ a m. GoodTerm n (term a) m × (m ≤ n + weight t)) _ (λ a m h. (h.0, omega (arith, h.1, i.weighs, i.short))) (both_post (p t n) (λ a m. GoodTerm n (term a) m) (λ a m. m ≤ n + weight t) (g t) (f t)))
    λ a m h. record { kind = own a; exact = h.0; few = h.1; none = λ e. absurd (false≢true (sym notRead ∙ e)) }

plain-fine : (n : ℕ) (t : Term) → bound (term_items t) ≡ [] → ((c : ℕ) → ScopedTerm c t) → Fine (op_of t) n t n
plain-fine n t b s = record { kind = refl; exact = (rw b (exactly_none n), s); few = omega arith; none = λ _. refl }

pub make-fine : (op : Op) (text tree : List ℕ) (n : ℕ) → Post (make op text tree n) (Fine op n)
unfolding make make_sort make_expr make_bind make_solution term_items
make-fine read_one text tree n = any_post (read_text false text) n _ _ λ r. plain-fine n (a_read false r) (bound-plains (read_words r)) (λ c. tt)
make-fine read_all text tree n = any_post (read_text true text) n _ _ λ r. plain-fine n (a_read true r) (bound-plains (read_words r)) (λ c. tt)
make-fine sort text tree n =
    chain_post (chain (lifted (the_tree text tree) n) (λ t. lifted (parse_sort text t))) _ (λ _ m. n ≡ m) _ (any_post (the_tree text tree) n _ _ λ t. lifted-same (parse_sort text t) n) λ s m e.
    rw (← e) (plain-fine n (a_sort s) (bound-plains (sort_words s)) (λ c. tt))
make-fine expression text tree n = from_tree expression text tree n (parse_expr text) an_expr (λ _. refl) refl (λ t. expr-good text t n) (λ t. few-expr text t n)
make-fine bind text tree n = from_tree bind text tree n (parse_bind text) a_bind (λ _. refl) refl (λ t. bind-good text t n) (λ t. few-bind text t n)
make-fine solution text tree n = from_tree solution text tree n (parse_solution text) a_solution (λ _. refl) refl (λ t. solution-good text t n) (λ t. few-solution text t n)
