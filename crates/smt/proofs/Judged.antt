-- Every expression of a solution that is judged has the operands that its kind takes.
use Prim.Native.Nat.{ℕ, zero, suc, ◌-◌}
use mathlib.Core.Path.{◌≡◌, refl, ap}
use mathlib.Core.Bool.{Bool, true, false}
use mathlib.Core.List.{List, [], ◌∷◌}
use lib.Dec.{ltb, eqb}
use lib.ListN.{length}
use Rattle.reading.specs.Pick.{pick}
use Rattle.reading.specs.Limits.{max_nodes}
use Rattle.grammar.specs.Expr.{op_add, op_sub, op_mul, op_div, op_mod, rel_eq, rel_ne, rel_gt, rel_ge, rel_lt, rel_le, Kind, k_num, k_bool, k_str, k_bit_vec, k_fresh, k_named, k_neg, k_bin, k_if, k_and, k_or, k_not, k_imp, k_iff, k_atom, k_let, k_theory, k_is_ctor, k_exists, k_let_fresh, Expr, Exprs, node, app, enil, econs, exprs, Solution}
use Rattle.grammar.specs.Shape.{HasOperands}
use Rattle.judging.specs.Judge.{reads, fails, FromWords, ◌>>=◌, fail, word, word_below, among, or_fail, choose, two_words, four_words, several, Plan, operands_of, arguments_of, plan, span_within, name_within, binders_at, kinds, header, sort_if, planned, expr_deep, at_end, expr_at, judge_solution}
use Rattle.judging.proofs.Spell.{Post, chain_post, post_any, post_reads}
use Rattle.reading.specs.Answer.{not_words}

-- Each node has the operands that its kind takes.
abbrev mutual
  pub Formed : Expr → Type 0
  Formed (node k es) = HasOperands k (exprs es) × FormedAll es
  Formed (app o es h) = FormedAll es × Formed h

  pub FormedAll : Exprs → Type 0
  FormedAll enil = Unit {0}
  FormedAll (econs e es) = Formed e × FormedAll es

-- A header says so many operands.
abbrev pub Fits : Plan → ℕ → Type 0
Fits (operands_of k n) at = HasOperands k n
Fits (arguments_of f n) at = Unit {0}

-- A reader of headers that does.
abbrev pub Fitting : FromWords Plan → Type 0
Fitting p = (ws : List ℕ) (at : ℕ) → Post (p ws at) Fits

infixr 20 ◌&◌
data AllFitting : List (FromWords Plan) → Type 0 where
  last : AllFitting []
  ◌&◌ : {p : FromWords Plan} {ps : List (FromWords Plan)} → Fitting p → AllFitting ps → AllFitting (p ∷ ps)

-- Behind any reader.
behind : {A : Type 0} (p : FromWords A) (q : A → FromWords Plan) → ((a : A) → Fitting (q a)) → Fitting (p >>= q)
behind p q f ws at = chain_post (p ws at) q ws (λ a n. Unit {0}) Fits (post_any (p ws at) (λ a n. Unit {0}) (λ a n. tt)) λ a n u. f a ws n

says : (k : Kind) (n : ℕ) → HasOperands k n → Fitting (plan k n)
says k n h ws at = h

-- One of several readers.
chosen : (first : ℕ) (ps : List (FromWords Plan)) → AllFitting ps → (k : ℕ) → Fitting (choose first ps k)
unfolding choose pick
chosen first ps h k ws at = go (ltb k first)
  where
    one : {ps : List (FromWords Plan)} → AllFitting ps → (k : ℕ) → Post (or_fail (among ps k) ws at) Fits
    one last k = tt
    one (f & fs) zero = f ws at
    one (f & fs) (suc k) = one fs k

    go : (t : Bool) → Post (pick t (fail not_words) (or_fail (among ps (k - first))) ws at) Fits
    go true = tt
    go false = one h (k - first)

module _ (limit : ℕ) where
  kinds-fit : AllFitting (kinds limit)
  unfolding kinds
  kinds-fit =
      behind four_words _ (λ v. says (k_num v) 0 refl)
      & behind (word_below 2) _ (λ b. says (k_bool (eqb b 1)) 0 refl)
      & behind (span_within limit) _ (λ s. says (k_str s) 0 refl)
      & behind four_words _ (λ v. behind word _ (λ width. says (k_bit_vec v width) 0 refl))
      & behind two_words _ (λ k. says (k_fresh k) 0 refl)
      & behind (name_within limit) _ (λ x. says (k_named x) 0 refl)
      & behind (word_below 2) _ (λ f. behind word _ (λ n ws at. tt))
      & says k_neg 1 refl
      & behind word _ (chosen 0 _ (says (k_bin op_add) 2 refl & says (k_bin op_sub) 2 refl & says (k_bin op_mul) 2 refl & says (k_bin op_div) 2 refl & says (k_bin op_mod) 2 refl & last))
      & says k_if 3 refl
      & behind word _ (λ n. says k_and n tt)
      & behind word _ (λ n. says k_or n tt)
      & says k_not 1 refl
      & says k_imp 2 refl
      & says k_iff 2 refl
      & behind word _ (chosen 0 _ (says (k_atom rel_eq) 2 refl & says (k_atom rel_ne) 2 refl & says (k_atom rel_gt) 2 refl & says (k_atom rel_ge) 2 refl & says (k_atom rel_lt) 2 refl & says (k_atom rel_le) 2 refl & last))
      & behind (name_within limit) _ (λ x. says (k_let x) 2 refl)
      & behind (word_below 42) _ (λ k. says (k_theory k) 0 refl)
      & behind (name_within limit) _ (λ x. says (k_is_ctor x) 1 refl)
      & behind word _ (λ n. behind (binders_at limit n) _ (λ bs. says (k_exists bs) 1 refl))
      & behind two_words _ (λ k. says (k_let_fresh k) 2 refl)
      & last

  pub header-fits : Fitting (header limit)
  unfolding header
  header-fits = behind word _ (chosen 32 (kinds limit) kinds-fit)

  -- Expressions.
  abbrev pub FormedAt : Expr → ℕ → Type 0
  FormedAt e at = Formed e

  abbrev ManyFormed : ℕ → Exprs → ℕ → Type 0
  ManyFormed n es at = (exprs es ≡ n) × FormedAll es

  abbrev pub Forming : FromWords Expr → Type 0
  Forming d = (ws : List ℕ) (at : ℕ) → Post (d ws at) FormedAt

  several-formed : (d : FromWords Expr) → Forming d → (n : ℕ) (ws : List ℕ) (at : ℕ) → Post (several d enil econs n ws at) (ManyFormed n)
  unfolding several exprs
  several-formed d f zero ws at = (refl, tt)
  several-formed d f (suc n) ws at =
      chain_post (d ws at) _ ws FormedAt (ManyFormed (suc n)) (f ws at) λ e m h.
      chain_post (several d enil econs n ws m) _ ws (ManyFormed n) (ManyFormed (suc n)) (several-formed d f n ws m) λ es j k. (ap suc k.0, (h, k.1))

  planned-formed : (d : FromWords Expr) → Forming d → (p : Plan) (at : ℕ) → Fits p at → Forming (planned limit d p)
  unfolding planned
  planned-formed d f (operands_of k n) a h ws at =
      chain_post (several d enil econs n ws at) _ ws (ManyFormed n) FormedAt (several-formed d f n ws at) λ es m g. (rw g.0 h, g.1)
  planned-formed d f (arguments_of b n) a h ws at =
      chain_post (several d enil econs n ws at) _ ws (ManyFormed n) FormedAt (several-formed d f n ws at) λ es m g.
      chain_post (sort_if limit b ws m) _ ws (λ o j. Unit {0}) FormedAt (post_any (sort_if limit b ws m) (λ o j. Unit {0}) (λ o j. tt)) λ o j u.
      chain_post (d ws j) _ ws FormedAt FormedAt (f ws j) λ e i k. (g.1, k)

  pub expr-formed : (room : ℕ) → Forming (expr_deep limit room)
  unfolding expr_deep
  expr-formed zero ws at =
      chain_post (word ws at) _ ws (λ k n. Unit {0}) FormedAt (post_any (word ws at) (λ k n. Unit {0}) (λ k n. tt)) λ k n u. tt
  expr-formed (suc room) ws at =
      chain_post (header limit ws at) _ ws Fits FormedAt (header-fits ws at) λ p n f. planned-formed (expr_deep limit room) (expr-formed room) p n f ws n

  -- The body of a solution that is judged.
  pub body-formed : (ws : List ℕ) (s : Solution) (n : ℕ) → judge_solution limit ws ≡ reads s n → Formed s.body
  unfolding judge_solution expr_at at_end
  body-formed ws s n e = post_reads (judge_solution limit ws) BodyFormed judged-formed e
    where
      BodyFormed : Solution → ℕ → Type 0
      BodyFormed s n = Formed s.body

      ended : (s : Solution) (at : ℕ) → Formed s.body → (t : Bool) → Post (pick t (reads s at) (fails not_words)) BodyFormed
      ended s at f true = unfold pick in f
      ended s at f false = unfold pick in tt

      judged-formed : Post (judge_solution limit ws) BodyFormed
      judged-formed =
          chain_post (word ws 0) _ ws (λ k m. Unit {0}) BodyFormed (post_any (word ws 0) (λ k m. Unit {0}) (λ k m. tt)) λ k m u.
          chain_post (binders_at limit k ws m) _ ws (λ bs j. Unit {0}) BodyFormed (post_any (binders_at limit k ws m) (λ bs j. Unit {0}) (λ bs j. tt)) λ bs j v.
          chain_post (expr_deep limit max_nodes ws j) _ ws FormedAt BodyFormed (expr-formed max_nodes ws j) λ b i f.
          ended (record { params = bs; body = b }) i f (eqb i (length ws))
