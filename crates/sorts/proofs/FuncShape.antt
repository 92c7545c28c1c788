-- The three trees behind `func`: a number, a list of inputs, an output.
use Prim.Native.Nat.{ℕ, ◌+◌, ◌-◌, ◌*◌, ◌^◌, ◌≤◌, ◌<◌}
use mathlib.Core.Path.{◌≡◌, refl, sym, ap, ◌∙◌}
use mathlib.Core.List.{List, [], ◌++◌, append_assoc}
use native.Mathlib.Omega.{arith}
use mathlib.Core.Bool.{Bool, true, false}
use lib.Dec.{leb}
use lib.ListN.{length, get_or, take, drop, length-append, length-drop}
use lib.Seq.{get_or-drop, drop-drop}
use borrow.Author.Tests.{leb-true, le-leb, lt-leb}
use Rattle.reading.specs.Limits.{max_func}
use Rattle.reading.specs.Number.{Wide, value_of}
use Rattle.reading.specs.Tree.{Tree, Trees, list, tnil, tcons, trees, tree_words, trees_words}
use Rattle.reading.specs.Answer.{Ans, got, bad, and_then, check, malformed, bad_func, over}
use Rattle.lexing.proofs.Lexing.Parts.{tail}
use Rattle.grammar.specs.Sort.{Sort, Sorts, scons, sorts, sort_words, funcs, abstracted}
use Rattle.grammar.specs.ParseSort
use Rattle.grammar.specs.ParseSort.{in_list, in_atom, in_integer, integer_in, func_number, view_at, each_sort, func_sort}
use Rattle.sorts.specs.SortNames.{number_in}
use Rattle.sorts.specs.Rows.{row_words, abs_words}
use Rattle.sorts.specs.Outcome.{Gives, Outcome, wrote, refused}
use Rattle.words.specs.declared.refusal.Refusal.{Refusal}
use Rattle.std.specs.Prelude.{Result, Ok, Err}
use Rattle.grammar.proofs.AnswerHolds.{Every}
use Rattle.sorts.proofs.RowWords.{snoc, funcs-words, abs_words_lem}
use Rattle.sorts.proofs.ListForms.{view-tree, each_many}
use Rattle.reading.proofs.TreeHead.{Three, tree-two, is-integer, is-list, size-integer, other-words}
use Rattle.grammar.proofs.TreeHead.{no-integer, no-list}

-- One tree more at the end.
abbrev pub snoc_tree : Trees → Tree → Trees
snoc_tree tnil c = tcons c tnil
snoc_tree (tcons t ts) c = tcons t (snoc_tree ts c)

snoc-tree-words : (ts : Trees) (c : Tree) → trees_words (snoc_tree ts c) ≡ trees_words ts ++ (tree_words c ++ [])
unfolding tree_words
snoc-tree-words tnil c = refl
snoc-tree-words (tcons t ts) c = ap (λ l. tree_words t ++ l) (snoc-tree-words ts c) ∙ sym (append_assoc (tree_words t) (trees_words ts) (tree_words c ++ []))

module _ (text : List ℕ) where
  -- The sorts of inputs and an output.
  each_snoc : (ts : Trees) (c : Tree) → each_sort (ParseSort.views text (snoc_tree ts c)) ≡ and_then (each_sort (ParseSort.views text ts)) λ ss. and_then (ParseSort.parse_sort text c) λ o. got (snoc ss o)
  unfolding ParseSort.parse_sort ParseSort.view each_sort
  each_snoc tnil c = refl
  each_snoc (tcons t ts) c = ap (λ y. and_then (ParseSort.view text t).sort λ s. and_then y λ ss. got (scons s ss)) (each_snoc ts c) ∙ go (ParseSort.view text t).sort (each_sort (ParseSort.views text ts)) (ParseSort.view text c).sort
    where
      go : (x : Ans Sort) (y : Ans Sorts) (z : Ans Sort) → (and_then x λ s. and_then (and_then y λ ss. and_then z λ o. got (snoc ss o)) λ ss. got (scons s ss)) ≡ (and_then (and_then x λ s. and_then y λ ss. got (scons s ss)) λ ss. and_then z λ o. got (snoc ss o))
      go (got s) (got ss) (got o) = refl
      go (got s) (got ss) (bad e) = refl
      go (got s) (bad e) z = refl
      go (bad e) y z = refl

  -- A `func` with so many inputs, by what they and the output are read as.
  func-goes : (n m : ℕ) (x : Ans Sorts) (z : Ans Sort) {o o' : List ℕ} {r : Result ℕ Refusal} → Every x (λ ss. sorts ss ≡ m) → Outcome (λ ss. abs_words 0 n ++ row_words m ss) (and_then x λ ss. and_then z λ c. got (snoc ss c)) o o' r → Outcome sort_words (and_then x λ ss. and_then z λ c. got (abstracted n 0 (funcs ss c))) o o' r
  func-goes n m (got ss) (got c) {o} h (wrote p q) =
      let e : abs_words 0 n ++ row_words m (snoc ss c) ≡ sort_words (abstracted n 0 (funcs ss c)) = sym (abs_words_lem 0 n (funcs ss c) ∙ ap (λ l. abs_words 0 n ++ l) (funcs-words ss c ∙ ap (λ k. row_words k (snoc ss c)) h)) in
      wrote (p ∙ ap (λ l. Ok (length l)) e) (q ∙ ap (λ l. over l o) e)
  func-goes n m (got ss) (bad e) h (refused p) = refused p
  func-goes n m (bad e) z h (refused p) = refused p

-- The integer that words begin with.
abbrev pub wide_at : List ℕ → Wide
wide_at ws = record { a = get_or ws 1 0; b = get_or ws 2 0; c = get_or ws 3 0; d = get_or ws 4 0 }

-- What a `func` sort is, by its number, its inputs and its output.
pub record Shape (text ws : List ℕ) (ts : Trees) : Type 0 where
  pub inputs : Trees
  pub output : Tree
  pub parsed : func_sort (ParseSort.views text ts) ≡ and_then (func_number (wide_at ws)) λ n. and_then (each_sort (ParseSort.views text inputs)) λ ss. and_then (ParseSort.parse_sort text output) λ o. got (abstracted n 0 (funcs ss o))
  pub many : get_or ws 6 0 ≡ trees inputs
  pub part : take (length ws - 8) (drop 8 ws) ≡ trees_words (snoc_tree inputs output)
  pub size : 8 + length (trees_words (snoc_tree inputs output)) ≡ length ws

module _ (text : List ℕ) (ts : Trees) {ws : List ℕ} (T : Three ws ts) where
  -- The first is no integer.
  pub no_number : (get_or ws 0 0 ≡ 18 → ⊥) → func_sort (ParseSort.views text ts) ≡ bad malformed
  unfolding func_sort view_at ParseSort.view
  no_number h = rw (T.is, view-tree text T.first, no-integer (trees_words (tcons T.second (tcons T.third tnil))) T.first T.words h) refl

  module _ (h : get_or ws 0 0 ≡ 18) where
    number_is : in_integer T.first ≡ got (wide_at ws)
    unfolding in_integer in_atom integer_in
    number_is = rw (is-integer (trees_words (tcons T.second (tcons T.third tnil))) T.first T.words h) refl

    behind : drop 5 ws ≡ tree_words T.second ++ (tree_words T.third ++ [])
    unfolding tree_words
    behind = other-words T.first (tcons T.second (tcons T.third tnil)) T.words 5 (size-integer (trees_words (tcons T.second (tcons T.third tnil))) T.first T.words h)

    -- The second is no list.
    pub no-inputs : (get_or ws 5 0 ≡ 21 → ⊥) → func_sort (ParseSort.views text ts) ≡ bad malformed
    unfolding func_sort view_at ParseSort.view
    no-inputs k = rw (T.is, view-tree text T.first, number_is, view-tree text T.second, no-list (tree_words T.third ++ []) T.second behind (λ z. k (sym (get_or-drop 5 ws 0 0) ∙ z))) refl

    shape_of : (ins : Trees) → T.second ≡ list ins → Shape text ws ts
    unfolding func_sort view_at ParseSort.view ParseSort.parse_sort in_list tree_words
    shape_of ins is =
        let e : drop 5 ws ≡ tree_words (list ins) ++ (tree_words T.third ++ []) = behind ∙ ap (λ t. tree_words t ++ (tree_words T.third ++ [])) is in
        let b : drop 8 ws ≡ trees_words (snoc_tree ins T.third) = sym (drop-drop 3 5 ws) ∙ rw e (sym (snoc-tree-words ins T.third)) in
        record {
          inputs = ins;
          output = T.third;
          parsed = rw (T.is, view-tree text T.first, number_is, is) refl;
          many = sym (get_or-drop 5 ws 1 0) ∙ rw e refl;
          part = tail ws 8 ∙ b;
          size = omega (arith, ap length b, ap length (snoc-tree-words ins T.third), length-append (trees_words ins) (tree_words T.third ++ []), length-append (tree_words T.third) [], tree-two T.third, length-drop 8 ws, T.long);
        }

    -- They have the shape.
    pub func-shape : get_or ws 5 0 ≡ 21 → Shape text ws ts
    func-shape k = let l = is-list (tree_words T.third ++ []) T.second behind (get_or-drop 5 ws 0 0 ∙ k) in shape_of l.items l.is

module _ (text : List ℕ) (ts : Trees) {ws : List ℕ} (S : Shape text ws ts) where
  -- The number is outside its range.
  pub func-outside : {o o' : List ℕ} {r : Refusal} → Gives number_in (Err r) (func_number (wide_at ws)) → Outcome sort_words (func_sort (ParseSort.views text ts)) o o' (Err r)
  func-outside {o} {o'} {r} q = go (func_number (wide_at ws)) refl q
    where
      go : (x : Ans ℕ) → func_number (wide_at ws) ≡ x → Gives number_in (Err r) x → Outcome sort_words (func_sort (ParseSort.views text ts)) o o' (Err r)
      go (got n) e h = absurd h
      go (bad m) e h = rw (S.parsed, e) (refused (ap Err h))

  -- The words of its sorts stand behind those of Abs.
  pub func-row : {n : ℕ} → got n ≡ func_number (wide_at ws) → {o o' : List ℕ} {r : Result ℕ Refusal} → Outcome (λ ss. abs_words 0 n ++ row_words (get_or ws 6 0) ss) (each_sort (ParseSort.views text (snoc_tree S.inputs S.output))) o o' r → Outcome sort_words (func_sort (ParseSort.views text ts)) o o' r
  func-row {n} q y =
      let e : func_sort (ParseSort.views text ts) ≡ and_then (each_sort (ParseSort.views text S.inputs)) λ ss. and_then (ParseSort.parse_sort text S.output) λ o. got (abstracted n 0 (funcs ss o)) = S.parsed ∙ rw (← q) refl in
      rw e (func-goes text n (trees S.inputs) (each_sort (ParseSort.views text S.inputs)) (ParseSort.parse_sort text S.output) (each_many text S.inputs) (rw (S.many, each_snoc text S.inputs S.output) at y))

-- The number is tested by its words.
pub arity_out : (w : Wide) → max_func < value_of w → bad bad_func ≡ func_number w
unfolding func_number
arity_out w h = rw (lt-leb (value_of w) max_func h) refl

pub arity_in_lem : (n a b c d : ℕ) → n ≡ a → b ≡ 0 → c ≡ 0 → d ≡ 0 → a ≤ max_func → got n ≡ func_number (record { a = a; b = b; c = c; d = d })
unfolding func_number value_of
arity_in_lem n a b c d e hb hc hd h =
    let z : a + 2 ^ 32 * (b + 2 ^ 32 * (c + 2 ^ 32 * d)) ≡ a = rw (hb, hc, hd) (omega arith) in
    rw (z, le-leb a max_func h) (ap got e)

-- A `func` number is at most the limit.
pub arity_most : (w : Wide) (n : ℕ) → got n ≡ func_number w → n ≤ max_func
unfolding func_number
arity_most w n q = go (leb (value_of w) max_func) refl q
  where
    go : (b : Bool) → leb (value_of w) max_func ≡ b → got n ≡ and_then (check b bad_func) (λ _. got (value_of w)) → n ≤ max_func
    go true e q = let k : n ≡ value_of w = cc in omega (arith, k, leb-true (value_of w) max_func e)
    go false e q = let z : ◌≡◌ {A = ℕ} 0 1 = cc in absurd (omega arith)
