-- Cases of the parser's order, one for each reading that is easily got wrong.
use Prim.Native.Nat.{ℕ}
use Prim.Native.String.{String}
use mathlib.Core.Path.{◌≡◌, refl}
use mathlib.Core.List.{List, [], ◌∷◌}
use lib.ListN.{replicate}
use Rattle.reading.specs.Bytes.{ascii}
use Rattle.reading.specs.Answer.{wrong_width, number, Res, ok, no, chain, lifted}
use Rattle.grammar.specs.Sort.{sort_words}
use Rattle.grammar.specs.Item.{words_of}
use Rattle.grammar.specs.Expr.{expr_items, solution_items}
use Rattle.grammar.specs.ParseSolution.{parse_solution}
use Rattle.grammar.specs.OtherRule.{headed_by, list_expr_by, list_child_by, child_by, lit_name}
use Rattle.grammar.specs.Operations.{the_tree, make_sort, make_expr}
use Rattle.grammar.specs.Compute.{parse_computes}

-- The words of what is made, or a refusal's number alone.
abbrev shown : {A : Type 0} → (A → List ℕ) → Res A → List ℕ
shown words (ok a n) = words a
shown words (no r) = number r ∷ []

abbrev room : List ℕ
room = replicate 64 0

abbrev expr_of : String → List ℕ
expr_of text = shown (λ e. words_of (expr_items e)) (make_expr (ascii text) room 0)

abbrev sort_of : String → List ℕ
sort_of text = shown sort_words (make_sort (ascii text) room 0)

abbrev draft_of : String → List ℕ
draft_of text = shown (λ s. words_of (solution_items s)) (chain (lifted (the_tree (ascii text) room) 0) (λ t. parse_solution (ascii text) t))

-- The numbers of the arguments come before those of the head.
head-numbers : expr_of "(((as apply Int) (exists ((x Int)) x)) (exists ((y Int)) y))" ≡ (38 ∷ 0 ∷ 1 ∷ 51 ∷ 1 ∷ 0 ∷ 0 ∷ 1 ∷ 36 ∷ 0 ∷ 0 ∷ 38 ∷ 1 ∷ 0 ∷ 1 ∷ 51 ∷ 1 ∷ 1 ∷ 0 ∷ 1 ∷ 36 ∷ 1 ∷ 0 ∷ [])
unfolding parse_computes
head-numbers = refl

-- A solution's body is not seen through.
body-plain : draft_of "(lambda () (and))" ≡ (0 ∷ 42 ∷ 0 ∷ [])
unfolding parse_computes
body-plain = refl

-- A call begins with no scope.
no-scope : expr_of "y" ≡ (37 ∷ 0 ∷ 1 ∷ [])
unfolding parse_computes
no-scope = refl

-- Abs 0 is the outermost.
abs_order : sort_of "(func 2 () Int)" ≡ (9 ∷ 0 ∷ 9 ∷ 1 ∷ 1 ∷ [])
unfolding parse_computes
abs_order = refl

-- 10 comes behind the body; 11 before the size's 8, and that before 17.
name_late : expr_of "(exists ((x Int) (x Int)) 1.5)" ≡ (9 ∷ [])
unfolding parse_computes
name_late = refl

bits_early : expr_of "(lit \"#b2\" 5)" ≡ (11 ∷ [])
unfolding parse_computes
bits_early = refl

size_unread : expr_of "(lit \"#b1\" 5)" ≡ (8 ∷ [])
unfolding parse_computes
size_unread = refl

digits-few : expr_of "(lit \"#b1\" (BitVec Size2))" ≡ (17 ∷ [])
unfolding parse_computes
digits-few = refl

-- Every digit counts, the first, too.
all_digits_lem : expr_of "(lit \"#b101\" (BitVec Size3))" ≡ (35 ∷ 5 ∷ 0 ∷ 0 ∷ 0 ∷ 3 ∷ [])
unfolding parse_computes
all_digits_lem = refl

-- A `+` is no digit.
plus-refused : expr_of "(lit \"#b+1\" (BitVec Size2))" ≡ (11 ∷ [])
unfolding parse_computes
plus-refused = refl

-- The same with a rule by which every list that begins with `lit` is 17.
abbrev ruled_of : String → List ℕ
ruled_of text = shown (λ e. words_of (expr_items e)) (chain (lifted (the_tree (ascii text) room) 0) (λ t. (child_by (ascii text) lit_name (λ cs sc n. no wrong_width) t).plainly []))

-- Such a list is read by the rule, and nothing else is.
rule_read : ruled_of "(not (lit x))" ≡ (17 ∷ [])
unfolding parse_computes headed_by list_expr_by list_child_by child_by
rule_read = refl

rule_unread : ruled_of "(not lit)" ≡ (44 ∷ 37 ∷ 5 ∷ 3 ∷ [])
unfolding parse_computes headed_by list_expr_by list_child_by child_by
rule_unread = refl
