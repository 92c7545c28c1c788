-- The words of a kind are read as that kind and its number of operands, wherever they stand.
use Prim.Native.Nat.{ℕ, ◌+◌, ◌^◌, ◌≤◌}
use mathlib.Core.Bool.{Bool, true, false}
use mathlib.Core.Path.{◌≡◌, refl}
use mathlib.Core.List.{List, [], ◌∷◌}
use native.Mathlib.Omega.{arith}
use lib.ListN.{length}
use Rattle.reading.specs.Pick.{pick}
use Rattle.reading.specs.Bytes.{Maybe, nothing, just}
use Rattle.reading.specs.Tree.{wide_words}
use Rattle.reading.specs.At.{At}
use Rattle.reading.proofs.Placed.{at_right, at_tail}
use Rattle.grammar.specs.Sort.{Sort}
use Rattle.grammar.specs.Item.{words_of}
use Rattle.grammar.specs.Expr.{op_add, op_sub, op_mul, op_div, op_mod, rel_eq, rel_ne, rel_gt, rel_ge, rel_lt, rel_le, Kind, k_num, k_bool, k_str, k_bit_vec, k_fresh, k_named, k_neg, k_bin, k_if, k_and, k_or, k_not, k_imp, k_iff, k_atom, k_let, k_theory, k_is_ctor, k_exists, k_let_fresh, kind_items, flag}
use Rattle.grammar.specs.Shape.{HasOperands, KindCoded}
use Rattle.judging.specs.Judge.{reads, choose, name_within, operands_of, arguments_of, kinds, header}
use Rattle.judging.proofs.FieldsBack.{moved, word_back, below-back, two_back, four-back, span-back}
use Rattle.judging.proofs.SortBack.{binders-at}

-- Whether there is an output sort.
abbrev pub has_sort : Maybe Sort → Bool
has_sort nothing = false
has_sort (just s) = true

-- Fresh numbers have 64 bits.
module _ (limit numbers : ℕ) (few : numbers ≤ 2 ^ 64) (ws : List ℕ) where
  -- A kind is read where its words stand.
  pub kind_at : (k : Kind) (n at : ℕ) → HasOperands k n → KindCoded k limit numbers → At ws at (words_of (kind_items k n)) → header limit ws at ≡ reads (operands_of k n) (at + length (words_of (kind_items k n)))
  unfolding header kinds choose pick name_within kind_items words_of
  kind_at (k_num v) n at o c a = rw (o, word_back a, four-back v (at_tail a)) (moved (omega arith))
  kind_at (k_bool true) n at o c a = rw (o, word_back a, below-back 2 (omega arith) (at_tail a)) (moved (omega arith))
  kind_at (k_bool false) n at o c a = rw (o, word_back a, below-back 2 (omega arith) (at_tail a)) (moved (omega arith))
  kind_at (k_str s) n at o c a = rw (o, word_back a, span-back limit s c (at_tail a)) (moved (omega arith))
  kind_at (k_bit_vec v width) n at o c a =
      rw (o, word_back a, four-back v (at_tail a), word_back (at_right (wide_words v) (width ∷ []) (at_tail a))) (moved (omega arith))
  kind_at (k_fresh k) n at o c a = rw (o, word_back a, two_back k (omega (arith, c)) (at_tail a)) (moved (omega arith))
  kind_at (k_named x) n at o c a = rw (o, word_back a, span-back limit x.span c (at_tail a)) (moved (omega arith))
  kind_at k_neg n at o c a = rw (o, word_back a) refl
  kind_at (k_bin op_add) n at o c a = rw (o, word_back a, word_back (at_tail a)) (moved (omega arith))
  kind_at (k_bin op_sub) n at o c a = rw (o, word_back a, word_back (at_tail a)) (moved (omega arith))
  kind_at (k_bin op_mul) n at o c a = rw (o, word_back a, word_back (at_tail a)) (moved (omega arith))
  kind_at (k_bin op_div) n at o c a = rw (o, word_back a, word_back (at_tail a)) (moved (omega arith))
  kind_at (k_bin op_mod) n at o c a = rw (o, word_back a, word_back (at_tail a)) (moved (omega arith))
  kind_at k_if n at o c a = rw (o, word_back a) refl
  kind_at k_and n at o c a = rw (word_back a, word_back (at_tail a)) (moved (omega arith))
  kind_at k_or n at o c a = rw (word_back a, word_back (at_tail a)) (moved (omega arith))
  kind_at k_not n at o c a = rw (o, word_back a) refl
  kind_at k_imp n at o c a = rw (o, word_back a) refl
  kind_at k_iff n at o c a = rw (o, word_back a) refl
  kind_at (k_atom rel_eq) n at o c a = rw (o, word_back a, word_back (at_tail a)) (moved (omega arith))
  kind_at (k_atom rel_ne) n at o c a = rw (o, word_back a, word_back (at_tail a)) (moved (omega arith))
  kind_at (k_atom rel_gt) n at o c a = rw (o, word_back a, word_back (at_tail a)) (moved (omega arith))
  kind_at (k_atom rel_ge) n at o c a = rw (o, word_back a, word_back (at_tail a)) (moved (omega arith))
  kind_at (k_atom rel_lt) n at o c a = rw (o, word_back a, word_back (at_tail a)) (moved (omega arith))
  kind_at (k_atom rel_le) n at o c a = rw (o, word_back a, word_back (at_tail a)) (moved (omega arith))
  kind_at (k_let x) n at o c a = rw (o, word_back a, span-back limit x.span c (at_tail a)) (moved (omega arith))
  kind_at (k_theory k) n at o c a = rw (o, word_back a, below-back 42 c (at_tail a)) (moved (omega arith))
  kind_at (k_is_ctor x) n at o c a = rw (o, word_back a, span-back limit x.span c (at_tail a)) (moved (omega arith))
  kind_at (k_exists bs) n at o c a =
      rw (o, word_back a, word_back (at_tail a), binders-at limit numbers few ws bs (at + 1 + 1) c (at_tail (at_tail a))) (moved (omega arith))
  kind_at (k_let_fresh k) n at o c a = rw (o, word_back a, two_back k (omega (arith, c)) (at_tail a)) (moved (omega arith))

module _ (limit : ℕ) (ws : List ℕ) where
  -- The first three words of an application are read where they stand.
  pub arguments-at : (n at : ℕ) (o : Maybe Sort) (xs : List ℕ) → At ws at (38 ∷ flag o ∷ n ∷ xs) → header limit ws at ≡ reads (arguments_of (has_sort o) n) (at + 3)
  unfolding header kinds choose pick
  arguments-at n at nothing xs a =
      rw (word_back a, below-back 2 (omega arith) (at_tail a), word_back (at_tail (at_tail a))) (moved (omega arith))
  arguments-at n at (just s) xs a =
      rw (word_back a, below-back 2 (omega arith) (at_tail a), word_back (at_tail (at_tail a))) (moved (omega arith))
