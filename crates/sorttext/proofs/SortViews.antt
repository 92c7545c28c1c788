-- A sort by what is told of it: it cannot be written, or it has no sorts inside it, or it has some; its bytes and its words.
use Prim.Native.Nat.{ℕ, suc, ◌+◌, ◌<◌}
use mathlib.Core.Path.{◌≡◌, refl, sym, ap, ◌∙◌}
use mathlib.Core.List.{List, [], ◌∷◌, ◌++◌}
use native.Mathlib.Omega.{arith}
use lib.ListN.{length, get_or}
use Rattle.reading.specs.Pick.{pick}
use Rattle.reading.specs.Answer.{got, bad, unwritable}
use Rattle.reading.specs.At.{At}
use Rattle.reading.proofs.Placed.{at_tail, at-word}
use Rattle.grammar.specs.Sort.{c_set, c_map, c_data, Sort, Sorts, s_int, s_bool, s_real, s_str, s_bit_vec, s_size, s_var, s_func, s_abs, s_app, snil, scons, sorts, sort_words, sorts_words}
use Rattle.smt.specs.Writer.{width_of, sort_of}
use Rattle.smtnames.specs.Pieces.{joined, sort_text}
use Rattle.sortnodes.specs.Told.{applied_at, sort_node_at, size_of, inside_of}
use Rattle.smtsorts.specs.SortNode.{array_text, open_text}
use Rattle.words.specs.Spans.{told_span}
use Rattle.sortnodes.specs.declared.SortNode.{SortNode}
use Rattle.sortnodes.specs.declared.SortNode.TheVariants as told
use Rattle.sorttext.proofs.SortTexts.{spaced_text, array_inside, data_inside, data_leaf, width-leaf, int_leaf, bool_leaf, real_leaf, string-leaf}

-- What is told of a sort.
abbrev pub width_told : Sort → SortNode
width_told s_int = told.Other
width_told s_bool = told.Other
width_told s_real = told.Other
width_told s_str = told.Other
width_told (s_bit_vec s) = told.Other
width_told (s_size width) = told.BitVec width
width_told (s_var i) = told.Other
width_told (s_func s t) = told.Other
width_told (s_abs i s) = told.Other
width_told (s_app c ss) = told.Other

abbrev pub sort_told : Sort → SortNode
sort_told s_int = told.Int
sort_told s_bool = told.Bool
sort_told s_real = told.Real
sort_told s_str = told.Str
sort_told (s_bit_vec s) = width_told s
sort_told (s_size width) = told.Other
sort_told (s_var i) = told.Other
sort_told (s_func s t) = told.Other
sort_told (s_abs i s) = told.Other
sort_told (s_app c_set ss) = told.Other
sort_told (s_app c_map ss) = told.Array (sorts ss)
sort_told (s_app (c_data s) ss) = told.Data (told_span s) (sorts ss)

-- What is known of a sort by what is told of it.
pub data View (text : List ℕ) (s : Sort) : Type 0 where
  refusing : sort_text text s ≡ bad unwritable → sort_told s ≡ told.Other → View text s
  leaf : sort_text text s ≡ open_text text (sort_told s) → inside_of (sort_told s) ≡ 0 → length (sort_words s) ≡ size_of (sort_told s) → View text s
  inner : (t : Sort) (ts : Sorts) (front : List ℕ) → sort_text text s ≡ joined (open_text text (sort_told s)) (joined (sort_text text t) (joined (spaced_text text ts) (got (41 ∷ [])))) → inside_of (sort_told s) ≡ suc (sorts ts)
      → sort_words s ≡ front ++ (sort_words t ++ sorts_words ts) → length front ≡ size_of (sort_told s) → View text s

-- A BitVec by its sort.
bits_view : (text : List ℕ) (s : Sort) → View text (s_bit_vec s)
unfolding sort_text sort_of width_of sort_words
bits_view text s_int = refusing refl refl
bits_view text s_bool = refusing refl refl
bits_view text s_real = refusing refl refl
bits_view text s_str = refusing refl refl
bits_view text (s_bit_vec s) = refusing refl refl
bits_view text (s_size width) = leaf (width-leaf text width) refl refl
bits_view text (s_var i) = refusing refl refl
bits_view text (s_func s t) = refusing refl refl
bits_view text (s_abs i s) = refusing refl refl
bits_view text (s_app c ss) = refusing refl refl

pub view : (text : List ℕ) (s : Sort) → View text s
unfolding sort_text sort_of sort_words sorts array_text pick
view text s_int = leaf (int_leaf text) refl refl
view text s_bool = leaf (bool_leaf text) refl refl
view text s_real = leaf (real_leaf text) refl refl
view text s_str = leaf (string-leaf text) refl refl
view text (s_bit_vec s) = bits_view text s
view text (s_size width) = refusing refl refl
view text (s_var i) = refusing refl refl
view text (s_func s t) = refusing refl refl
view text (s_abs i s) = refusing refl refl
view text (s_app c_set ss) = refusing refl refl
view text (s_app c_map snil) = leaf refl refl refl
view text (s_app c_map (scons t ts)) = inner t ts (10 ∷ 1 ∷ suc (sorts ts) ∷ []) (array_inside text t ts) refl refl refl
view text (s_app (c_data s) snil) = leaf (data_leaf text s) refl refl
view text (s_app (c_data s) (scons t ts)) = inner t ts (10 ∷ 2 ∷ s.start ∷ s.len ∷ suc (sorts ts) ∷ []) (data_inside text s t ts) refl refl refl

-- Each sort has a word.
pub words-some : (s : Sort) → 0 < length (sort_words s)
unfolding sort_words
words-some s_int = omega arith
words-some s_bool = omega arith
words-some s_real = omega arith
words-some s_str = omega arith
words-some (s_bit_vec s) = omega arith
words-some (s_size width) = omega arith
words-some (s_var i) = omega arith
words-some (s_func s t) = omega arith
words-some (s_abs i s) = omega arith
words-some (s_app c ss) = omega arith

-- The words of a sort tell it.
module _ {ws : List ℕ} {a : ℕ} (rest : List ℕ) where
  bits_told : (s : Sort) → At ws a (5 ∷ sort_words s ++ rest) → sort_node_at ws a ≡ width_told s
  unfolding sort_words sort_node_at pick
  bits_told s_int h = rw (at-word h, at-word (at_tail h)) refl
  bits_told s_bool h = rw (at-word h, at-word (at_tail h)) refl
  bits_told s_real h = rw (at-word h, at-word (at_tail h)) refl
  bits_told s_str h = rw (at-word h, at-word (at_tail h)) refl
  bits_told (s_bit_vec s) h = rw (at-word h, at-word (at_tail h)) refl
  bits_told (s_size width) h =
      let e : a + 1 + 1 ≡ a + 2 = omega arith in
      rw (at-word h, at-word (at_tail h)) (ap told.BitVec (ap (λ (i : ℕ). get_or ws i 0) (sym e) ∙ at-word (at_tail (at_tail h))))
  bits_told (s_var i) h = rw (at-word h, at-word (at_tail h)) refl
  bits_told (s_func s t) h = rw (at-word h, at-word (at_tail h)) refl
  bits_told (s_abs i s) h = rw (at-word h, at-word (at_tail h)) refl
  bits_told (s_app c ss) h = rw (at-word h, at-word (at_tail h)) refl

  pub sort-told : (s : Sort) → At ws a (sort_words s ++ rest) → sort_node_at ws a ≡ sort_told s
  unfolding sort_words sort_node_at applied_at pick
  sort-told s_int h = rw (at-word h) refl
  sort-told s_bool h = rw (at-word h) refl
  sort-told s_real h = rw (at-word h) refl
  sort-told s_str h = rw (at-word h) refl
  sort-told (s_bit_vec s) h = bits_told s h
  sort-told (s_size width) h = rw (at-word h) refl
  sort-told (s_var i) h = rw (at-word h) refl
  sort-told (s_func s t) h = rw (at-word h) refl
  sort-told (s_abs i s) h = rw (at-word h) refl
  sort-told (s_app c_set ss) h = rw (at-word h, at-word (at_tail h)) refl
  sort-told (s_app c_map ss) h =
      rw (at-word h, at-word (at_tail h)) (ap told.Array (at-word (at_tail (at_tail h))))
  sort-told (s_app (c_data s) ss) h =
      let two = at_tail (at_tail h) in
      let e : a + 1 + 1 + 1 ≡ a + 1 + 2 = omega arith in
      let f : a + 1 + 1 + 1 + 1 ≡ a + 1 + 3 = omega arith in
      let y : get_or ws (a + 1 + 2) 0 ≡ s.len = ap (λ (i : ℕ). get_or ws i 0) (sym e) ∙ at-word (at_tail two) in
      let z : get_or ws (a + 1 + 3) 0 ≡ sorts ss = ap (λ (i : ℕ). get_or ws i 0) (sym f) ∙ at-word (at_tail (at_tail two)) in
      rw (at-word h, at-word (at_tail h)) (rw (at-word two, y, z) refl)
