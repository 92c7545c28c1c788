-- The bytes of a sort by what is told of it: those before the sorts inside it, these one space apart, and a parenthesis.
use Prim.Native.Nat.{ℕ, zero, suc}
use mathlib.Core.Bool.{Bool, true, false}
use mathlib.Core.Path.{◌≡◌, refl, ap, ◌∙◌}
use mathlib.Core.List.{List, [], ◌∷◌, ◌++◌, append_assoc}
use native.Mathlib.Omega.{arith}
use lib.Dec.{eqb}
use borrow.Author.Tests.{ne_eqb}
use Rattle.reading.specs.Pick.{pick}
use Rattle.reading.specs.Bytes.{ascii, Span}
use Rattle.reading.specs.Answer.{Ans, got, bad, and_then, check, unwritable}
use Rattle.grammar.specs.Sort.{c_map, c_data, Sort, Sorts, s_int, s_bool, s_real, s_str, s_bit_vec, s_size, s_app, snil, scons, sorts}
use Rattle.smt.specs.Sexp.{print, spaced}
use Rattle.smt.specs.Term.{Ident, plain_ident, SmtSort, SmtSorts, srt, rnil, rcons, ident_sx, sort_sx, sort_sxs}
use Rattle.smt.specs.Writer.{plainly, width_of, bytes_of, symbol_of, sort_of, sorts_of}
use Rattle.smt.specs.Compute.{smt_computes}
use Rattle.smt.proofs.Text.{barred_text, width-text}
use Rattle.smtnames.specs.Pieces.{joined, sort_text, name_text}
use Rattle.smtsorts.specs.SortNode.{width_text, array_text, data_text}

-- A space before each sort.
unfoldable pub spaced_text : List ℕ → Sorts → Ans (List ℕ)
spaced_text text snil = got []
spaced_text text (scons s ss) = joined (got (32 ∷ [])) (joined (sort_text text s) (spaced_text text ss))

-- One more sort.
spaced-one : (x : Ans SmtSort) (y : Ans SmtSorts)
    → and_then (and_then x λ t. and_then y λ ts. got (rcons t ts)) (λ ts. got (spaced (sort_sxs ts))) ≡ joined (got (32 ∷ [])) (joined (and_then x λ t. got (print (sort_sx t))) (and_then y λ ts. got (spaced (sort_sxs ts))))
unfolding joined print sort_sx
spaced-one (bad r) y = refl
spaced-one (got t) (bad r) = refl
spaced-one (got t) (got ts) = refl

spaced-is : (text : List ℕ) (ss : Sorts) → and_then (sorts_of text ss) (λ ts. got (spaced (sort_sxs ts))) ≡ spaced_text text ss
unfolding sort_of spaced_text sort_text print sort_sx
spaced-is text snil = refl
spaced-is text (scons s ss) =
    spaced-one (sort_of text s) (sorts_of text ss) ∙ ap (λ z. joined (got (32 ∷ [])) (joined (sort_text text s) z)) (spaced-is text ss)

-- An identifier in front of one sort or more.
around : (i : Ident) (x : Ans SmtSort) (y : Ans SmtSorts)
    → and_then (and_then x λ t. and_then y λ ts. got (rcons t ts)) (λ ts. got (print (sort_sx (srt i ts)))) ≡ joined (got (40 ∷ print (ident_sx i) ++ (32 ∷ []))) (joined (and_then x λ t. got (print (sort_sx t))) (joined (and_then y λ ts. got (spaced (sort_sxs ts))) (got (41 ∷ []))))
unfolding joined print sort_sx
around i (bad r) y = refl
around i (got t) (bad r) = refl
around i (got t) (got ts) = ap (λ l. got (40 ∷ l)) (regroup (print (ident_sx i)) (print (sort_sx t)) (spaced (sort_sxs ts)))
  where
    regroup : (a b c : List ℕ) → (a ++ (32 ∷ b ++ c)) ++ (41 ∷ []) ≡ (a ++ (32 ∷ [])) ++ (b ++ (c ++ (41 ∷ [])))
    regroup a b c = simp append_assoc

around-is : (text : List ℕ) (i : Ident) (t : Sort) (ts : Sorts)
    → and_then (sorts_of text (scons t ts)) (λ us. got (print (sort_sx (srt i us)))) ≡ joined (got (40 ∷ print (ident_sx i) ++ (32 ∷ []))) (joined (sort_text text t) (joined (spaced_text text ts) (got (41 ∷ []))))
unfolding sort_of sort_text
around-is text i t ts =
    around i (sort_of text t) (sorts_of text ts)
    ∙ ap (λ z. joined (got (40 ∷ print (ident_sx i) ++ (32 ∷ []))) (joined (sort_text text t) (joined z (got (41 ∷ []))))) (spaced-is text ts)

-- Symbols: SMT-LIB's own, and a Data sort's.
array_ident : 40 ∷ print (ident_sx (plainly "Array")) ++ (32 ∷ []) ≡ ascii "(Array "
unfolding smt_computes
array_ident = refl

data_ident : (name : List ℕ) → print (ident_sx (plain_ident (ascii "s " ++ name))) ≡ 124 ∷ 115 ∷ 32 ∷ name ++ (124 ∷ [])
unfolding print
data_ident name = barred_text 115 name

-- One value behind another.
fused : {A B : Type 0} (y : Ans A) (f : A → B) (g : B → List ℕ) → and_then (and_then y λ a. got (f a)) (λ b. got (g b)) ≡ and_then y (λ a. got (g (f a)))
fused (got a) f g = refl
fused (bad r) f g = refl

-- An Array's sorts, if there are two.
array_one : (b : Bool) (y : Ans SmtSorts) (z : Ans (List ℕ)) → and_then y (λ us. got (print (sort_sx (srt (plainly "Array") us)))) ≡ joined (got (40 ∷ print (ident_sx (plainly "Array")) ++ (32 ∷ []))) z
    → and_then (and_then (check b unwritable) λ _. and_then y λ us. got (srt (plainly "Array") us)) (λ t. got (print (sort_sx t))) ≡ joined (pick b (got (ascii "(Array ")) (bad unwritable)) z
unfolding joined pick
array_one false y z e = refl
array_one true y z e = fused y (srt (plainly "Array")) (λ t. print (sort_sx t)) ∙ e ∙ ap (λ l. joined (got l) z) array_ident

pub array_inside : (text : List ℕ) (t : Sort) (ts : Sorts) → sort_text text (s_app c_map (scons t ts)) ≡ joined (array_text (sorts (scons t ts))) (joined (sort_text text t) (joined (spaced_text text ts) (got (41 ∷ []))))
unfolding sort_text sort_of array_text
array_inside text t ts =
    array_one (eqb (sorts (scons t ts)) 2) (sorts_of text (scons t ts)) _ (around-is text (plainly "Array") t ts)

-- A Data sort's sorts.
data_one : (x : Ans (List ℕ)) (y : Ans SmtSorts) (z : Ans (List ℕ)) → ((i : Ident) → and_then y (λ us. got (print (sort_sx (srt i us)))) ≡ joined (got (40 ∷ print (ident_sx i) ++ (32 ∷ []))) z)
    → and_then (and_then (and_then x λ name. got (ascii "s " ++ name)) λ name. and_then y λ us. got (srt (plain_ident name) us)) (λ t. got (print (sort_sx t)))
    ≡ joined (joined (got (40 ∷ [])) (joined (and_then x λ name. got (124 ∷ 115 ∷ 32 ∷ name ++ (124 ∷ []))) (got (32 ∷ [])))) z
unfolding joined
data_one (bad r) y z e = refl
data_one (got name) y z e =
    fused y (srt (plain_ident (ascii "s " ++ name))) (λ t. print (sort_sx t))
    ∙ e (plain_ident (ascii "s " ++ name))
    ∙ ap (λ l. joined (got (40 ∷ l ++ (32 ∷ []))) z) (data_ident name)

pub data_inside : (text : List ℕ) (s : Span) (t : Sort) (ts : Sorts) → sort_text text (s_app (c_data s) (scons t ts)) ≡ joined (data_text text s (sorts (scons t ts))) (joined (sort_text text t) (joined (spaced_text text ts) (got (41 ∷ []))))
unfolding sort_text sort_of symbol_of data_text name_text sorts
data_inside text s t ts = data_one (bytes_of text s) (sorts_of text (scons t ts)) _ (λ i. around-is text i t ts)

-- A Data sort without sorts.
data_alone : (x : Ans (List ℕ)) → and_then (and_then (and_then x λ name. got (ascii "s " ++ name)) λ name. got (srt (plain_ident name) rnil)) (λ t. got (print (sort_sx t))) ≡ and_then x λ name. got (124 ∷ 115 ∷ 32 ∷ name ++ (124 ∷ []))
unfolding sort_sx
data_alone (bad r) = refl
data_alone (got name) = ap got (data_ident name)

pub data_leaf : (text : List ℕ) (s : Span) → sort_text text (s_app (c_data s) snil) ≡ data_text text s (sorts snil)
unfolding sort_text sort_of symbol_of data_text name_text sorts
data_leaf text s = data_alone (bytes_of text s)

-- A BitVec.
pub width-leaf : (text : List ℕ) (w : ℕ) → sort_text text (s_bit_vec (s_size w)) ≡ width_text w
unfolding sort_text sort_of width_of pick width_text sort_sx
width-leaf text zero = refl
width-leaf text (suc w) =
    let z : eqb (suc w) 0 ≡ false = ne_eqb (suc w) 0 (λ e. omega (arith, e)) in
    rw z (ap got (width-text (suc w)))

-- Sorts by their names.
pub int_leaf : (text : List ℕ) → sort_text text s_int ≡ got (ascii "Int")
unfolding sort_text smt_computes
int_leaf text = refl

pub bool_leaf : (text : List ℕ) → sort_text text s_bool ≡ got (ascii "Bool")
unfolding sort_text smt_computes
bool_leaf text = refl

pub real_leaf : (text : List ℕ) → sort_text text s_real ≡ got (ascii "Real")
unfolding sort_text smt_computes
real_leaf text = refl

pub string-leaf : (text : List ℕ) → sort_text text s_str ≡ got (ascii "String")
unfolding sort_text smt_computes
string-leaf text = refl
