-- The text of a term by what stands in front of its operands, between them and behind them.
use Prim.Native.Nat.{ℕ, suc}
use mathlib.Core.Bool.{Bool, true, false}
use mathlib.Core.Path.{◌≡◌, sym, ap, ◌∙◌}
use mathlib.Core.List.{List, [], ◌∷◌, ◌++◌, append-nil}
use native.Mathlib.Omega.{arith}
use lib.Dec.{eqb, leb}
use borrow.Author.Tests.{le-leb}
use Rattle.reading.specs.Pick.{pick}
use Rattle.reading.specs.Answer.{Refusal, Ans, got, bad, unwritable}
use Rattle.smt.specs.Sexp.{print, spaced}
use Rattle.smt.specs.Term.{Ident, Term, Terms, tid, tapp, tlet, texists, bnil, tnil, tcons, terms, ident_sx, term_sx, term_sxs}
use Rattle.smt.specs.Writer.{Form, alone, operator, folded, letting, some, applying, formed}
use Rattle.smt.proofs.Text.{applied-text, let-text, exists-text}
use Rattle.smtoperators.specs.Operators.{operator_text}
use Rattle.smtseams.specs.Seams.{seam_of, close_text}
use Rattle.smtfronts.specs.Fronts.{front_of, form_lets, form_closes}

-- The texts of terms, with these bytes between them.
unfoldable pub between : List ℕ → Terms → List ℕ
between seam tnil = []
between seam (tcons t tnil) = print (term_sx t)
between seam (tcons t (tcons u us)) = print (term_sx t) ++ (seam ++ between seam (tcons u us))

-- A refusal is no answer.
pub never-got : {P A : Type 0} {r : Refusal} {a : A} → bad r ≡ got a → P
never-got e = let z : ◌≡◌ {A = ℕ} 0 1 = cc in absurd (omega arith)

-- Terms one space apart.
spaced-between : (t : Term) (ts : Terms) → print (term_sx t) ++ spaced (term_sxs ts) ≡ between (seam_of false) (tcons t ts)
unfolding print term_sx between
spaced-between t tnil = append-nil (print (term_sx t))
spaced-between t (tcons u us) = ap (λ l. print (term_sx t) ++ (32 ∷ l)) (spaced-between u us)

-- An application.
pub applied-between : (i : Ident) (t : Term) (ts : Terms) → print (term_sx (tapp i t ts)) ≡ operator_text (print (ident_sx i)) ++ (between (seam_of false) (tcons t ts) ++ (41 ∷ []))
unfolding print term_sx
applied-between i t ts = applied-text i t ts ∙ ap (λ l. operator_text (print (ident_sx i)) ++ (l ++ (41 ∷ []))) (spaced-between t ts)

-- An operator with its operands.
operator-text : (i : Ident) (ts : Terms) {t : Term} → applying i ts ≡ got t → print (term_sx t) ≡ operator_text (print (ident_sx i)) ++ (between (seam_of false) ts ++ (41 ∷ []))
operator-text i tnil e = never-got e
operator-text i (tcons u us) {t} e =
    let z : tapp i u us ≡ t = cc in
    ap (λ (x : Term). print (term_sx x)) (sym z) ∙ applied-between i u us

counted : (b : Bool) (x : Ans Term) {t : Term} → pick b x (bad unwritable) ≡ got t → x ≡ got t
unfolding pick
counted true x e = e
counted false x e = never-got e

-- The text of a form with its operands.
by_form : (f : Form) (ts : Terms) {t : Term} → formed f ts ≡ got t → print (term_sx t) ≡ front_of f (terms ts) ++ (between (seam_of (form_lets f)) ts ++ close_text (form_closes f (terms ts)))
unfolding formed front_of form_lets form_closes terms between term_sx
by_form (alone u) tnil {t} e =
    let z : u ≡ t = cc in
    ap (λ (x : Term). print (term_sx x)) (sym z) ∙ sym (append-nil (print (term_sx u)))
by_form (alone u) (tcons v vs) e = never-got e
by_form (operator i k) ts e = operator-text i ts (counted (eqb (terms ts) k) (applying i ts) e)
by_form (folded unit i) tnil {t} e =
    let z : tid unit ≡ t = cc in
    ap (λ (x : Term). print (term_sx x)) (sym z) ∙ sym (append-nil (print (ident_sx unit)))
by_form (folded unit i) (tcons u tnil) {t} e =
    let z : u ≡ t = cc in
    ap (λ (x : Term). print (term_sx x)) (sym z) ∙ sym (append-nil (print (term_sx u)))
by_form (folded unit i) (tcons u (tcons v vs)) {t} e =
    let z : tapp i u (tcons v vs) ≡ t = cc in
    let two : leb 2 (suc (suc (terms vs))) ≡ true = le-leb 2 (suc (suc (terms vs))) (omega arith) in
    ap (λ (x : Term). print (term_sx x)) (sym z)
    ∙ applied-between i u (tcons v vs)
    ∙ ap (λ (b : Bool). operator_text (print (ident_sx i)) ++ (between (seam_of false) (tcons u (tcons v vs)) ++ close_text b)) (sym two)
by_form (letting x) tnil e = never-got e
by_form (letting x) (tcons u tnil) e = never-got e
by_form (letting x) (tcons u (tcons v tnil)) {t} e =
    let z : tlet x u bnil v ≡ t = cc in
    ap (λ (x : Term). print (term_sx x)) (sym z) ∙ let-text x u v
by_form (letting x) (tcons u (tcons v (tcons w ws))) e = never-got e
by_form (some []) tnil e = never-got e
by_form (some []) (tcons u tnil) {t} e =
    let z : u ≡ t = cc in
    ap (λ (x : Term). print (term_sx x)) (sym z) ∙ sym (append-nil (print (term_sx u)))
by_form (some []) (tcons u (tcons v vs)) e = never-got e
by_form (some (y ∷ ys)) tnil e = never-got e
by_form (some (y ∷ ys)) (tcons u tnil) {t} e =
    let z : texists y ys u ≡ t = cc in
    ap (λ (x : Term). print (term_sx x)) (sym z) ∙ exists-text y ys u
by_form (some (y ∷ ys)) (tcons u (tcons v vs)) e = never-got e

pub formed-text : (f : Form) (ts : Terms) {t : Term} {n : ℕ} → terms ts ≡ n → formed f ts ≡ got t → print (term_sx t) ≡ front_of f n ++ (between (seam_of (form_lets f)) ts ++ close_text (form_closes f n))
formed-text f ts {t} {n} h e = rw (h) at (by_form f ts e)
