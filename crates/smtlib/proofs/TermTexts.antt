-- The bytes of a term, by its front, its operands and what stands behind them.
use Prim.Native.Nat.{ℕ, suc}
use mathlib.Core.Bool.{false}
use mathlib.Core.Path.{◌≡◌, refl, sym, ap, ◌∙◌}
use mathlib.Core.List.{List, [], ◌∷◌, ◌++◌}
use native.Mathlib.Omega.{arith}
use Rattle.reading.specs.Bytes.{Maybe}
use Rattle.reading.specs.Answer.{Refusal, Ans, got, bad, and_then}
use Rattle.grammar.specs.Sort.{Sort}
use Rattle.grammar.specs.Expr.{Kind, k_num, k_bool, k_str, k_bit_vec, k_fresh, k_named, k_neg, k_bin, k_if, k_and, k_or, k_not, k_imp, k_iff, k_atom, k_let, k_theory, k_is_ctor, k_exists, k_let_fresh, Expr, Exprs, node, app, enil, econs, exprs}
use Rattle.grammar.specs.Shape.{HasOperands}
use Rattle.smt.specs.Sexp.{print}
use Rattle.smt.specs.Term.{Ident, ident_sx, Term, Terms, tnil, tcons, term_sx, terms}
use Rattle.smt.specs.Writer.{Form, formed, fields_of, application, head_kind, head_of, term_of, terms_of}
use Rattle.smtnames.specs.Pieces.{joined, ident_text}
use Rattle.smtlib.specs.Terms.{term_text, seamed}
use Rattle.smtseams.specs.Seams.{seam_of, close_text}
use Rattle.smtfronts.specs.Fronts.{front_of, front_text, form_lets, form_closes}
use Rattle.smtfronts.proofs.FrontsTerm.{between, applied-between, formed-text}
use Rattle.smtfronts.proofs.FrontsFormed.{kind_becomes}

module _ (text : List ℕ) where
  -- Terms with a seam between them, all at once.
  pub seamed-terms : (seam : List ℕ) (es : Exprs) → seamed text seam es ≡ and_then (terms_of text es) λ ts. got (between seam ts)
  unfolding seamed term_text terms_of between joined
  seamed-terms seam enil = refl
  seamed-terms seam (econs e enil) = go (term_of text e)
    where
      go : (x : Ans Term) → and_then x (λ t. got (print (term_sx t))) ≡ and_then (and_then x λ t. got (tcons t tnil)) λ ts. got (between seam ts)
      go (got t) = refl
      go (bad r) = refl
  seamed-terms seam (econs e (econs f fs)) = go (term_of text e) (term_of text f) (terms_of text fs) (seamed-terms seam (econs f fs))
    where
      go : (x y : Ans Term) (z : Ans Terms) → seamed text seam (econs f fs) ≡ and_then (and_then y λ u. and_then z λ us. got (tcons u us)) (λ ts. got (between seam ts))
          → joined (and_then x λ t. got (print (term_sx t))) (joined (got seam) (seamed text seam (econs f fs))) ≡ and_then (and_then x λ t. and_then (and_then y λ u. and_then z λ us. got (tcons u us)) λ ts. got (tcons t ts)) λ ts. got (between seam ts)
      go (bad r) y z h = refl
      go (got t) (bad r) z h = rw h refl
      go (got t) (got u) (bad r) h = rw h refl
      go (got t) (got u) (got us) h = rw h refl

  pub terms-count : (es : Exprs) (ts : Terms) → terms_of text es ≡ got ts → terms ts ≡ exprs es
  unfolding terms_of terms exprs
  terms-count enil ts e = let z : ts ≡ tnil = cc in rw z refl
  terms-count (econs e es) ts h = go (term_of text e) (terms_of text es) refl h (λ us q. terms-count es us q)
    where
      go : (x : Ans Term) (y : Ans Terms) → terms_of text es ≡ y → and_then x (λ t. and_then y λ us. got (tcons t us)) ≡ got ts → ((us : Terms) → terms_of text es ≡ got us → terms us ≡ exprs es) → terms ts ≡ suc (exprs es)
      go (bad r) y q k ih = let z : ◌≡◌ {A = ℕ} 0 1 = cc in absurd (omega arith)
      go (got t) (bad r) q k ih = let z : ◌≡◌ {A = ℕ} 0 1 = cc in absurd (omega arith)
      go (got t) (got us) q k ih = let z : ts ≡ tcons t us = cc in rw z (ap suc (ih us q))

  -- A kind and its operands.
  module _ (k : Kind) (es : Exprs) where
    pub node-bad : {r : Refusal} (n : ℕ) → front_text text k n ≡ bad r → term_text text (node k es) ≡ bad r
    unfolding term_text term_of front_text
    node-bad {r} n h = go (fields_of text k) h
      where
        go : (x : Ans Form) → and_then x (λ f. got (front_of f n)) ≡ bad r → and_then (and_then x λ f. and_then (terms_of text es) λ ts. formed f ts) (λ t. got (print (term_sx t))) ≡ bad r
        go (got f) q = let z : ◌≡◌ {A = ℕ} 0 1 = cc in absurd (omega arith)
        go (bad s) q = let z : s ≡ r = cc in rw z refl

    module _ (n : ℕ) (has : HasOperands k n) (count : exprs es ≡ n) (f : Form) (fields : fields_of text k ≡ got f) where
      pub node_operand : {r : Refusal} → seamed text (seam_of (form_lets f)) es ≡ bad r → term_text text (node k es) ≡ bad r
      unfolding term_text term_of
      node_operand {r} h = rw fields (go (terms_of text es) (sym (seamed-terms (seam_of (form_lets f)) es) ∙ h))
        where
          go : (y : Ans Terms) → and_then y (λ ts. got (between (seam_of (form_lets f)) ts)) ≡ bad r → and_then (and_then y λ ts. formed f ts) (λ t. got (print (term_sx t))) ≡ bad r
          go (got ts) q = let z : ◌≡◌ {A = ℕ} 0 1 = cc in absurd (omega arith)
          go (bad s) q = let z : s ≡ r = cc in rw z refl

      pub node-got : {xs : List ℕ} → seamed text (seam_of (form_lets f)) es ≡ got xs → term_text text (node k es) ≡ got (front_of f n ++ (xs ++ close_text (form_closes f n)))
      unfolding term_text term_of
      node-got {xs} h = rw fields (go (terms_of text es) refl (sym (seamed-terms (seam_of (form_lets f)) es) ∙ h))
        where
          go : (y : Ans Terms) → terms_of text es ≡ y → and_then y (λ ts. got (between (seam_of (form_lets f)) ts)) ≡ got xs → and_then (and_then y λ ts. formed f ts) (λ t. got (print (term_sx t))) ≡ got (front_of f n ++ (xs ++ close_text (form_closes f n)))
          go (bad s) q p = let z : ◌≡◌ {A = ℕ} 0 1 = cc in absurd (omega arith)
          go (got ts) q p =
              let c : terms ts ≡ n = terms-count es ts q ∙ count in
              let t = kind_becomes text k ts (rw (← c) at has) fields in
              let z : between (seam_of (form_lets f)) ts ≡ xs = cc in
              rw t.1 (ap got (formed-text f ts c t.1 ∙ ap (λ (l : List ℕ). front_of f n ++ (l ++ close_text (form_closes f n))) z))

  -- An application without arguments is its head.
  pub app-none : (o : Maybe Sort) (h : Expr) → term_text text (app o enil h) ≡ term_text text h
  unfolding term_text term_of
  app-none o h = refl

  -- Arguments come before the head.
  module _ (o : Maybe Sort) (e : Expr) (es : Exprs) (h : Expr) where
    pub app_argument : {r : Refusal} → seamed text (seam_of false) (econs e es) ≡ bad r → term_text text (app o (econs e es) h) ≡ bad r
    unfolding term_text term_of
    app_argument {r} q = go (terms_of text (econs e es)) (sym (seamed-terms (seam_of false) (econs e es)) ∙ q)
      where
        go : (y : Ans Terms) → and_then y (λ ts. got (between (seam_of false) ts)) ≡ bad r → and_then (and_then y λ ts. application ts (head_of text h) (term_of text h)) (λ t. got (print (term_sx t))) ≡ bad r
        go (got ts) p = let z : ◌≡◌ {A = ℕ} 0 1 = cc in absurd (omega arith)
        go (bad s) p = let z : s ≡ r = cc in rw z refl

    some-terms : {ts : Terms} → terms_of text (econs e es) ≡ got ts → (t : Term) × (us : Terms) × (ts ≡ tcons t us)
    unfolding terms_of
    some-terms {ts} q = go (term_of text e) (terms_of text es) q
      where
        go : (x : Ans Term) (y : Ans Terms) → and_then x (λ t. and_then y λ us. got (tcons t us)) ≡ got ts → (t : Term) × (us : Terms) × (ts ≡ tcons t us)
        go (bad r) y p = let z : ◌≡◌ {A = ℕ} 0 1 = cc in absurd (omega arith)
        go (got t) (bad r) p = let z : ◌≡◌ {A = ℕ} 0 1 = cc in absurd (omega arith)
        go (got t) (got us) p = (t, us, cc)

    pub app-head : {xs : List ℕ} {r : Refusal} → seamed text (seam_of false) (econs e es) ≡ got xs → ident_text (head_of text h) ≡ bad r → term_text text (app o (econs e es) h) ≡ bad r
    unfolding term_text term_of ident_text
    app-head {xs} {r} q p = go (terms_of text (econs e es)) refl (sym (seamed-terms (seam_of false) (econs e es)) ∙ q)
      where
        named : (x : Ans Ident) (t : Term) (us : Terms) → and_then x (λ i. got (print (ident_sx i))) ≡ bad r → and_then (application (tcons t us) x (term_of text h)) (λ t. got (print (term_sx t))) ≡ bad r
        named (got i) t us s = let z : ◌≡◌ {A = ℕ} 0 1 = cc in absurd (omega arith)
        named (bad f) t us s = let z : f ≡ r = cc in rw z refl

        go : (y : Ans Terms) → terms_of text (econs e es) ≡ y → and_then y (λ ts. got (between (seam_of false) ts)) ≡ got xs → and_then (and_then y λ ts. application ts (head_of text h) (term_of text h)) (λ t. got (print (term_sx t))) ≡ bad r
        go (bad s) w v = let z : ◌≡◌ {A = ℕ} 0 1 = cc in absurd (omega arith)
        go (got ts) w v = let u = some-terms w in rw u.2 (named (head_of text h) u.0 u.1 p)

    pub app-got : {xs ys : List ℕ} → seamed text (seam_of false) (econs e es) ≡ got xs → ident_text (head_of text h) ≡ got ys → term_text text (app o (econs e es) h) ≡ got ((40 ∷ ys ++ (32 ∷ [])) ++ (xs ++ (41 ∷ [])))
    unfolding term_text term_of ident_text
    app-got {xs} {ys} q p = go (terms_of text (econs e es)) refl (sym (seamed-terms (seam_of false) (econs e es)) ∙ q)
      where
        named : (x : Ans Ident) (t : Term) (us : Terms) → and_then x (λ i. got (print (ident_sx i))) ≡ got ys → between (seam_of false) (tcons t us) ≡ xs → and_then (application (tcons t us) x (term_of text h)) (λ t. got (print (term_sx t))) ≡ got ((40 ∷ ys ++ (32 ∷ [])) ++ (xs ++ (41 ∷ [])))
        named (bad f) t us s b = let z : ◌≡◌ {A = ℕ} 0 1 = cc in absurd (omega arith)
        named (got i) t us s b = let z : print (ident_sx i) ≡ ys = cc in ap got (applied-between i t us ∙ rw (z, b) refl)

        go : (y : Ans Terms) → terms_of text (econs e es) ≡ y → and_then y (λ ts. got (between (seam_of false) ts)) ≡ got xs → and_then (and_then y λ ts. application ts (head_of text h) (term_of text h)) (λ t. got (print (term_sx t))) ≡ got ((40 ∷ ys ++ (32 ∷ [])) ++ (xs ++ (41 ∷ [])))
        go (bad s) w v = let z : ◌≡◌ {A = ℕ} 0 1 = cc in absurd (omega arith)
        go (got ts) w v =
            let u = some-terms w in
            let z : between (seam_of false) ts ≡ xs = cc in
            rw u.2 (named (head_of text h) u.0 u.1 p (ap (between (seam_of false)) (sym u.2) ∙ z))

  -- A kind that takes operands is no head.
  pub head-operands : (k : Kind) (e : Expr) (es : Exprs) → HasOperands k (exprs (econs e es)) → head_kind text k ≡ head_of text (node k (econs e es))
  unfolding head_kind head_of exprs
  head-operands (k_num v) e es h = refl
  head-operands (k_bool b) e es h = refl
  head-operands (k_str s) e es h = refl
  head-operands (k_bit_vec v width) e es h = refl
  head-operands (k_fresh k) e es h = absurd (omega (arith, h))
  head-operands (k_named x) e es h = absurd (omega (arith, h))
  head-operands k_neg e es h = refl
  head-operands (k_bin op) e es h = refl
  head-operands k_if e es h = refl
  head-operands k_and e es h = refl
  head-operands k_or e es h = refl
  head-operands k_not e es h = refl
  head-operands k_imp e es h = refl
  head-operands k_iff e es h = refl
  head-operands (k_atom r) e es h = refl
  head-operands (k_let x) e es h = refl
  head-operands (k_theory k) e es h = absurd (omega (arith, h))
  head-operands (k_is_ctor x) e es h = refl
  head-operands (k_exists bs) e es h = refl
  head-operands (k_let_fresh k) e es h = refl

  pub head-kind : (k : Kind) (es : Exprs) → HasOperands k (exprs es) → head_kind text k ≡ head_of text (node k es)
  unfolding head_of
  head-kind k enil h = refl
  head-kind k (econs e es) h = head-operands k e es h
