-- The plan of a list that begins with a symbol, by the form that its name means.
use Rattle.std.proofs.Common.{◌≡◌, ℕ, ◌+◌, ◌-◌, ◌≤◌, min, Bool, true, false, ltb, List, [], ◌∷◌, length, get_or, take, drop, sym, refl, ap, ◌∙◌, subst, arith, length-drop, length-take, eq-eqb, ne_eqb}
use mathlib.Core.Bool.{false≢true}
use Rattle.reading.specs.Limits.{max_bytes}
use Rattle.reading.specs.Pick.{pick}
use Rattle.reading.specs.Bytes.{ascii, begins_with, Span, bytes_at, Maybe, nothing, just, lookup}
use Rattle.reading.specs.Tree.{symbol, Trees, atom, tnil, tcons, trees}
use Rattle.reading.proofs.Bytes.{begins-length}
use Rattle.grammar.specs.Scope.{Scope, var_of}
use Rattle.grammar.specs.Item.{raise, words_of}
use Rattle.grammar.specs.Expr.{Kind, k_bin, op_sub, k_neg, k_is_ctor, kind_items}
use Rattle.grammar.specs.Names.{Form, fixed, many, cast, exists, let_in, lit, minus, is_ctor, apply, keywords}
use Rattle.grammar.specs.ParseSort.{in_list}
use Rattle.grammar.specs.ParseExpr
use Rattle.grammar.specs.ParseExpr.{or_else_form, child_at, plain_at, minus_form, is_ctor_form}
use Rattle.grammar.specs.Written.{W, told, ahead}
use Rattle.writing.specs.Laid.{laid}
use Rattle.places.specs.Outcome.{Put}
use Rattle.plans.specs.Plans.{refused, Listed, PlannedList}
use Rattle.forms.specs.FormNames.{IsOne, IsTwo, IsMany, FormIs}
use Rattle.forms.specs.declared.keywords.Form.{Form as Code}
use Rattle.plans.specs.declared.plan.Plan.{Plan}
use Rattle.plans.specs.declared.plan.Plan.TheVariants.{Go}
use Rattle.words.specs.declared.refusal.Refusal.{Refusal}
use Rattle.words.specs.declared.refusal.Refusal.TheVariants.{Malformed}
use Rattle.std.specs.Prelude.{Result, Ok, Err}
use Rattle.grammar.proofs.AnswerHolds.{AllRows, IfThere, lookup-holds}
use Rattle.grammar.proofs.FormsWritten.{children-count, ahead_nil, ctor-told}
use Rattle.plans.proofs.ListPlans.{head-count, head-start, head-len, head-span, behind_run, made-behind, only_run, only_of, made-only}

-- A form that is not `is$`.
abbrev other_form : Form → Bool
other_form (fixed k n) = true
other_form (many k) = true
other_form cast = true
other_form exists = true
other_form let_in = true
other_form lit = true
other_form minus = true
other_form is_ctor = false
other_form apply = true

keywords-other : AllRows keywords (λ _ f. other_form f ≡ true)
unfolding keywords
keywords-other = (refl, (refl, (refl, (refl, (refl, (refl, (refl, (refl, (refl, (refl, (refl, (refl, (refl, (refl, (refl, (refl, (refl, (refl, (refl, (refl, (refl, (refl, tt))))))))))))))))))))))

-- Only a name that begins so means `is$`.
ctor-begins : (w : List ℕ) → or_else_form (begins_with (ascii "is$") w) (lookup keywords w) ≡ is_ctor → begins_with (ascii "is$") w ≡ true
ctor-begins w e = go (begins_with (ascii "is$") w) (lookup keywords w) (lookup-holds keywords w (λ _ f. other_form f ≡ true) keywords-other) e
  where
    go : (b : Bool) (m : Maybe Form) → IfThere m (λ f. other_form f ≡ true) → or_else_form b m ≡ is_ctor → b ≡ true
    go b (just f) h q = absurd (false≢true (ap other_form (sym q) ∙ h))
    go true nothing h q = refl
    go false nothing h q = absurd (false≢true (ap other_form (sym q)))

module _ (text : List ℕ) (count : ℕ) (ws : List ℕ) (at w next : ℕ) (s : Span) (us : Trees) (h : Listed text ws at w next (tcons (atom (symbol s)) us)) where
  abbrev items : List ParseExpr.Child
  items = ParseExpr.children text (tcons (atom (symbol s)) us)

  -- The form is that of the name, which the code finds in the words.
  pub form_of_lem : (r : Code) {v : List ℕ} → v ≡ bytes_at text (record { start = get_or ws (at + 4) 0; len = get_or ws (at + 5) 0 }) → FormIs (or_else_form (begins_with (ascii "is$") v) (lookup keywords v)) r
      → FormIs (ParseExpr.form_of text s) r
  unfolding ParseExpr.form_of
  form_of_lem r e f = subst (λ v. FormIs (or_else_form (begins_with (ascii "is$") v) (lookup keywords v)) r) (e ∙ ap (bytes_at text) (head-span s us h)) f

  -- A name that begins with `is$` has three bytes of the text.
  pub ctor-room : ParseExpr.form_of text s ≡ is_ctor → (get_or ws (at + 4) 0 + 3 ≤ max_bytes) × (3 ≤ get_or ws (at + 5) 0)
  unfolding ParseExpr.form_of bytes_at
  ctor-room e =
      let k : 3 ≤ length (take s.len (drop s.start text)) = begins-length (ascii "is$") (bytes_at text s) (ctor-begins (bytes_at text s) e) in
      let n : length (take s.len (drop s.start text)) ≡ min s.len (length (drop s.start text)) = length-take s.len (drop s.start text) in
      (omega (arith, k, n, length-drop s.start text, h.bytes, head-start s us h), omega (arith, k, n, head-len s us h))

  module _ (o o' : List ℕ) where
    -- What is left to do of the list, which is to be written as x.
    abbrev Made : W → Result Plan Refusal → Type 0
    Made x r = PlannedList text count ws at w next (tcons (atom (symbol s)) us) h x o o' r

    abbrev whole : W
    whole = told count (ParseExpr.parse_form text (ParseExpr.form_of text s) s items h.scopes next)

    pub made_one : {a n u : ℕ} → IsOne (ParseExpr.form_of text s) a n → Put o w (a ∷ []) o' u → Made whole (Ok (Go (behind_run text count ws at w next s us h o o' n u)))
    unfolding ParseExpr.parse_form raise words_of
    made_one {a} {n} i p = rw i.is (made-behind text count ws at w next s us h o o' i.kind n (a ∷ []) (ap (λ its. words_of (raise count its)) i.words) (omega arith) p)

    pub made-two : {a b n u : ℕ} → IsTwo (ParseExpr.form_of text s) a b n → Put o w (a ∷ b ∷ []) o' u → Made whole (Ok (Go (behind_run text count ws at w next s us h o o' n u)))
    unfolding ParseExpr.parse_form raise words_of
    made-two {a} {b} {n} i p = rw i.is (made-behind text count ws at w next s us h o o' i.kind n (a ∷ b ∷ []) (ap (λ its. words_of (raise count its)) i.words) (omega arith) p)

    pub made-many : {a m u : ℕ} → IsMany (ParseExpr.form_of text s) a → m ≡ get_or ws (at + 1) 0 - 1 → Put o w (a ∷ (get_or ws (at + 1) 0 - 1) ∷ []) o' u → Made whole (Ok (Go (behind_run text count ws at w next s us h o o' m u)))
    unfolding ParseExpr.parse_form raise words_of ParseExpr.child
    made-many {a} {m} {u} i e p =
        let k : length (ParseExpr.children text us) ≡ m = omega (arith, children-count text us, head-count s us h, e) in
        let j : m ≡ get_or ws (at + 1) 0 - 1 = e in
        rw (i.is, k) (made-behind text count ws at w next s us h o o' i.kind m (a ∷ m ∷ []) (ap (λ its. words_of (raise count its)) (i.words m)) (omega arith) (subst (λ l. Put o w (a ∷ l ∷ []) o' u) (sym j) p))

    only-plain : (vs : Trees) (sc : List Scope) (n : ℕ) → told count (plain_at (ParseExpr.children text (tcons (atom (symbol s)) vs)) 1 sc n) ≡ ahead [] (only_of text count vs sc n)
    unfolding plain_at child_at ParseExpr.child
    only-plain tnil sc n = refl
    only-plain (tcons t ts) sc n = sym (ahead_nil _)

    pub made-cast : {r : Result Plan Refusal} {u : ℕ} → ParseExpr.form_of text s ≡ cast → o' ≡ o → u ≡ w → r ≡ pick (ltb (get_or ws (at + 1) 0) 2) (Err Malformed) (Ok (Go (only_run at u))) → Made whole r
    unfolding ParseExpr.parse_form laid
    made-cast f p e q = rw (q, f) (made-only text count ws at w next s o o' _ [] _ us h (only-plain us h.scopes next) (omega arith) (record { is = omega (arith, e); words = p }))

    abbrev ctor : Kind
    ctor = k_is_ctor (var_of (record { start = s.start + 3; len = s.len - 3 }))

    only-ctor : (vs : Trees) (sc : List Scope) (n : ℕ) → told count (is_ctor_form s (ParseExpr.children text (tcons (atom (symbol s)) vs)) sc n) ≡ ahead (50 ∷ (s.start + 3) ∷ (s.len - 3) ∷ []) (only_of text count vs sc n)
    unfolding is_ctor_form plain_at child_at ParseExpr.child kind_items raise words_of
    only-ctor tnil sc n = refl
    only-ctor (tcons t ts) sc n = ctor-told text count ctor ((ParseExpr.child text t).plainly sc n)

    pub made-ctor : {r : Result Plan Refusal} {u : ℕ} → ParseExpr.form_of text s ≡ is_ctor → Put o w (50 ∷ (get_or ws (at + 4) 0 + 3) ∷ (get_or ws (at + 5) 0 - 3) ∷ []) o' u → r ≡ pick (ltb (get_or ws (at + 1) 0) 2) (Err Malformed) (Ok (Go (only_run at u))) → Made whole r
    unfolding ParseExpr.parse_form
    made-ctor {u = u} f p q =
        rw (q, f)
        (made-only text count ws at w next s o o' _ (50 ∷ (s.start + 3) ∷ (s.len - 3) ∷ []) _ us h (only-ctor us h.scopes next) (omega arith)
        (subst (λ k. Put o w (50 ∷ (k + 3) ∷ (s.len - 3) ∷ []) o' u) (head-start s us h) (subst (λ l. Put o w (50 ∷ (get_or ws (at + 4) 0 + 3) ∷ (l - 3) ∷ []) o' u) (head-len s us h) p)))

    -- A form of its own.
    pub made_other : (r : Result Plan Refusal) (f : Form) → ParseExpr.form_of text s ≡ f → Made (told count (ParseExpr.parse_form text f s items h.scopes next)) r → Made whole r
    made_other r f e p = rw e p

    pub made-apply : ParseExpr.form_of text s ≡ apply → Made whole (Err Malformed)
    unfolding ParseExpr.parse_form ParseExpr.apply_form in_list child_at ParseExpr.child ParseExpr.atom_child
    made-apply e = rw e (refused refl)

    -- `(- a)` is Neg, with any other number of items it is Sub.
    pub minus_neg : {u : ℕ} → get_or ws (at + 1) 0 ≡ 2 → Put o w (39 ∷ []) o' u → Made (told count (minus_form items h.scopes next)) (Ok (Go (behind_run text count ws at w next s us h o o' 1 u)))
    unfolding minus_form pick kind_items raise words_of trees
    minus_neg e p =
        rw (eq-eqb (length items) 2 (children-count text (tcons (atom (symbol s)) us) ∙ sym (head-count s us h) ∙ e))
        (made-behind text count ws at w next s us h o o' k_neg 1 (39 ∷ []) refl (omega arith) p)

    pub minus_sub : {u : ℕ} → (get_or ws (at + 1) 0 ≡ 2 → ⊥) → Put o w (40 ∷ 1 ∷ []) o' u → Made (told count (minus_form items h.scopes next)) (Ok (Go (behind_run text count ws at w next s us h o o' 2 u)))
    unfolding minus_form pick kind_items raise words_of trees
    minus_sub e p =
        rw (ne_eqb (length items) 2 (λ q. e (head-count s us h ∙ sym (children-count text (tcons (atom (symbol s)) us)) ∙ q)))
        (made-behind text count ws at w next s us h o o' (k_bin op_sub) 2 (40 ∷ 1 ∷ []) refl (omega arith) p)
