-- The body of a solution: it is read under the parameters as its one scope, and then no name may stand there twice.
use Prim.Native.Nat.{ℕ, ◌+◌, ◌≤◌}
use mathlib.Core.Path.{◌≡◌, refl, sym, ap, ◌∙◌}
use mathlib.Core.Bool.{Bool, true, false}
use mathlib.Core.List.{List, [], ◌∷◌}
use native.Mathlib.Omega.{arith}
use native.Mathlib.Nat.{zero-add}
use lib.ListN.{length}
use borrow.Author.Tests.{ne_eqb}
use Rattle.reading.specs.Limits.{max_lists}
use Rattle.reading.specs.Pick.{pick}
use Rattle.reading.specs.Bytes.{Span}
use Rattle.reading.specs.Tree.{nesting}
use Rattle.reading.specs.Answer.{Res, ok, no, chain, lifted}
use Rattle.grammar.specs.Expr.{Expr, expr_items}
use Rattle.grammar.specs.Scope.{Scope, repeated, distinct}
use Rattle.grammar.specs.ParseExpr
use Rattle.scopes.specs.Scopes.{Opened, slots, pushed, deeper, inner}
use Rattle.plans.specs.Plans.{Parsed, wrote, refused, Here}
use Rattle.grammar.specs.Written.{told}
use Rattle.grammar.specs.Item.{raised_words}
use Rattle.solutions.specs.PartsWords.{BodyHere, body_of, BodyDone, body_wrote, body_refused}
use Rattle.plans.specs.declared.progress.Progress.{Progress}
use Rattle.std.specs.Prelude.{Result, Ok, Err}
use Rattle.words.specs.declared.refusal.Refusal.{Refusal}
use Rattle.words.specs.declared.refusal.Refusal.TheVariants as refusal
use Rattle.words.specs.Refusals.{refusal_of}
use Rattle.plans.proofs.Laid.{never, same-words, same_next}
use Rattle.scopes.proofs.Frame.{pushed-length, pushed-opened, deeper-most}

module _ (text : List ℕ) (names : List Span) where
  -- 10 comes behind it.
  abbrev distinctly : Res Expr → Res Expr
  distinctly x = chain x (λ e n. chain (lifted (distinct text names) n) (λ _ m. ok e m))

  module _ (count u : ℕ) {d d' : List ℕ} {b : ℕ} {p : Result Progress Refusal} where
    done_refused : (x : Res Expr) {k : Refusal} → Parsed (told count x) 0 d d' b p → p ≡ Err k → BodyDone count u d d' (distinctly x) (Err k)
    done_refused (ok e m) (wrote y) q = never y.is q
    done_refused (no r) {k} (refused y) q = let z : k ≡ refusal_of r = cc in body_refused (ap Err z)

    done_twice : (x : Res Expr) {done : Progress} → Parsed (told count x) 0 d d' b p → p ≡ Ok done → repeated text names ≡ true → BodyDone count u d d' (distinctly x) (Err refusal.RepeatedName)
    unfolding distinct
    done_twice (ok e m) (wrote y) q t = rw t (body_refused refl)
    done_twice (no r) (refused y) q t = never q y

    done-wrote : (x : Res Expr) {done : Progress} → Parsed (told count x) 0 d d' b p → p ≡ Ok done → repeated text names ≡ false → BodyDone count u d d' (distinctly x) (Ok (record { params = u; body = done.words; fresh = done.next }))
    unfolding distinct
    done-wrote (ok e m) {done} (wrote y) q t =
        let a : done.words ≡ length (raised_words expr_items count e) = same-words q y.is ∙ zero-add _ in
        let z : done.next ≡ m = same_next q y.is in
        rw (t, a, z) (body_wrote refl y.words)
    done-wrote (no r) (refused y) q t = never q y

module _ {text ws : List ℕ} {pairs n body next : ℕ} (h : BodyHere text ws pairs n body) (ns : next ≡ n) where
  abbrev pub body-scopes : List Scope
  body-scopes = record { names = h.params.names; first = 0 } ∷ []

  abbrev pub body-read : Res Expr
  body-read = (ParseExpr.child text h.spot.tree).plainly body-scopes next

  module _ (es : List ℕ) {es₁ : List ℕ} {d : ℕ} (l : slots ≤ length es) (is : es₁ ≡ pushed es 0 pairs next 0) (deep : d ≡ deeper 0 pairs) where
    pub body-inside : Opened ws es₁ d body-scopes
    unfolding inner pick
    body-inside =
        let i : Opened ws (pushed es 0 pairs n 0) (deeper 0 pairs) (inner pairs h.params.names 0 []) = pushed-opened es 0 pairs n 0 ws h.params [] tt (omega arith) in
        let e : inner pairs h.params.names 0 [] ≡ body-scopes = rw (ne_eqb pairs 0 h.there) refl in
        let is' : es₁ ≡ pushed es 0 pairs n 0 = is ∙ ap (λ (k : ℕ). pushed es 0 pairs k 0) ns in
        rw (is', deep) (rw e at i)

    pub body-slots : slots ≤ length es₁
    body-slots = omega (arith, ap length is, pushed-length es 0 pairs next 0)

    pub body-shallow : d + nesting h.spot.tree ≤ max_lists
    body-shallow = omega (arith, h.nests, deep, deeper-most es 0 pairs next 0)

    -- The parameters are its one scope.
    abbrev pub body-here : Here text ws body es₁ d 0 next
    body-here = record {
      spot = h.spot;
      scopes = body-scopes;
      holds = body-inside;
      long = body-slots;
      shallow = body-shallow;
      room = omega (arith, h.room);
      bytes = h.bytes;
    }

  module _ {count u b : ℕ} {d d' : List ℕ} {p : Result Progress Refusal} (y : Parsed (told count body-read) 0 d d' b p) where
    -- It is refused.
    pub body_refused_lem : {k : Refusal} → p ≡ Err k → BodyDone count u d d' (body_of text h.spot.tree h.params.names n) (Err k)
    unfolding body_of
    body_refused_lem q = rw (sym ns) (done_refused text h.params.names count u body-read y q)

    module _ {done : Progress} (q : p ≡ Ok done) {t : Bool} (e : t ≡ repeated text h.params.names) where
      -- A name stands there twice.
      pub body_twice : t ≡ true → BodyDone count u d d' (body_of text h.spot.tree h.params.names n) (Err refusal.RepeatedName)
      unfolding body_of
      body_twice z = rw (sym ns) (done_twice text h.params.names count u body-read y q (sym e ∙ z))

      pub body-wrote : t ≡ false → BodyDone count u d d' (body_of text h.spot.tree h.params.names n) (Ok (record { params = u; body = done.words; fresh = done.next }))
      unfolding body_of
      body-wrote z = rw (sym ns) (done-wrote text h.params.names count u body-read y q (sym e ∙ z))
