-- Steps of the proof that the terms of judged words are written.
use Prim.Native.Nat.{ℕ, zero, suc, ◌-◌, ◌≤◌, ◌<◌}
use mathlib.Core.Bool.{Bool, true, false}
use mathlib.Core.Path.{◌≡◌, refl, sym, ap, ◌∙◌}
use mathlib.Core.List.{List, [], ◌∷◌, ◌++◌}
use native.Mathlib.Omega.{arith}
use lib.Dec.{eqb}
use lib.ListN.{length}
use borrow.Author.Tests.{eq-eqb, ne_eqb}
use Rattle.reading.specs.Bytes.{Maybe}
use Rattle.reading.specs.Answer.{Refusal as Met, Ans, got, bad, and_then}
use Rattle.reading.proofs.Placed.{at-word}
use Rattle.grammar.specs.Sort.{Sort}
use Rattle.grammar.specs.Expr.{Kind, Expr, Exprs, node, app, enil, econs, exprs}
use Rattle.grammar.specs.Shape.{HasOperands}
use Rattle.judging.specs.Judge.{Judged, reads, fails, Plan, operands_of, arguments_of, several, sort_if, header, expr_deep}
use Rattle.judging.specs.Ends.{end_of}
use Rattle.judging.proofs.PlaceBehind.{behind-read}
use Rattle.heads.specs.Heads.{head_of as headerOf}
use Rattle.nodes.specs.Node.{node_of, nodes_at, node_at}
use Rattle.std.specs.Prelude.{Result, Ok, Err}
use Rattle.std.specs.Result.{result_unwrap_or}
use Rattle.words.specs.declared.refusal.Refusal.{Refusal}
use Rattle.words.specs.declared.walked.Walked.{Walked}
use Rattle.words.specs.Refusals.{refusal_of}
use Rattle.words.specs.Answered.{answered, told as telling, refused}
use Rattle.heads.specs.declared.Header.TheVariants as head
use Rattle.nodes.specs.declared.kind.Node.{Node}
use Rattle.nodes.specs.declared.kind.Node.TheVariants as told
use Rattle.judge.proofs.ReadExpr.{head-operands as kind-of, head-arguments, head-no}
use Rattle.nodes.proofs.NodeAt.{node-told, told_at}
use Rattle.judging.proofs.Spell.{Low, post_reads}
use Rattle.judging.proofs.SpellKind.{arguments-spelled}
use Rattle.judging.proofs.SpellExpr.{several-count}
use Rattle.judging.proofs.Taken.{read-no-room, read-no-header, read-operands, read-arguments, read_none, read_more}
use Rattle.writing.specs.Wrote.{WroteBytes}
use Rattle.writing.proofs.Wrote.{wrote_none, wrote_then}
use Rattle.smt.specs.Writer.{Form, fields_of, head_of}
use Rattle.smt.proofs.Judged.{Fits, header-fits}
use Rattle.smtnames.specs.Pieces.{joined, ident_text}
use Rattle.smtlib.specs.Terms.{term_text, seamed}
use Rattle.smtseams.specs.Seams.{seam_of, gap_of, close_text, node_lets, node_closes}
use Rattle.smtfronts.specs.Fronts.{front_of, front_text, form_lets, form_closes, callee_text}
use Rattle.smtnames.specs.Written.{tells, keeps, TellsPiece, TellsPart}
use Rattle.smtnames.proofs.Joined.{joined-none, joined_end, joined-got}
use Rattle.smtnames.proofs.Tells.{Put, put, Gone, gone, piece_put, piece_gone, part-put, part_end, part-gone}
use Rattle.smtfronts.proofs.FrontsSeams.{node-lets, node-closes, node-callee}
use Rattle.smtlib.proofs.TermTexts.{node-bad, node_operand, node-got, app-none, app_argument, app-head, app-got, head-kind}

-- What a piece that is written or refused says of its bytes.
pub put_is : {x : Ans (List ℕ)} {l l' : List ℕ} {place p : ℕ} → Put x l place l' p → (xs : List ℕ) × (x ≡ got xs) × WroteBytes l place xs l' p
put_is (put {xs = xs} w) = (xs, refl, w)

pub gone-is : {x : Ans (List ℕ)} {l l' : List ℕ} {k : Refusal} → Gone x l l' k → (r : Met) × (x ≡ bad r) × (k ≡ refusal_of r) × (length l' ≡ length l)
gone-is (gone {e = r} h e) = (r, refl, e, h)

-- None, or a first one.
no-exprs : (es : Exprs) → exprs es ≡ 0 → es ≡ enil
unfolding exprs
no-exprs enil i = refl
no-exprs (econs f fs) i = absurd (omega (arith, i))

some-exprs : (es : Exprs) → (exprs es ≡ 0 → ⊥) → (f : Expr) × (fs : Exprs) × (es ≡ econs f fs)
unfolding exprs
some-exprs enil i = absurd (i refl)
some-exprs (econs f fs) i = (f, fs, refl)

-- Bytes between two others.
framed_got : (a b : List ℕ) (x : Ans (List ℕ)) {xs : List ℕ} → joined (got a) (joined x (got b)) ≡ got xs → (ys : List ℕ) × (x ≡ got ys) × (xs ≡ a ++ (ys ++ b))
unfolding joined
framed_got a b (got ys) e = (ys, refl, cc)
framed_got a b (bad r) e = let z : ◌≡◌ {A = ℕ} 0 1 = cc in absurd (omega arith)

framed_bad : (a b : List ℕ) (x : Ans (List ℕ)) {r : Met} → joined (got a) (joined x (got b)) ≡ bad r → x ≡ bad r
unfolding joined
framed_bad a b (got ys) e = let z : ◌≡◌ {A = ℕ} 0 1 = cc in absurd (omega arith)
framed_bad a b (bad s) e = cc

-- A refusal behind bytes.
bad-behind : (a b : List ℕ) (r : Met) (y : Ans (List ℕ)) → joined (got a) (joined (got b) (joined (bad r) y)) ≡ bad r
unfolding joined
bad-behind a b r y = refl

-- Bytes in front come from a form.
front-form : (text : List ℕ) (k : Kind) (n : ℕ) {xs : List ℕ} → front_text text k n ≡ got xs → (f : Form) × (fields_of text k ≡ got f) × (xs ≡ front_of f n)
unfolding front_text
front-form text k n {xs} e = go (fields_of text k) e
  where
    go : (x : Ans Form) → and_then x (λ f. got (front_of f n)) ≡ got xs → (f : Form) × (x ≡ got f) × (xs ≡ front_of f n)
    go (got f) h = (f, refl, cc)
    go (bad r) h = let z : ◌≡◌ {A = ℕ} 0 1 = cc in absurd (omega arith)

-- An application is no head.
app-callee : (text : List ℕ) (o : Maybe Sort) (es : Exprs) (h : Expr) → callee_text text told.Other ≡ ident_text (head_of text (app o es h))
unfolding head_of ident_text
app-callee text o es h = refl

-- An application is told as no kind.
app-told : (limit : ℕ) (ws : List ℕ) → Low ws → (at : ℕ) {f : Bool} {n a : ℕ} → header limit ws at ≡ reads (arguments_of f n) a → told.Other ≡ node_at ws at
unfolding nodes_at
app-told limit ws low at e = told_at ws at 38 (omega arith) (at-word (arguments-spelled limit ws low at e).stands) refl

module _ (text ws l : List ℕ) (at place : ℕ) where
  -- There is no room, or no header: nothing was read.
  pub term-no-room : (room : ℕ) {l' : List ℕ} {r : Result Walked Refusal} → room ≡ 0 → (e : Expr) (n : ℕ) → expr_deep (length text) room ws at ≡ reads e n → TellsPart n (term_text text e) l place l' r
  term-no-room room z e n q = read-no-room (length text) ws at room z q

  pub term-no-header : (room : ℕ) {k : ℕ} {l' : List ℕ} {r : Result Walked Refusal} → (room ≡ 0 → ⊥) → refused k ≡ headerOf (header (length text) ws at) → (e : Expr) (n : ℕ) → expr_deep (length text) room ws at ≡ reads e n → TellsPart n (term_text text e) l place l' r
  term-no-header room z h e n q = read-no-header (length text) ws at room z (head-no (header (length text) ws at) h) q

  -- A kind and its operands.
  module _ (room : ℕ) {a n : ℕ} (z : room ≡ 0 → ⊥) (h : telling (head.Operands a n) ≡ headerOf (header (length text) ws at)) {known : Node} (knows : known ≡ node_at ws at)
      {l₁ : List ℕ} {w : Result ℕ Refusal} (front : (lim : ℕ) (k : Kind) (b : ℕ) → header lim ws at ≡ reads (operands_of k n) b → known ≡ node_of k → TellsPiece (front_text text k n) l place l₁ w) where
    -- The front is refused.
    pub front-gone : {r : Refusal} → w ≡ Err r → (e : Expr) (m : ℕ) → expr_deep (length text) room ws at ≡ reads e m → TellsPart m (term_text text e) l place l₁ (Err r)
    front-gone {r} g e m q =
        let k : Kind = (kind-of (header (length text) ws at) h).0 in
        let x : header (length text) ws at ≡ reads (operands_of k n) a = (kind-of (header (length text) ws at) h).1 in
        read-operands (length text) ws at room z x q λ es s t.
        let f = gone-is (piece_gone (front (length text) k a x (knows ∙ node-told (length text) ws at x)) g) in
        rw (t, node-bad text k es n f.1) (keeps f.3 (ap Err f.2))

    -- The front is written, and then the operands.
    module _ {p : ℕ} (wrote : w ≡ Ok p) {b : Bool} (lets : b ≡ node_lets known) {l₂ : List ℕ} {v : Result Walked Refusal}
        (operands : (es : Exprs) (m : ℕ) → several (expr_deep (length text) (room - 1)) enil econs n ws a ≡ reads es m → TellsPart m (seamed text (seam_of b) es) l₁ p l₂ v) where
      -- What is known where the expression was read.
      record Known (e : Expr) (m : ℕ) : Type 0 where
        kind : Kind
        rest : Exprs
        is : e ≡ node kind rest
        form : Form
        fields : fields_of text kind ≡ got form
        has : HasOperands kind n
        count : exprs rest ≡ n
        fronted : WroteBytes l place (front_of form n) l₁ p
        tail : TellsPart m (seamed text (seam_of (form_lets form)) rest) l₁ p l₂ v
        closing : node_closes known n ≡ form_closes form n

      known_of : (e : Expr) (m : ℕ) → expr_deep (length text) room ws at ≡ reads e m → Known e m
      known_of e m q =
          let k : Kind = (kind-of (header (length text) ws at) h).0 in
          let x : header (length text) ws at ≡ reads (operands_of k n) a = (kind-of (header (length text) ws at) h).1 in
          let same : known ≡ node_of k = knows ∙ node-told (length text) ws at x in
          let f = put_is (piece_put (front (length text) k a x same) wrote) in
          let g = front-form text k n f.1 in
          read-operands (length text) ws at room z x q λ es s t.
          let seam : b ≡ form_lets g.0 = lets ∙ ap node_lets same ∙ node-lets text k n g.1 in
          record {
            kind = k;
            rest = es;
            is = t;
            form = g.0;
            fields = g.1;
            has = post_reads (header (length text) ws at) Fits (header-fits (length text) ws at) x;
            count = several-count (length text) (room - 1) n ws a s;
            fronted = rw g.2 at f.2;
            tail = rw seam at (operands es m s);
            closing = ap (λ o. node_closes o n) same ∙ node-closes text k n g.1;
          }

      pub operands-gone : {r : Refusal} → v ≡ Err r → (e : Expr) (m : ℕ) → expr_deep (length text) room ws at ≡ reads e m → TellsPart m (term_text text e) l place l₂ (Err r)
      operands-gone g e m q =
          let k = known_of e m q in
          let f = gone-is (part-gone k.tail g) in
          rw (k.is, node_operand text k.kind k.rest n k.has k.count k.form k.fields f.1) (keeps (f.3 ∙ k.fronted.kept) (ap Err f.2))

      pub operands-done : {y : Walked} → v ≡ Ok y → {c : Bool} → c ≡ node_closes known n → {l₃ : List ℕ} {u : ℕ} → WroteBytes l₂ y.place (close_text c) l₃ u → (e : Expr) (m : ℕ) → expr_deep (length text) room ws at ≡ reads e m → TellsPart m (term_text text e) l place l₃ (Ok (record { next = y.next; place = u }))
      operands-done {y} g {c} cl {l₃} {u} shut e m q =
          let k = known_of e m q in
          let o = put_is (part-put k.tail g) in
          let ends : y.next ≡ m = part_end k.tail g in
          let last : WroteBytes l₂ y.place (close_text (form_closes k.form n)) l₃ u = rw (cl ∙ k.closing) at shut in
          rw (k.is, node-got text k.kind k.rest n k.has k.count k.form k.fields o.1)
          (tells (wrote_then k.fronted (wrote_then o.2 last)) (ap (λ (i : ℕ). Ok (record { next = i; place = u })) ends))

  -- An application: its arguments, an output sort, its head.
  module _ (low : Low ws) (room : ℕ) {a n : ℕ} {flag : Bool} (z : room ≡ 0 → ⊥) (h : telling (head.Arguments a flag n) ≡ headerOf (header (length text) ws at))
      (x y : Result ℕ Refusal) {b d : ℕ} (ends : answered x ≡ end_of (several (expr_deep (length text) (room - 1)) enil econs n ws a)) (first : b ≡ result_unwrap_or x a)
      (sorted : answered y ≡ end_of (sort_if (length text) flag ws b)) (second : d ≡ result_unwrap_or y b) where
    -- What is known where the expression was read.
    record Applied (e : Expr) (m : ℕ) : Type 0 where
      arguments : Exprs
      out : Maybe Sort
      callee : Expr
      is : e ≡ app out arguments callee
      behind : ℕ
      read : several (expr_deep (length text) (room - 1)) enil econs n ws a ≡ reads arguments behind
      count : exprs arguments ≡ n
      body : expr_deep (length text) (room - 1) ws d ≡ reads callee m

    applied_of : (e : Expr) (m : ℕ) → expr_deep (length text) room ws at ≡ reads e m → Applied e m
    applied_of e m q =
        read-arguments (length text) ws at room z (head-arguments (header (length text) ws at) h) q λ es b' o d' c s t u v.
        let p : b ≡ b' = behind-read (several (expr_deep (length text) (room - 1)) enil econs n ws a) _ a ends first s in
        let r : d ≡ d' = behind-read (sort_if (length text) flag ws b) _ b sorted second (ap (sort_if (length text) flag ws) p ∙ t) in
        record {
          arguments = es;
          out = o;
          callee = c;
          is = v;
          behind = b';
          read = s;
          count = several-count (length text) (room - 1) n ws a s;
          body = ap (expr_deep (length text) (room - 1) ws) r ∙ u;
        }

    -- What is told of the head.
    callee-said : (deep from : ℕ) {c : Expr} {m : ℕ} → expr_deep (length text) deep ws from ≡ reads c m → callee_text text (node_at ws from) ≡ ident_text (head_of text c)
    callee-said zero from q = read-no-room (length text) ws from 0 refl q
    callee-said (suc deep) from {c} {m} q = go (header (length text) ws from) refl
      where
        go : (p : Judged Plan) → header (length text) ws from ≡ p → callee_text text (node_at ws from) ≡ ident_text (head_of text c)
        go (fails r) e = read-no-header (length text) ws from (suc deep) (λ i. omega arith) e q
        go (reads (operands_of k i) j) e =
            read-operands (length text) ws from (suc deep) (λ i. omega arith) e q λ es s t.
            let has : HasOperands k i = post_reads (header (length text) ws from) Fits (header-fits (length text) ws from) e in
            let count : exprs es ≡ i = several-count (length text) (suc deep - 1) i ws j s in
            rw t (ap (callee_text text) (node-told (length text) ws from e) ∙ sym (node-callee text k) ∙ ap ident_text (head-kind text k es (rw (← count) at has)))
        go (reads (arguments_of f i) j) e =
            read-arguments (length text) ws from (suc deep) (λ i. omega arith) e q λ es b' o d' g s u v t.
            rw t (ap (callee_text text) (sym (app-told (length text) ws low from e)) ∙ app-callee text o es g)

    -- Without arguments it is its head.
    pub applied-none : n ≡ 0 → {l' : List ℕ} {r : Result Walked Refusal} → ((e : Expr) (m : ℕ) → expr_deep (length text) (room - 1) ws d ≡ reads e m → TellsPart m (term_text text e) l place l' r) → (e : Expr) (m : ℕ) → expr_deep (length text) room ws at ≡ reads e m → TellsPart m (term_text text e) l place l' r
    applied-none none f e m q =
        let k = applied_of e m q in
        let c = f k.callee m k.body in
        rw (k.is, no-exprs k.arguments (k.count ∙ none), app-none text k.out k.callee) c

    -- With arguments, the head is a variable or a bit-vector function.
    module _ (some : n ≡ 0 → ⊥) {known : Node} (knows : known ≡ node_at ws d) {l₁ : List ℕ} {w : Result ℕ Refusal}
        (callee : TellsPiece (joined (got (40 ∷ [])) (joined (callee_text text known) (got (32 ∷ [])))) l place l₁ w)
        {start : ℕ} {l₂ : List ℕ} {v : Result Walked Refusal}
        (arguments : (es : Exprs) (m : ℕ) → several (expr_deep (length text) (room - 1)) enil econs n ws a ≡ reads es m → TellsPart m (seamed text (seam_of false) es) l₁ start l₂ v) where
      pub arguments-gone : length l₁ ≡ length l → {r : Refusal} → v ≡ Err r → (e : Expr) (m : ℕ) → expr_deep (length text) room ws at ≡ reads e m → TellsPart m (term_text text e) l place l₂ (Err r)
      arguments-gone kept g e m q =
          let k = applied_of e m q in
          let i = some-exprs k.arguments (λ c. some (sym k.count ∙ c)) in
          let f = gone-is (part-gone (arguments k.arguments k.behind k.read) g) in
          let t : term_text text (app k.out (econs i.0 i.1) k.callee) ≡ bad f.0 = app_argument text k.out i.0 i.1 k.callee (ap (seamed text (seam_of false)) (sym i.2) ∙ f.1) in
          rw (k.is, i.2, t) (keeps (f.3 ∙ kept) (ap Err f.2))

      pub callee-gone : {r : Refusal} → w ≡ Err r → {u : Walked} → v ≡ Ok u → (e : Expr) (m : ℕ) → expr_deep (length text) room ws at ≡ reads e m → TellsPart m (term_text text e) l place l₂ (Err r)
      callee-gone g u e m q =
          let k = applied_of e m q in
          let i = some-exprs k.arguments (λ c. some (sym k.count ∙ c)) in
          let f = gone-is (piece_gone callee g) in
          let o = put_is (part-put (arguments k.arguments k.behind k.read) u) in
          let c : ident_text (head_of text k.callee) ≡ bad f.0 = sym (callee-said (room - 1) d k.body) ∙ ap (callee_text text) (sym knows) ∙ framed_bad (40 ∷ []) (32 ∷ []) (callee_text text known) f.1 in
          let t : term_text text (app k.out (econs i.0 i.1) k.callee) ≡ bad f.0 = app-head text k.out i.0 i.1 k.callee (ap (seamed text (seam_of false)) (sym i.2) ∙ o.1) c in
          rw (k.is, i.2, t) (keeps (o.2.kept ∙ f.3) (ap Err f.2))

      pub applied-done : w ≡ Ok start → {y : Walked} → v ≡ Ok y → (x₂ : Result ℕ Refusal) {g : ℕ} → answered x₂ ≡ end_of (expr_deep (length text) (room - 1) ws d) → g ≡ result_unwrap_or x₂ d → {l₃ : List ℕ} {u : ℕ} → WroteBytes l₂ y.place (41 ∷ []) l₃ u → (e : Expr) (m : ℕ) → expr_deep (length text) room ws at ≡ reads e m → TellsPart m (term_text text e) l place l₃ (Ok (record { next = g; place = u }))
      applied-done to o x₂ {g = g} ending third {u = u} shut e m q =
          let k = applied_of e m q in
          let i = some-exprs k.arguments (λ c. some (sym k.count ∙ c)) in
          let f = put_is (piece_put callee to) in
          let c = framed_got (40 ∷ []) (32 ∷ []) (callee_text text known) f.1 in
          let p = put_is (part-put (arguments k.arguments k.behind k.read) o) in
          let b : ident_text (head_of text k.callee) ≡ got c.0 = sym (callee-said (room - 1) d k.body) ∙ ap (callee_text text) (sym knows) ∙ c.1 in
          let t = app-got text k.out i.0 i.1 k.callee (ap (seamed text (seam_of false)) (sym i.2) ∙ p.1) b in
          let last : g ≡ m = behind-read (expr_deep (length text) (room - 1) ws d) _ d ending third k.body in
          rw (k.is, i.2, t) (tells (wrote_then (rw c.2 at f.2) (wrote_then p.2 shut)) (ap (λ (i : ℕ). Ok (record { next = i; place = u })) last))

-- Expressions one after the other, with what stands between them: a seam before each but the first.
unfoldable pub behind_seam : List ℕ → List ℕ → Exprs → Ans (List ℕ)
behind_seam text seam enil = got []
behind_seam text seam (econs e es) = joined (got seam) (joined (term_text text e) (behind_seam text seam es))

seam_first : (text seam : List ℕ) (e : Expr) (es : Exprs) → seamed text seam (econs e es) ≡ joined (term_text text e) (behind_seam text seam es)
unfolding seamed behind_seam
seam_first text seam e enil = sym (joined_end (term_text text e))
seam_first text seam e (econs f fs) = ap (λ (x : Ans (List ℕ)). joined (term_text text e) (joined (got seam) x)) (seam_first text seam f fs)

-- What is left of them, by whether the first is still to come.
abbrev left_text : List ℕ → Bool → Bool → Exprs → Ans (List ℕ)
left_text text true b es = seamed text (seam_of b) es
left_text text false b es = behind_seam text (seam_of b) es

left-next : (text : List ℕ) (first b : Bool) (e : Expr) (es : Exprs) → left_text text first b (econs e es) ≡ joined (got (gap_of first b)) (joined (term_text text e) (behind_seam text (seam_of b) es))
unfolding behind_seam
left-next text true b e es = seam_first text (seam_of b) e es ∙ sym (joined-none (joined (term_text text e) (behind_seam text (seam_of b) es)))
left-next text false b e es = refl

left-none : (text : List ℕ) (first b : Bool) → left_text text first b enil ≡ got []
unfolding behind_seam seamed
left-none text true b = refl
left-none text false b = refl

-- Expressions that are left, of n of which i are left: what was written, and where the others stand.
pub record LeftTerms (text ws : List ℕ) (room n i a p : ℕ) (b : Bool) (l l₀ : List ℕ) (place : ℕ) (es : Exprs) (m : ℕ) : Type 0 where
  pub rest : Exprs
  pub there : several (expr_deep (length text) room) enil econs i ws a ≡ reads rest m
  pub few : i ≤ n
  pub done : List ℕ
  pub wrote : WroteBytes l₀ place done l p
  pub text-left : seamed text (seam_of b) es ≡ joined (got done) (left_text text (eqb i n) b rest)

-- As many are left by another name.
pub left_as : {text ws : List ℕ} {room n i j a p : ℕ} {b : Bool} {l l₀ : List ℕ} {place : ℕ} {es : Exprs} {m : ℕ} → j ≡ i → LeftTerms text ws room n i a p b l l₀ place es m → LeftTerms text ws room n j a p b l l₀ place es m
left_as e k = rw e k

-- The first of n is the one with all of them left.
pub first_left : (i n : ℕ) → i < n → eqb i 0 ≡ eqb (n - i) n
first_left zero n h = sym (eq-eqb (n - 0) n (omega arith))
first_left (suc i) n h = ne_eqb (suc i) 0 (λ e. omega (arith, e)) ∙ sym (ne_eqb (n - suc i) n (λ e. omega (arith, e, h)))

module _ {text ws : List ℕ} {room n : ℕ} {b : Bool} where
  pub terms-all : {at place : ℕ} {l : List ℕ} (es : Exprs) (m : ℕ) → several (expr_deep (length text) room) enil econs n ws at ≡ reads es m → LeftTerms text ws room n n at place b l l place es m
  terms-all {at} {place} {l} es m s =
      record { rest = es; there = s; few = omega arith; done = []; wrote = wrote_none l place; text-left = rw (eq-eqb n n refl) (sym (joined-none (seamed text (seam_of b) es))) }

  module _ {i a p place : ℕ} {l l₀ : List ℕ} (es : Exprs) (m : ℕ) where
    -- None is left.
    pub terms-done : i ≤ 0 → LeftTerms text ws room n i a p b l l₀ place es m → TellsPart m (seamed text (seam_of b) es) l₀ place l (Ok (record { next = a; place = p }))
    terms-done h k =
        read_none (expr_deep (length text) room) ws a i (omega (arith, h)) k.there λ t e.
        let x : seamed text (seam_of b) es ≡ got k.done = k.text-left ∙ ap (joined (got k.done)) (ap (left_text text (eqb i n) b) t ∙ left-none text (eqb i n) b) ∙ joined_end (got k.done) in
        rw x (tells k.wrote (ap (λ (j : ℕ). Ok (record { next = j; place = p })) e))

    module _ {first : Bool} (same : first ≡ eqb i n) {l₁ : List ℕ} {g : ℕ} (gap : WroteBytes l p (gap_of first b) l₁ g)
        {l₂ : List ℕ} {v : Result Walked Refusal} (term : (e : Expr) (j : ℕ) → expr_deep (length text) room ws a ≡ reads e j → TellsPart j (term_text text e) l₁ g l₂ v) where
      -- The next one is refused.
      pub terms-gone : 0 < i → {r : Refusal} → v ≡ Err r → LeftTerms text ws room n i a p b l l₀ place es m → TellsPart m (seamed text (seam_of b) es) l₀ place l₂ (Err r)
      terms-gone h e k =
          read_more (expr_deep (length text) room) ws a i h k.there λ f j fs x y t.
          let c = gone-is (part-gone (term f j x) e) in
          let left : left_text text (eqb i n) b k.rest ≡ joined (got (gap_of first b)) (joined (term_text text f) (behind_seam text (seam_of b) fs)) = ap (left_text text (eqb i n) b) t ∙ ap (λ (o : Bool). left_text text o b (econs f fs)) (sym same) ∙ left-next text first b f fs in
          let z : seamed text (seam_of b) es ≡ bad c.0 = k.text-left ∙ ap (joined (got k.done)) (left ∙ ap (λ (o : Ans (List ℕ)). joined (got (gap_of first b)) (joined o (behind_seam text (seam_of b) fs))) c.1) ∙ bad-behind k.done (gap_of first b) c.0 (behind_seam text (seam_of b) fs) in
          rw z (keeps (c.3 ∙ gap.kept ∙ k.wrote.kept) (ap Err c.2))

      -- The next one is written.
      pub terms-next : 0 < i → {u : Walked} → v ≡ Ok u → LeftTerms text ws room n i a p b l l₀ place es m → LeftTerms text ws room n (i - 1) u.next u.place b l₂ l₀ place es m
      terms-next h {u} e k =
          read_more (expr_deep (length text) room) ws a i h k.there λ f j fs x s t.
          let c = put_is (part-put (term f j x) e) in
          let ends : u.next ≡ j = part_end (term f j x) e in
          let left : left_text text (eqb i n) b k.rest ≡ joined (got (gap_of first b)) (joined (term_text text f) (behind_seam text (seam_of b) fs)) = ap (left_text text (eqb i n) b) t ∙ ap (λ (o : Bool). left_text text o b (econs f fs)) (sym same) ∙ left-next text first b f fs in
          record {
            rest = fs;
            there = ap (several (expr_deep (length text) room) enil econs (i - 1) ws) ends ∙ s;
            few = omega (arith, k.few);
            done = k.done ++ (gap_of first b ++ c.0);
            wrote = wrote_then k.wrote (wrote_then gap c.2);
            text-left =
                k.text-left
                ∙ ap (joined (got k.done)) (left ∙ ap (λ (o : Ans (List ℕ)). joined (got (gap_of first b)) (joined o (behind_seam text (seam_of b) fs))) c.1 ∙ joined-got (gap_of first b) c.0 (behind_seam text (seam_of b) fs))
                ∙ joined-got k.done (gap_of first b ++ c.0) (behind_seam text (seam_of b) fs)
                ∙ ap (λ (o : Bool). joined (got (k.done ++ (gap_of first b ++ c.0))) (left_text text o b fs)) (sym (ne_eqb (i - 1) n (λ q. omega (arith, q, h, k.few))));
          }
