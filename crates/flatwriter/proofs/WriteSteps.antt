-- What the writer of flattened words does, step by step: each lemma is one way through the code.
use Prim.Native.Nat.{ℕ, ◌+◌, ◌-◌, ◌≤◌, ◌<◌, min, max}
use mathlib.Core.Bool.{Bool}
use mathlib.Core.Path.{◌≡◌, refl, sym, ap, subst, ◌∙◌}
use mathlib.Core.List.{List, [], ◌∷◌, ◌++◌}
use native.Mathlib.Omega.{arith}
use lib.ListN.{length}
use Rattle.std.specs.List.{slice_range}
use Rattle.std.proofs.lemmas.List.{take_at}
use Rattle.reading.specs.Bytes.{Maybe}
use Rattle.reading.specs.Tree.{bit}
use Rattle.reading.proofs.Placed.{at_drop}
use Rattle.grammar.specs.Sort.{Sort}
use Rattle.grammar.specs.Item.{words_of}
use Rattle.grammar.specs.Expr.{Kind, Expr, Exprs, exprs, flag, kind_items, out_sort, expr_items, exprs_items}
use Rattle.grammar.proofs.Items.{words_append}
use Rattle.flattening.specs.Uncurry.{join, uncurry, uncurry_all, most_operands, most_operands_all}
use Rattle.flattening.specs.Flat.{gathered, spine}
use Rattle.judging.specs.Judge.{reads, operands_of, arguments_of, sort_if, header, expr_deep}
use Rattle.judging.specs.Ends.{end_of}
use Rattle.judging.proofs.PlaceBehind.{behind-read}
use Rattle.heads.specs.Heads.{head_of}
use Rattle.flattening.specs.Operations.{no_text}
use Rattle.judging.specs.Spelled.{Spelled}
use Rattle.writing.specs.Wrote.{most_count, Wrote}
use Rattle.flatwriter.specs.Writing.{WroteExpr, WroteExprs, Patched, Chained}
use Rattle.std.specs.Prelude.{Result}
use Rattle.std.specs.Result.{result_unwrap_or}
use Rattle.words.specs.Answered.{answered, told, refused}
use Rattle.words.specs.declared.refusal.Refusal.{Refusal}
use denote.Enum.Declared.{tag_of}
use Rattle.heads.specs.contracts.Header.{the_type}
use Rattle.heads.specs.declared.Header.{Header}
use Rattle.heads.specs.declared.Header.TheVariants as head
use Rattle.words.specs.declared.walked.Walked.{Walked}
use Rattle.flatwriter.specs.declared.Joined.{Joined}
use Rattle.judge.proofs.ReadExpr.{siblings, head-operands, head-arguments, head-no}
use Rattle.flattening.proofs.Uncurry.{exprs-uncurry, exprs-join, items-join, uncurry-join, uncurry-chain, most-join}
use Rattle.judging.proofs.Spell.{Low, spelled-inside}
use Rattle.judging.proofs.SpellKind.{operands-spelled, arguments-spelled}
use Rattle.judging.proofs.SpellExpr.{out-spelled, several-count, exprs-spelled}
use Rattle.judging.proofs.Taken.{read-no-room, read-no-header, read-operands, read-arguments, read_none, read_more}
use Rattle.writing.proofs.Wrote.{wrote_none, wrote_seq, wrote-more, wrote_as}
use Rattle.writing.proofs.Pieces.{Copied, copy_all}
use Rattle.flatwriter.proofs.Counted.{wrote_patched}

-- The words of flattened expressions, and their largest count.
abbrev flat_words : Exprs → List ℕ
flat_words es = words_of (exprs_items (uncurry_all es))

abbrev flat_most : Exprs → ℕ
flat_most es = most_operands_all (uncurry_all es)

-- ---- copying

-- The part of the words that is copied.
part-is : {ws xs : List ℕ} {from to : ℕ} → Spelled ws from to xs → slice_range ws from to ≡ xs
part-is {ws} {xs} {from} {to} s =
    let e : to - from ≡ length xs = omega (arith, s.ends) in
    rw (at_drop s.stands, e) (take_at xs s.stands.rest (length xs) refl)

-- Words that are copied to a place where they have room.
pub copied-all : {ws xs l part now : List ℕ} {from to place i : ℕ} → Spelled ws from to xs → part ≡ slice_range ws from to → Copied part l place now i → length part ≤ i → place + length part ≤ length l → Wrote l place xs 0 now (place + length part)
copied-all {ws} {xs} {l} {part} {now} {from} {to} {place} {i} s p c h k =
    let n : i ≡ length part = omega (arith, c.upto, h) in
    subst (λ (ys : List ℕ). Wrote l place ys 0 now (place + length part)) (p ∙ part-is s) (rw n at (copy_all c h k))

-- ---- the words and the largest count of joined expressions

words-join : (fs es : Exprs) → flat_words fs ++ flat_words es ≡ flat_words (join fs es)
words-join fs es =
    sym (ap (λ x. words_of (exprs_items x)) (uncurry-join fs es) ∙ ap words_of (items-join (uncurry_all fs) (uncurry_all es)) ∙ words_append (exprs_items (uncurry_all fs)) (exprs_items (uncurry_all es)))

most-joined : (fs es : Exprs) → max (flat_most fs) (flat_most es) ≡ flat_most (join fs es)
most-joined fs es = sym (ap most_operands_all (uncurry-join fs es) ∙ most-join (uncurry_all fs) (uncurry_all es))

-- ---- one expression

module _ (ws l : List ℕ) (at place : ℕ) where
  -- There is no room, or no header: nothing was read.
  pub flat-no-room : (room : ℕ) {l' : List ℕ} {r : Walked} → room ≡ 0 → (e : Expr) (n : ℕ) → expr_deep no_text room ws at ≡ reads e n → WroteExpr l place e n l' r
  flat-no-room room z e n q = read-no-room no_text ws at room z q

  pub flat-no-header : (room : ℕ) {k : ℕ} {l' : List ℕ} {r : Walked} → (room ≡ 0 → ⊥) → refused k ≡ head_of (header no_text ws at) → (e : Expr) (n : ℕ) → expr_deep no_text room ws at ≡ reads e n → WroteExpr l place e n l' r
  flat-no-header room z h e n q = read-no-header no_text ws at room z (head-no (header no_text ws at) h) q

  -- A kind: its own words as they are, then its operands.
  pub flat-operands : (room : ℕ) {a c p : ℕ} {l₁ l₂ : List ℕ} {r : Walked} → (room ≡ 0 → ⊥) → Low ws → c < most_count → told (head.Operands a c) ≡ head_of (header no_text ws at)
      → ((xs : List ℕ) → Spelled ws at a xs → Wrote l place xs 0 l₁ p)
      → ((es : Exprs) (m : ℕ) → siblings no_text (room - 1) c ws a ≡ reads es m → WroteExprs l₁ p es m l₂ r)
      → (e : Expr) (n : ℕ) → expr_deep no_text room ws at ≡ reads e n → WroteExpr l place e n l₂ r
  unfolding uncurry expr_items most_operands
  flat-operands room {a} {c} {p} {l₁} {l₂} {r} z low few h copied wrote e n q =
      let k : Kind = (head-operands (header no_text ws at) h).0 in
      let x : header no_text ws at ≡ reads (operands_of k c) a = (head-operands (header no_text ws at) h).1 in
      read-operands no_text ws at room z x q λ es s t.
      let m : exprs (uncurry_all es) ≡ c = exprs-uncurry es ∙ several-count no_text (room - 1) c ws a s in
      let w : WroteExprs l₁ p es n l₂ r = wrote es n s in
      let first : Wrote l place (words_of (kind_items k c)) 0 l₁ p = copied (words_of (kind_items k c)) (operands-spelled no_text ws low at x) in
      let both : Wrote l place (words_of (kind_items k c) ++ flat_words es) (max 0 (max c (flat_most es))) l₂ r.place = wrote_seq (words_of (kind_items k c)) (flat_words es) first (wrote-more c few w.words) in
      rw t (record {
        next = w.next;
        words = wrote_as (ap (λ (i : ℕ). words_of (kind_items k i) ++ flat_words es) (sym m) ∙ sym (words_append (kind_items k (exprs (uncurry_all es))) (exprs_items (uncurry_all es)))) (omega (arith, m)) both;
      })

  -- An application: three words, of which the last is patched, the joined arguments, the output sort, the head at the end of the chain.
  pub flat-arguments : (room : ℕ) {a c p q s : ℕ} {f : Bool} {l₁ l₂ l₃ l₄ l₅ : List ℕ} {j : Joined} {r : Walked} → (room ≡ 0 → ⊥) → Low ws → told (head.Arguments a f c) ≡ head_of (header no_text ws at)
      → ((xs : List ℕ) → Spelled ws at a xs → Wrote l place xs 0 l₁ p)
      → ((es : Exprs) (b : ℕ) (o : Maybe Sort) (d : ℕ) (h : Expr) (m : ℕ) → siblings no_text (room - 1) c ws a ≡ reads es b → sort_if no_text f ws b ≡ reads o d → expr_deep no_text (room - 1) ws d ≡ reads h m → (Chained ws l₁ p (join (gathered h) es) (spine h) m l₂ j) × (j.from ≡ b) × (j.to ≡ d))
      → Patched l₂ p j.count j.place l₃ q
      → ((xs : List ℕ) → Spelled ws j.from j.to xs → Wrote l₃ q xs 0 l₄ s)
      → ((e : Expr) (n : ℕ) → expr_deep no_text j.room ws j.head ≡ reads e n → WroteExpr l₄ s e n l₅ r)
      → (e : Expr) (n : ℕ) → expr_deep no_text room ws at ≡ reads e n → WroteExpr l place e n l₅ r
  unfolding expr_items most_operands words_of
  flat-arguments room {a} {c} {p} {q} {s} {f} {l₁} {l₂} {l₃} {l₄} {l₅} {j} {r} z low h copied chained patched sorted last e n e' =
      let x : header no_text ws at ≡ reads (arguments_of f c) a = head-arguments (header no_text ws at) h in
      let front : Spelled ws at a (38 ∷ bit f ∷ c ∷ []) = arguments-spelled no_text ws low at x in
      read-arguments no_text ws at room z x e' λ es b o d i s₁ s₂ s₃ t.
      let g : Exprs = join (gathered i) es in
      let k : (Chained ws l₁ p g (spine i) n l₂ j) × (j.from ≡ b) × (j.to ≡ d) = chained es b o d i n s₁ s₂ s₃ in
      let args : Spelled ws a b (words_of (exprs_items es)) = exprs-spelled no_text (room - 1) c ws low a (spelled-inside front) s₁ in
      let out : (Spelled ws b d (words_of (out_sort o))) × (flag o ≡ bit f) = out-spelled no_text ws low b f (spelled-inside args) s₂ in
      let w₁ : Wrote l place (38 ∷ bit f ∷ c ∷ []) 0 l₁ p = copied (38 ∷ bit f ∷ c ∷ []) front in
      let w₂ : Wrote l place (38 ∷ bit f ∷ exprs g ∷ flat_words g) (max (exprs g) (flat_most g)) l₃ q = wrote_patched 38 (bit f) c (exprs g) (flat_words g) w₁ k.0.words patched k.0.count in
      let w₃ : Wrote l₃ q (words_of (out_sort o)) 0 l₄ s = sorted (words_of (out_sort o)) (rw (k.1, k.2) out.0) in
      let w₄ : WroteExpr l₄ s (spine i) n l₅ r = last (spine i) n k.0.head in
      let w₅ = wrote_seq (words_of (out_sort o)) (words_of (expr_items (uncurry (spine i)))) w₃ w₄.words in
      let w₆ = wrote_seq (38 ∷ bit f ∷ exprs g ∷ flat_words g) (words_of (out_sort o) ++ words_of (expr_items (uncurry (spine i)))) w₂ w₅ in
      let n₁ : exprs (uncurry_all g) ≡ exprs g = exprs-uncurry g in
      let ws₁ : words_of (exprs_items (uncurry_all g) ++ (out_sort o ++ expr_items (uncurry (spine i)))) ≡ flat_words g ++ (words_of (out_sort o) ++ words_of (expr_items (uncurry (spine i)))) = words_append (exprs_items (uncurry_all g)) (out_sort o ++ expr_items (uncurry (spine i))) ∙ ap (λ y. flat_words g ++ y) (words_append (out_sort o) (expr_items (uncurry (spine i)))) in
      rw t (record {
        next = w₄.next;
        words = rw (uncurry-chain o es i) (wrote_as (rw (ws₁, n₁, out.1) refl) (omega (arith, n₁)) w₆);
      })

-- ---- several expressions

-- Expressions that are still to be written, and what writing them makes of the whole.
pub record LeftExprs (ws : List ℕ) (room i a p : ℕ) (l l₀ : List ℕ) (place : ℕ) (es : Exprs) (n : ℕ) : Type 0 where
  pub rest : Exprs
  pub there : siblings no_text room i ws a ≡ reads rest n
  pub on : (l' : List ℕ) (r : Walked) → WroteExprs l p rest n l' r → WroteExprs l₀ place es n l' r

pub exprs-all : {ws l : List ℕ} {room i j at place : ℕ} (es : Exprs) (n : ℕ) → j ≡ i → siblings no_text room i ws at ≡ reads es n → LeftExprs ws room j at place l l place es n
exprs-all es n e s = record { rest = es; there = rw e s; on = λ l' r w. w }

pub exprs-next : {ws l l₀ l₁ : List ℕ} {room i a p place : ℕ} {r₁ : Walked} (es : Exprs) (n : ℕ) {i' : ℕ} → i ≡ i' + 1 → ((e : Expr) (m : ℕ) → expr_deep no_text room ws a ≡ reads e m → WroteExpr l p e m l₁ r₁) → LeftExprs ws room i a p l l₀ place es n → LeftExprs ws room i' r₁.next r₁.place l₁ l₀ place es n
unfolding uncurry expr_items most_operands
exprs-next {ws} {l} {l₀} {l₁} {room} {i} {a} {p} {place} {r₁} es n {i'} h wrote k =
    let z : i' ≡ i - 1 = omega (arith, h) in
    read_more (expr_deep no_text room) ws a i (omega (arith, h)) k.there λ f m fs x y t.
    let w : WroteExpr l p f m l₁ r₁ = wrote f m x in
    record {
      rest = fs;
      there = rw (w.next, z) y;
      on = λ l' r v. k.on l' r (rw t (record {
        next = v.next;
        words = wrote_as (sym (words_append (expr_items (uncurry f)) (exprs_items (uncurry_all fs)))) refl (wrote_seq (words_of (expr_items (uncurry f))) (flat_words fs) w.words v.words);
      }));
    }

pub exprs-none : {ws l l₀ : List ℕ} {room i a p place : ℕ} (es : Exprs) (n : ℕ) → i ≤ 0 → LeftExprs ws room i a p l l₀ place es n → WroteExprs l₀ place es n l (record { next = a; place = p })
unfolding uncurry expr_items most_operands words_of
exprs-none {ws} {l} {l₀} {room} {i} {a} {p} {place} es n h k =
    read_none (expr_deep no_text room) ws a i (omega (arith, h)) k.there λ t e.
    k.on l _ (rw t (record { next = e; words = wrote_none l p }))

-- ---- chains

module _ (ws l : List ℕ) (at place : ℕ) where
  -- The arguments that the head brings, then the application's own.
  pub arguments-joined : (room c : ℕ) (f : Bool) (x y : Result ℕ Refusal) {b' d' : ℕ} {l₁ l₂ : List ℕ} {j r : Joined} {own : Walked}
      → answered x ≡ end_of (siblings no_text room c ws at) → b' ≡ result_unwrap_or x at
      → answered y ≡ end_of (sort_if no_text f ws b') → d' ≡ result_unwrap_or y b'
      → ((e : Expr) (m : ℕ) → expr_deep no_text room ws d' ≡ reads e m → Chained ws l place (gathered e) (spine e) m l₁ j)
      → ((es : Exprs) (m : ℕ) → siblings no_text room c ws at ≡ reads es m → WroteExprs l₁ j.place es m l₂ own)
      → r.head ≡ j.head → r.room ≡ j.room → r.count ≡ min (j.count + c) most_count → r.place ≡ own.place → r.from ≡ b' → r.to ≡ d'
      → (es : Exprs) (b : ℕ) (o : Maybe Sort) (d : ℕ) (h : Expr) (m : ℕ) → siblings no_text room c ws at ≡ reads es b → sort_if no_text f ws b ≡ reads o d → expr_deep no_text room ws d ≡ reads h m → (Chained ws l place (join (gathered h) es) (spine h) m l₂ r) × (r.from ≡ b) × (r.to ≡ d)
  arguments-joined room c f x y {b'} {d'} {l₁} {l₂} {j} {r} {own} ex eb ey ed chained wrote rh rr rc rp rf rt es b o d h m s₁ s₂ s₃ =
      let p : b' ≡ b = behind-read (siblings no_text room c ws at) x at ex eb s₁ in
      let s₂' : sort_if no_text f ws b' ≡ reads o d = rw p s₂ in
      let q : d' ≡ d = behind-read (sort_if no_text f ws b') y b' ey ed s₂' in
      let k : Chained ws l place (gathered h) (spine h) m l₁ j = chained h m (rw q s₃) in
      let w : WroteExprs l₁ j.place es b l₂ own = wrote es b s₁ in
      let n : exprs es ≡ c = several-count no_text room c ws at s₁ in (
        record {
          head = rw (rh, rr) k.head;
          count = omega (arith, rc, k.count, n, exprs-join (gathered h) es);
          words = rw rp (wrote_as (words-join (gathered h) es) (most-joined (gathered h) es) (wrote_seq (flat_words (gathered h)) (flat_words es) k.words w.words));
        },
        rf ∙ p,
        rt ∙ q,
      )

  -- A head that is no application.
  pub chain-no-room : (room : ℕ) {l' : List ℕ} {r : Joined} → room ≡ 0 → (e : Expr) (m : ℕ) → expr_deep no_text room ws at ≡ reads e m → Chained ws l place (gathered e) (spine e) m l' r
  chain-no-room room z e m q = read-no-room no_text ws at room z q

  pub chain-no-header : (room : ℕ) {k : ℕ} {l' : List ℕ} {r : Joined} → (room ≡ 0 → ⊥) → refused k ≡ head_of (header no_text ws at) → (e : Expr) (m : ℕ) → expr_deep no_text room ws at ≡ reads e m → Chained ws l place (gathered e) (spine e) m l' r
  chain-no-header room z h e m q = read-no-header no_text ws at room z (head-no (header no_text ws at) h) q

  chain_lone : (room : ℕ) {a c : ℕ} {r : Joined} → (room ≡ 0 → ⊥) → told (head.Operands a c) ≡ head_of (header no_text ws at) → r.head ≡ at → r.room ≡ room → r.count ≡ 0 → r.place ≡ place → (e : Expr) (m : ℕ) → expr_deep no_text room ws at ≡ reads e m → Chained ws l place (gathered e) (spine e) m l r
  unfolding gathered spine uncurry expr_items most_operands words_of exprs
  chain_lone room {a} {c} {r} z h rh rr rc rp e m q =
      let k : Kind = (head-operands (header no_text ws at) h).0 in
      let x : header no_text ws at ≡ reads (operands_of k c) a = (head-operands (header no_text ws at) h).1 in
      read-operands no_text ws at room z x q λ es s t.
      rw t (record { head = rw (rh, rr) (q ∙ ap (λ i. reads i m) t); count = omega (arith, rc); words = rw rp (wrote_none l place) })

  pub chain-lone : (room : ℕ) (x : Header) {r : Joined} → (room ≡ 0 → ⊥) → told x ≡ head_of (header no_text ws at) → tag_of the_type x ≡ 0 → r.head ≡ at → r.room ≡ room → r.count ≡ 0 → r.place ≡ place → (e : Expr) (m : ℕ) → expr_deep no_text room ws at ≡ reads e m → Chained ws l place (gathered e) (spine e) m l r
  chain-lone room (head.Operands a c) z h n rh rr rc rp = chain_lone room z h rh rr rc rp
  chain-lone room (head.Arguments a f c) z h n rh rr rc rp = absurd (omega (arith, n))

  -- A head that is an application.
  pub chain-on : (room : ℕ) {a c : ℕ} {f : Bool} {l' : List ℕ} {r : Joined} → (room ≡ 0 → ⊥) → told (head.Arguments a f c) ≡ head_of (header no_text ws at)
      → ((es : Exprs) (b : ℕ) (o : Maybe Sort) (d : ℕ) (h : Expr) (m : ℕ) → siblings no_text (room - 1) c ws a ≡ reads es b → sort_if no_text f ws b ≡ reads o d → expr_deep no_text (room - 1) ws d ≡ reads h m → (Chained ws l place (join (gathered h) es) (spine h) m l' r) × (r.from ≡ b) × (r.to ≡ d))
      → (e : Expr) (m : ℕ) → expr_deep no_text room ws at ≡ reads e m → Chained ws l place (gathered e) (spine e) m l' r
  unfolding gathered spine
  chain-on room z h chained e m q =
      read-arguments no_text ws at room z (head-arguments (header no_text ws at) h) q λ es b o d i s₁ s₂ s₃ t.
      rw t (chained es b o d i m s₁ s₂ s₃).0
