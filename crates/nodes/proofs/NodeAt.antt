-- The kind that is told of words is the kind that was read from them.
use Prim.Native.Nat.{ℕ, zero, suc, ◌+◌, ◌-◌, ◌*◌, ◌^◌, ◌≤◌}
use mathlib.Core.Bool.{Bool, true, false}
use mathlib.Core.Path.{◌≡◌, refl, sym, ap, ◌∙◌}
use mathlib.Core.List.{List, [], ◌∷◌}
use native.Mathlib.Omega.{arith}
use lib.Dec.{eqb, ltb, leb}
use lib.ListN.{length, get_or}
use borrow.Author.Tests.{le-ltb, ltb-false, eqb-true, eqb-false}
use Rattle.reading.specs.Pick.{pick}
use Rattle.reading.specs.Bytes.{Span, nothing}
use Rattle.reading.specs.Number.{Wide}
use Rattle.reading.specs.Answer.{not_words}
use Rattle.grammar.specs.Expr.{VarName, op_add, op_sub, op_mul, op_div, op_mod, rel_eq, rel_ne, rel_gt, rel_ge, rel_lt, rel_le, Kind, k_num, k_bool, k_str, k_bit_vec, k_fresh, k_named, k_bin, k_atom, k_let, k_theory, k_is_ctor, k_exists, k_let_fresh}
use Rattle.grammar.specs.Scope.{var_of}
use Rattle.judging.specs.Judge.{reads, FromWords, ◌>>=◌, ret, fail, word, word_below, among, or_fail, choose, two_words, four_words, Plan, operands_of, arguments_of, plan, span_within, name_within, binders_at, kinds, header}
use Rattle.words.specs.Quads.{as_quad}
use Rattle.nodes.specs.Node.{quad_of, node_of, nodes_at, or_other, node_at}
use Rattle.words.specs.Spans.{told_span}
use Rattle.nodes.specs.declared.kind.Node.{Node}
use Rattle.nodes.specs.declared.kind.Node.TheVariants as told
use Rattle.judging.proofs.Missed.{Missed, before, above}
use Rattle.judging.proofs.SpellKind.{binders-count}
use Rattle.judging.proofs.Taken.{never-reads, first_read, same-value, same_end, word_read}

-- Behind the end there is nothing to be found.
pub behind-end : (ws : List ℕ) (i : ℕ) → length ws ≤ i → get_or ws i 0 ≡ 0
behind-end [] zero h = refl
behind-end [] (suc i) h = refl
behind-end (w ∷ ws) zero h = absurd (omega (arith, h))
behind-end (w ∷ ws) (suc i) h = behind-end ws i (omega (arith, h))

past : {A : Type 0} (xs : List A) (k : ℕ) → length xs ≤ k → among xs k ≡ nothing
past [] k h = refl
past (x ∷ xs) zero h = absurd (omega (arith, h))
past (x ∷ xs) (suc k) h = past xs k (omega (arith, h))

module _ (ws : List ℕ) (at : ℕ) where
  -- A kind by its number, and numbers that are none.
  pub told_at : (k : ℕ) {r : Node} → 32 ≤ k → get_or ws at 0 ≡ k → r ≡ or_other (among (nodes_at ws (at + 1)) (k - 32)) → r ≡ node_at ws at
  unfolding node_at pick
  told_at k {r} low e q = rw (e, le-ltb k 32 low) q

  pub told-out : length ws ≤ at → told.Other ≡ node_at ws at
  unfolding node_at pick
  told-out h = rw (behind-end ws at h) refl

  -- None of the kinds: 38 is an application.
  pub told-rest : Missed (Missed (Unit {0}) (get_or ws at 0) 32 6) (get_or ws at 0) 39 14 → told.Other ≡ node_at ws at
  unfolding node_at nodes_at pick
  told-rest h = go (ltb w 32) (eqb w 38) refl refl
    where
      w : ℕ
      w = get_or ws at 0

      go : (low app : Bool) → ltb w 32 ≡ low → eqb w 38 ≡ app → told.Other ≡ pick low told.Other (or_other (among (nodes_at ws (at + 1)) (w - 32)))
      go true app e f = refl
      go false true e f = rw (eqb-true w 38 f) refl
      go false false e f =
          let l : 38 ≤ w = above _ w 32 6 (before _ w 39 14 h) (ltb-false w 32 e) in
          let k : 53 ≤ w = above _ w 39 14 h (omega (arith, l, eqb-false w 38 f)) in
          rw (past (nodes_at ws (at + 1)) (w - 32) (omega (arith, k))) refl

-- A value that is kept by a test.
kept : {A : Type 0} (t : Bool) (a : A) (ws : List ℕ) (at : ℕ) {b : A} {n : ℕ} → pick t (ret a) (fail not_words) ws at ≡ reads b n → b ≡ a
unfolding pick
kept true a ws at e = sym (same-value e)
kept false a ws at e = never-reads e

-- What the readers of fields say of the words.
module _ (ws : List ℕ) (at : ℕ) where
  two_is : {k n : ℕ} → two_words ws at ≡ reads k n → k ≡ get_or ws at 0 + get_or ws (at + 1) 0 * 2 ^ 32
  unfolding two_words
  two_is e =
      first_read (word ws at) _ ws e λ a m x y.
      first_read (word ws m) _ ws y λ b l u v.
      let p = word_read ws at x in
      let q = word_read ws m u in
      sym (same-value v) ∙ rw (p.0, q.0, p.1)

  four_is : {v : Wide} {n : ℕ} → four_words ws at ≡ reads v n → (v ≡ record { a = get_or ws at 0; b = get_or ws (at + 1) 0; c = get_or ws (at + 2) 0; d = get_or ws (at + 3) 0 }) × (n ≡ at + 4)
  unfolding four_words
  four_is e =
      first_read (word ws at) _ ws e λ a i x y.
      first_read (word ws i) _ ws y λ b j z w.
      first_read (word ws j) _ ws w λ c k u t.
      first_read (word ws k) _ ws t λ d l s r.
      let p = word_read ws at x in
      let q = word_read ws i z in
      let g = word_read ws j u in
      let h = word_read ws k s in
      let one : i ≡ at + 1 = p.1 in
      let two : j ≡ at + 2 = omega (arith, one, q.1) in
      let three : k ≡ at + 3 = omega (arith, two, g.1) in
      let end : l ≡ at + 4 = omega (arith, three, h.1) in
      (sym (same-value r) ∙ rw (p.0, q.0, g.0, h.0, one, two, three), sym (same_end r) ∙ end)

  span-is : (limit : ℕ) {s : Span} {n : ℕ} → span_within limit ws at ≡ reads s n → s ≡ record { start = get_or ws at 0; len = get_or ws (at + 1) 0 }
  unfolding span_within
  span-is limit e =
      first_read (word ws at) _ ws e λ a m x y.
      first_read (word ws m) _ ws y λ b l u v.
      let p = word_read ws at x in
      let q = word_read ws m u in
      kept (leb (a + b) limit) (record { start = a; len = b }) ws l v ∙ rw (p.0, q.0, p.1)

  name-is : (limit : ℕ) {x : VarName} {n : ℕ} → name_within limit ws at ≡ reads x n → x ≡ var_of (record { start = get_or ws at 0; len = get_or ws (at + 1) 0 })
  unfolding name_within
  name-is limit e =
      first_read (span_within limit ws at) _ ws e λ s m x y.
      sym (same-value y) ∙ ap var_of (span-is limit x)

  below-is : (bound : ℕ) {k n : ℕ} → word_below bound ws at ≡ reads k n → k ≡ get_or ws at 0
  unfolding word_below
  below-is bound e =
      first_read (word ws at) _ ws e λ a m x y.
      kept (ltb a bound) a ws m y ∙ (word_read ws at x).0

-- A reader of fields reads what is told of them.
abbrev Tells : List ℕ → ℕ → FromWords Plan → Node → Type 0
Tells ws at r x = (k : Kind) (n b : ℕ) → r ws at ≡ reads (operands_of k n) b → x ≡ node_of k

abbrev TellAll : List ℕ → ℕ → List (FromWords Plan) → List Node → Type 0
TellAll ws at [] [] = Unit {0}
TellAll ws at [] (x ∷ xs) = ⊥
TellAll ws at (r ∷ rs) [] = ⊥
TellAll ws at (r ∷ rs) (x ∷ xs) = Tells ws at r x × TellAll ws at rs xs

among-tells : (ws : List ℕ) (at : ℕ) (rs : List (FromWords Plan)) (xs : List Node) → TellAll ws at rs xs → (j : ℕ) → Tells ws at (or_fail (among rs j)) (or_other (among xs j))
among-tells ws at [] [] t j k n b e = never-reads e
among-tells ws at [] (x ∷ xs) t j k n b e = absurd t
among-tells ws at (r ∷ rs) [] t j k n b e = absurd t
among-tells ws at (r ∷ rs) (x ∷ xs) t zero k n b e = t.0 k n b e
among-tells ws at (r ∷ rs) (x ∷ xs) t (suc j) k n b e = among-tells ws at rs xs t.1 j k n b e

-- The kind in a plan.
plan-kind : {k l : Kind} {m n a b : ℕ} → reads (operands_of k m) a ≡ reads (operands_of l n) b → k ≡ l
plan-kind e = cc

no_kind : {P : Type 0} {l : Kind} {f : Bool} {m n a b : ℕ} → reads (arguments_of f m) a ≡ reads (operands_of l n) b → P
no_kind e = let z : ◌≡◌ {A = ℕ} 0 1 = cc in absurd (omega arith)

-- Kinds that have no fields.
plainly : (ws : List ℕ) (at : ℕ) (l : Kind) (m : ℕ) → Tells ws at (plan l m) (node_of l)
plainly ws at l m k n b e = ap node_of (plan-kind e)

-- Kinds by one reading of their fields.
by-fields : {A : Type 0} (ws : List ℕ) (at : ℕ) (p : FromWords A) (f : A → Kind) (m : ℕ) (x : Node) → ((a : A) (n : ℕ) → p ws at ≡ reads a n → x ≡ node_of (f a)) → Tells ws at (p >>= λ a. plan (f a) m) x
by-fields ws at p f m x h k n b e = first_read (p ws at) _ ws e λ a i y z. h a i y ∙ ap node_of (plan-kind z)

-- And, Or: any number of operands.
by_count : (ws : List ℕ) (at : ℕ) (l : Kind) → Tells ws at (word >>= λ m. plan l m) (node_of l)
by_count ws at l k n b e = first_read (word ws at) _ ws e λ a i y z. ap node_of (plan-kind z)

-- One of several kinds, by a word that is told.
abbrev NumberedFrom : ℕ → (ℕ → Node) → List Kind → Type 0
NumberedFrom i f [] = Unit {0}
NumberedFrom i f (l ∷ ls) = (f i ≡ node_of l) × NumberedFrom (suc i) f ls

-- Kinds that have no fields.
abbrev pub plans_of : ℕ → List Kind → List (FromWords Plan)
plans_of m [] = []
plans_of m (l ∷ ls) = plan l m ∷ plans_of m ls

numbered-tells : (ws : List ℕ) (at m i : ℕ) (f : ℕ → Node) (ls : List Kind) → NumberedFrom i f ls → (j : ℕ) → Tells ws at (or_fail (among (plans_of m ls) j)) (f (i + j))
numbered-tells ws at m i f [] h j k n b e = never-reads e
numbered-tells ws at m i f (l ∷ ls) h zero k n b e =
    let z : i + 0 ≡ i = omega arith in
    ap f z ∙ h.0 ∙ ap node_of (plan-kind e)
numbered-tells ws at m i f (l ∷ ls) h (suc j) k n b e =
    let z : i + suc j ≡ suc i + j = omega arith in
    ap f z ∙ numbered-tells ws at m (suc i) f ls h.1 j k n b e

by_number_lem : (ws : List ℕ) (at m : ℕ) (f : ℕ → Node) (ls : List Kind) → NumberedFrom 0 f ls → Tells ws at (word >>= λ w. choose 0 (plans_of m ls) w) (f (get_or ws at 0))
unfolding choose pick
by_number_lem ws at m f ls h k n b e =
    first_read (word ws at) _ ws e λ w i x y.
    let z : w - 0 ≡ w = omega arith in
    let q : or_fail (among (plans_of m ls) w) ws i ≡ reads (operands_of k n) b = rw (le-ltb w 0 (omega arith), z) at y in
    let o : 0 + w ≡ w = omega arith in
    ap f (sym (word_read ws at x).0) ∙ (ap f (sym o) ∙ numbered-tells ws i m 0 f ls h w k n b q)

by-binders : (limit : ℕ) (ws : List ℕ) (at : ℕ) → Tells ws at (word >>= λ m. binders_at limit m >>= λ bs. plan (k_exists bs) 1) (told.Exists (get_or ws at 0))
by-binders limit ws at k n b e =
    first_read (word ws at) _ ws e λ m i x y.
    first_read (binders_at limit m ws i) _ ws y λ bs j u v.
    ap told.Exists (sym (word_read ws at x).0 ∙ sym (binders-count limit ws i m u)) ∙ ap node_of (plan-kind v)

by_bits : (ws : List ℕ) (at : ℕ) → Tells ws at (four_words >>= λ v. word >>= λ width. plan (k_bit_vec v width) 0) (told.BitVec (quad_of ws at) (get_or ws (at + 4) 0))
by_bits ws at k n b e =
    first_read (four_words ws at) _ ws e λ v i x y.
    first_read (word ws i) _ ws y λ width j u w.
    let p = four_is ws at x in
    let q = word_read ws i u in
    let z : get_or ws (at + 4) 0 ≡ width = sym (q.0 ∙ ap (λ (m : ℕ). get_or ws m 0) p.1) in
    rw (z) (ap (λ (o : Wide). told.BitVec (as_quad o) width) (sym p.0) ∙ ap node_of (plan-kind w))

by-arguments : (ws : List ℕ) (at : ℕ) (x : Node) → Tells ws at (word_below 2 >>= λ f. word >>= λ m. ret (arguments_of (eqb f 1) m)) x
by-arguments ws at x k n b e =
    first_read (word_below 2 ws at) _ ws e λ f i y z.
    first_read (word ws i) _ ws z λ m j u v. no_kind v

-- All the kinds.
kinds_tell : (limit : ℕ) (ws : List ℕ) (at : ℕ) → TellAll ws at (kinds limit) (nodes_at ws at)
unfolding kinds nodes_at
kinds_tell limit ws at = (
  by-fields ws at four_words k_num 0 _ (λ v n e. ap (λ (o : Wide). told.Num (as_quad o)) (sym (four_is ws at e).0)),
  (
    by-fields ws at (word_below 2) (λ b. k_bool (eqb b 1)) 0 _ (λ b n e. ap (λ (o : ℕ). told.Bool (eqb o 1)) (sym (below-is ws at 2 e))),
    (
      by-fields ws at (span_within limit) k_str 0 _ (λ s n e. ap (λ (o : Span). told.Str (told_span o)) (sym (span-is ws at limit e))),
      (
        by_bits ws at,
        (
          by-fields ws at two_words k_fresh 0 _ (λ k n e. ap told.Fresh (sym (two_is ws at e))),
          (
            by-fields ws at (name_within limit) k_named 0 _ (λ x n e. ap (λ (o : VarName). told.Named (told_span o.span)) (sym (name-is ws at limit e))),
            (
              by-arguments ws at _,
              (
                plainly ws at _ _,
                (
                  by_number_lem ws at 2 told.Bin (k_bin op_add ∷ k_bin op_sub ∷ k_bin op_mul ∷ k_bin op_div ∷ k_bin op_mod ∷ []) (refl, (refl, (refl, (refl, (refl, tt))))),
                  (
                    plainly ws at _ _,
                    (
                      by_count ws at _,
                      (
                        by_count ws at _,
                        (
                          plainly ws at _ _,
                          (
                            plainly ws at _ _,
                            (
                              plainly ws at _ _,
                              (
                                by_number_lem ws at 2 told.Atom (k_atom rel_eq ∷ k_atom rel_ne ∷ k_atom rel_gt ∷ k_atom rel_ge ∷ k_atom rel_lt ∷ k_atom rel_le ∷ []) (refl, (refl, (refl, (refl, (refl, (refl, tt)))))),
                                (
                                  by-fields ws at (name_within limit) k_let 2 _ (λ x n e. ap (λ (o : VarName). told.Let (told_span o.span)) (sym (name-is ws at limit e))),
                                  (
                                    by-fields ws at (word_below 42) k_theory 0 _ (λ k n e. ap told.Theory (sym (below-is ws at 42 e))),
                                    (
                                      by-fields ws at (name_within limit) k_is_ctor 1 _ (λ x n e. ap (λ (o : VarName). told.IsCtor (told_span o.span)) (sym (name-is ws at limit e))),
                                      (
                                        by-binders limit ws at,
                                        (by-fields ws at two_words k_let_fresh 2 _ (λ k n e. ap told.LetFresh (sym (two_is ws at e))), tt),
                                      ),
                                    ),
                                  ),
                                ),
                              ),
                            ),
                          ),
                        ),
                      ),
                    ),
                  ),
                ),
              ),
            ),
          ),
        ),
      ),
    ),
  ),
)

kind_picked : (limit : ℕ) (ws : List ℕ) (m w : ℕ) (t : Bool) {k : Kind} {n a : ℕ} → pick t (fail not_words) (or_fail (among (kinds limit) (w - 32))) ws m ≡ reads (operands_of k n) a → pick t told.Other (or_other (among (nodes_at ws m) (w - 32))) ≡ node_of k
unfolding pick
kind_picked limit ws m w true e = never-reads e
kind_picked limit ws m w false {k} {n} {a} e = among-tells ws m (kinds limit) (nodes_at ws m) (kinds_tell limit ws m) (w - 32) k n a e

-- A kind that was read is told.
pub node-told : (limit : ℕ) (ws : List ℕ) (at : ℕ) {k : Kind} {n a : ℕ} → header limit ws at ≡ reads (operands_of k n) a → node_at ws at ≡ node_of k
unfolding header choose node_at
node-told limit ws at {k} {n} {a} e =
    first_read (word ws at) _ ws e λ w m x y.
    let p = word_read ws at x in
    rw (← p.0, ← p.1) (kind_picked limit ws m w (ltb w 32) y)
