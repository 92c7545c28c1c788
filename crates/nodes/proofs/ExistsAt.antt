-- The binders of an exists are read two words behind its place.
use Prim.Native.Nat.{ℕ, zero, suc, ◌+◌, ◌-◌, ◌<◌}
use mathlib.Core.Path.{◌≡◌, refl, sym, ap, ◌∙◌}
use mathlib.Core.List.{List, [], ◌∷◌}
use native.Mathlib.Omega.{arith}
use lib.Dec.{eqb, ltb}
use lib.ListN.{length}
use Rattle.reading.specs.Answer.{not_words}
use Rattle.reading.proofs.Picks.{pick-holds}
use Rattle.grammar.specs.Expr.{op_add, op_sub, op_mul, op_div, op_mod, rel_eq, rel_ne, rel_gt, rel_ge, rel_lt, rel_le, Binder, Kind, k_num, k_bool, k_str, k_bit_vec, k_fresh, k_named, k_neg, k_bin, k_if, k_and, k_or, k_not, k_imp, k_iff, k_atom, k_let, k_theory, k_is_ctor, k_exists, k_let_fresh, outside}
use Rattle.grammar.specs.Shape.{opens_scope}
use Rattle.judging.specs.Judge.{reads, FromWords, ◌>>=◌, ret, fail, word, word_below, among, or_fail, choose, two_words, four_words, Plan, operands_of, arguments_of, plan, span_within, name_within, binders_at, kinds, header}
use Rattle.nodes.specs.Node.{node_of}
use Rattle.nodes.specs.declared.kind.Node.TheVariants as told
use Rattle.judging.proofs.SpellKind.{binders-count}
use Rattle.nodes.proofs.NodeAt.{plans_of}
use Rattle.judging.proofs.Taken.{never-reads, first_read, word_read}

module _ (limit : ℕ) (ws : List ℕ) where
  -- Where an exists is read, its binders are read one word behind.
  abbrev Finds : FromWords Plan → Type 0
  Finds r = (at n b : ℕ) (bs : List Binder) → r ws at ≡ reads (operands_of (k_exists bs) n) b → (j : ℕ) × (binders_at limit (length bs) ws (at + 1) ≡ reads bs j)

  -- No exists is read.
  abbrev Never : FromWords Plan → ℕ → Type 0
  Never r at = (n b : ℕ) (bs : List Binder) → r ws at ≡ reads (operands_of (k_exists bs) n) b → ⊥

  -- Every kind but an exists opens as many scopes as operands of it stand outside them.
  abbrev NoExists : Kind → Type 0
  NoExists k = opens_scope k ≡ outside k

  never-plan : (k : Kind) (m : ℕ) → NoExists k → (at : ℕ) → Never (plan k m) at
  never-plan k m h at n b bs e =
      let z : k ≡ k_exists bs = cc in
      let y : ◌≡◌ {A = ℕ} 1 0 = sym (ap opens_scope z) ∙ h ∙ ap outside z in
      omega (arith, y)

  -- Kinds that have no fields, and kinds by one reading of them.
  plainly : (k : Kind) (m : ℕ) → NoExists k → Finds (plan k m)
  plainly k m h at n b bs e = absurd (never-plan k m h at n b bs e)

  by-fields : {A : Type 0} (p : FromWords A) (f : A → Kind) (m : ℕ) → ((a : A) → NoExists (f a)) → Finds (p >>= λ a. plan (f a) m)
  by-fields p f m h at n b bs e = first_read (p ws at) _ ws e λ a i x y. absurd (never-plan (f a) m (h a) i n b bs y)

  -- And, Or: any number of operands.
  by_count : (k : Kind) → NoExists k → Finds (word >>= λ m. plan k m)
  by_count k h at n b bs e = first_read (word ws at) _ ws e λ m i x y. absurd (never-plan k m h i n b bs y)

  by_bits : Finds (four_words >>= λ v. word >>= λ width. plan (k_bit_vec v width) 0)
  by_bits at n b bs e =
      first_read (four_words ws at) _ ws e λ v i x y.
      first_read (word ws i) _ ws y λ width j u w. absurd (never-plan (k_bit_vec v width) 0 refl j n b bs w)

  by-arguments : Finds (word_below 2 >>= λ f. word >>= λ m. ret (arguments_of (eqb f 1) m))
  by-arguments at n b bs e =
      first_read (word_below 2 ws at) _ ws e λ f i x y.
      first_read (word ws i) _ ws y λ m j u w.
      let z : ◌≡◌ {A = ℕ} 0 1 = cc in
      absurd (omega (arith, z))

  -- One of several kinds, by a word.
  abbrev AllPlain : List Kind → Type 0
  AllPlain [] = Unit {0}
  AllPlain (k ∷ ks) = NoExists k × AllPlain ks

  never-among : (m : ℕ) (ks : List Kind) → AllPlain ks → (j at : ℕ) → Never (or_fail (among (plans_of m ks) j)) at
  never-among m [] h j at n b bs e = never-reads e
  never-among m (k ∷ ks) h zero at n b bs e = never-plan k m h.0 at n b bs e
  never-among m (k ∷ ks) h (suc j) at n b bs e = never-among m ks h.1 j at n b bs e

  by_number_lem : (m : ℕ) (ks : List Kind) → AllPlain ks → Finds (word >>= λ k. choose 0 (plans_of m ks) k)
  unfolding choose
  by_number_lem m ks h at n b bs e =
      first_read (word ws at) _ ws e λ k i x y.
      absurd (pick-holds (ltb k 0) (fail not_words) (or_fail (among (plans_of m ks) (k - 0))) (λ r. Never r i) (λ n b bs e. never-reads e) (never-among m ks h (k - 0) i) n b bs y)

  abbrev FindsAll : List (FromWords Plan) → Type 0
  FindsAll [] = Unit {0}
  FindsAll (r ∷ rs) = Finds r × FindsAll rs

  finds-among : (rs : List (FromWords Plan)) → FindsAll rs → (j : ℕ) → Finds (or_fail (among rs j))
  finds-among [] h j at n b bs e = never-reads e
  finds-among (r ∷ rs) h zero at n b bs e = h.0 at n b bs e
  finds-among (r ∷ rs) h (suc j) at n b bs e = finds-among rs h.1 j at n b bs e

  finds-exists : Finds (word >>= λ m. binders_at limit m >>= λ cs. plan (k_exists cs) 1)
  finds-exists at n b bs e =
      first_read (word ws at) _ ws e λ m i x y.
      first_read (binders_at limit m ws i) _ ws y λ cs j u v.
      let z : cs ≡ bs = cc in
      let c : length bs ≡ m = ap length (sym z) ∙ binders-count limit ws i m u in
      (j, rw (c, ← (word_read ws at x).1, ← z) u)

  -- All the kinds.
  kinds_find : FindsAll (kinds limit)
  unfolding kinds
  kinds_find = (by-fields four_words k_num 0 (λ v. refl), (by-fields (word_below 2) (λ b. k_bool (eqb b 1)) 0 (λ b. refl), (by-fields (span_within limit) k_str 0 (λ s. refl), (by_bits, (by-fields two_words k_fresh 0 (λ k. refl), (by-fields (name_within limit) k_named 0 (λ x. refl), (by-arguments, (plainly k_neg 1 refl, (by_number_lem 2 (k_bin op_add ∷ k_bin op_sub ∷ k_bin op_mul ∷ k_bin op_div ∷ k_bin op_mod ∷ []) (refl, (refl, (refl, (refl, (refl, tt))))), (plainly k_if 3 refl, (by_count k_and refl, (by_count k_or refl, (plainly k_not 1 refl, (plainly k_imp 2 refl, (plainly k_iff 2 refl, (by_number_lem 2 (k_atom rel_eq ∷ k_atom rel_ne ∷ k_atom rel_gt ∷ k_atom rel_ge ∷ k_atom rel_lt ∷ k_atom rel_le ∷ []) (refl, (refl, (refl, (refl, (refl, (refl, tt)))))), (by-fields (name_within limit) k_let 2 (λ x. refl), (by-fields (word_below 42) k_theory 0 (λ k. refl), (by-fields (name_within limit) k_is_ctor 1 (λ x. refl), (finds-exists, (by-fields two_words k_let_fresh 2 (λ k. refl), tt)))))))))))))))))))))

  pub exists-binders : (at : ℕ) {bs : List Binder} {n a : ℕ} → header limit ws at ≡ reads (operands_of (k_exists bs) n) a → (j : ℕ) × (binders_at limit (length bs) ws (at + 2) ≡ reads bs j)
  unfolding header choose
  exists-binders at {bs} {n} {a} e =
      first_read (word ws at) _ ws e λ k i x y.
      let f = pick-holds (ltb k 32) (fail not_words) (or_fail (among (kinds limit) (k - 32))) Finds (λ at n b bs e. never-reads e) (finds-among (kinds limit) kinds_find (k - 32)) i n a bs y in
      let z : i + 1 ≡ at + 2 = omega (arith, (word_read ws at x).1) in
      (f.0, rw z at f.1)

  -- A header is read inside the words.
  pub header-inside : (at : ℕ) {p : Plan} {a : ℕ} → header limit ws at ≡ reads p a → at < length ws
  unfolding header
  header-inside at e = first_read (word ws at) _ ws e λ k i x y. (word_read ws at x).2

-- Only an exists is told as one.
pub exists-told : (k : Kind) {m : ℕ} → told.Exists m ≡ node_of k → (bs : List Binder) × (k ≡ k_exists bs) × (m ≡ length bs)
exists-told (k_num v) e = let z : ◌≡◌ {A = ℕ} 0 1 = cc in absurd (omega (arith, z))
exists-told (k_bool b) e = let z : ◌≡◌ {A = ℕ} 0 1 = cc in absurd (omega (arith, z))
exists-told (k_str s) e = let z : ◌≡◌ {A = ℕ} 0 1 = cc in absurd (omega (arith, z))
exists-told (k_bit_vec v width) e = let z : ◌≡◌ {A = ℕ} 0 1 = cc in absurd (omega (arith, z))
exists-told (k_fresh k) e = let z : ◌≡◌ {A = ℕ} 0 1 = cc in absurd (omega (arith, z))
exists-told (k_named x) e = let z : ◌≡◌ {A = ℕ} 0 1 = cc in absurd (omega (arith, z))
exists-told k_neg e = let z : ◌≡◌ {A = ℕ} 0 1 = cc in absurd (omega (arith, z))
exists-told (k_bin op) e = let z : ◌≡◌ {A = ℕ} 0 1 = cc in absurd (omega (arith, z))
exists-told k_if e = let z : ◌≡◌ {A = ℕ} 0 1 = cc in absurd (omega (arith, z))
exists-told k_and e = let z : ◌≡◌ {A = ℕ} 0 1 = cc in absurd (omega (arith, z))
exists-told k_or e = let z : ◌≡◌ {A = ℕ} 0 1 = cc in absurd (omega (arith, z))
exists-told k_not e = let z : ◌≡◌ {A = ℕ} 0 1 = cc in absurd (omega (arith, z))
exists-told k_imp e = let z : ◌≡◌ {A = ℕ} 0 1 = cc in absurd (omega (arith, z))
exists-told k_iff e = let z : ◌≡◌ {A = ℕ} 0 1 = cc in absurd (omega (arith, z))
exists-told (k_atom r) e = let z : ◌≡◌ {A = ℕ} 0 1 = cc in absurd (omega (arith, z))
exists-told (k_let x) e = let z : ◌≡◌ {A = ℕ} 0 1 = cc in absurd (omega (arith, z))
exists-told (k_theory k) e = let z : ◌≡◌ {A = ℕ} 0 1 = cc in absurd (omega (arith, z))
exists-told (k_is_ctor x) e = let z : ◌≡◌ {A = ℕ} 0 1 = cc in absurd (omega (arith, z))
exists-told (k_exists bs) e = (bs, refl, cc)
exists-told (k_let_fresh k) e = let z : ◌≡◌ {A = ℕ} 0 1 = cc in absurd (omega (arith, z))
