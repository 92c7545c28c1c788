-- Laws of flattening: it ends flat, does nothing to what is flat, and joins along the chain of heads.
use Prim.Native.Nat.{ℕ, suc, ◌+◌, ◌≤◌, max}
use mathlib.Core.Path.{◌≡◌, refl, sym, ap, ap₂, ◌∙◌}
use mathlib.Core.List.{◌++◌, append_assoc}
use native.Mathlib.Omega.{arith}
use lib.ListN.{length}
use Rattle.reading.specs.Bytes.{Maybe}
use Rattle.grammar.specs.Sort.{Sort}
use Rattle.grammar.specs.Item.{words_of}
use Rattle.grammar.specs.Expr.{Expr, Exprs, node, app, enil, econs, exprs, kind_items, out_sort, expr_items, exprs_items, Solution, solution_items}
use Rattle.grammar.proofs.Items.{length-words}
use Rattle.grammar.proofs.Lengths.{size, size_all, size-node, size-app, size_cons, size-solution}
use Rattle.flattening.specs.Uncurry.{join, applied, uncurry, uncurry_all, flattened, most_operands, most_operands_all}
use Rattle.flattening.specs.Flat.{gathered, spine, NoApp, Flat, FlatAll}

-- Flattening keeps the number of operands.
pub exprs-uncurry : (es : Exprs) → exprs (uncurry_all es) ≡ exprs es
unfolding uncurry exprs
exprs-uncurry enil = refl
exprs-uncurry (econs e es) = ap suc (exprs-uncurry es)

-- How many joined expressions there are.
pub exprs-join : (fs es : Exprs) → exprs (join fs es) ≡ exprs fs + exprs es
unfolding join exprs
exprs-join enil es = omega arith
exprs-join (econs f fs) es = omega (arith, exprs-join fs es)

-- The items of joined expressions.
pub items-join : (fs es : Exprs) → exprs_items (join fs es) ≡ exprs_items fs ++ exprs_items es
unfolding join expr_items
items-join enil es = refl
items-join (econs f fs) es = ap (λ l. expr_items f ++ l) (items-join fs es) ∙ sym (append_assoc (expr_items f) (exprs_items fs) (exprs_items es))

-- Joined expressions flattened are flattened expressions joined.
pub uncurry-join : (fs es : Exprs) → uncurry_all (join fs es) ≡ join (uncurry_all fs) (uncurry_all es)
unfolding join uncurry
uncurry-join enil es = refl
uncurry-join (econs f fs) es = ap (econs (uncurry f)) (uncurry-join fs es)

-- An application flattened along the chain of its heads.
pub uncurry-chain : (o : Maybe Sort) (es : Exprs) (h : Expr) → uncurry (app o es h) ≡ app o (uncurry_all (join (gathered h) es)) (uncurry (spine h))
unfolding uncurry gathered spine join applied
uncurry-chain o es (node k fs) = refl
uncurry-chain o es (app o' fs h) =
    ap (applied o (uncurry_all es)) (uncurry-chain o' fs h)
    ∙ ap (λ l. app o l (uncurry (spine h))) (sym (uncurry-join (join (gathered h) fs) es))

-- What is flat stays flat when it is joined and applied.
flat-join : (fs es : Exprs) → FlatAll fs → FlatAll es → FlatAll (join fs es)
unfolding join
flat-join enil es p q = q
flat-join (econs f fs) es p q = (p.0, flat-join fs es p.1 q)

flat-applied : (o : Maybe Sort) (es : Exprs) (h : Expr) → FlatAll es → Flat h → Flat (applied o es h)
unfolding applied
flat-applied o es (node k fs) p q = (p, tt, q)
flat-applied o es (app o' fs h) p q = (flat-join fs es q.0 p, q.1, q.2)

mutual
  unfolding uncurry

  -- A flattened expression is flat.
  pub uncurry-flat : (e : Expr) → Flat (uncurry e)
  uncurry-flat (node k es) = uncurry-all-flat es
  uncurry-flat (app o es h) = flat-applied o (uncurry_all es) (uncurry h) (uncurry-all-flat es) (uncurry-flat h)

  -- The same for several expressions.
  pub uncurry-all-flat : (es : Exprs) → FlatAll (uncurry_all es)
  uncurry-all-flat enil = tt
  uncurry-all-flat (econs e es) = (uncurry-flat e, uncurry-all-flat es)

-- A head that is no application stays the head.
applied_plain : (o : Maybe Sort) (es : Exprs) (h : Expr) → NoApp h → applied o es h ≡ app o es h
unfolding applied
applied_plain o es (node k fs) p = refl
applied_plain o es (app o' fs h) p = absurd p

mutual
  unfolding uncurry

  -- Flattening changes nothing that is flat.
  pub flat-same : (e : Expr) → Flat e → uncurry e ≡ e
  flat-same (node k es) p = ap (node k) (flat-all-same es p)
  flat-same (app o es h) p = ap₂ (applied o) (flat-all-same es p.0) (flat-same h p.2) ∙ applied_plain o es h p.1

  -- The same for several expressions.
  pub flat-all-same : (es : Exprs) → FlatAll es → uncurry_all es ≡ es
  flat-all-same enil p = refl
  flat-all-same (econs e es) p = ap₂ econs (flat-same e p.0) (flat-all-same es p.1)

-- Flattening twice is flattening once.
pub idempotent : (e : Expr) → uncurry (uncurry e) ≡ uncurry e
idempotent e = flat-same (uncurry e) (uncurry-flat e)

-- Joining takes away the words of an application and of its output sort.
size-join : (fs es : Exprs) → size_all (join fs es) ≡ size_all fs + size_all es
size-join fs es = ap (λ l. length (words_of l)) (items-join fs es) ∙ length-words (exprs_items fs) (exprs_items es)

applied-shorter : (o : Maybe Sort) (es : Exprs) (h : Expr) → size (applied o es h) ≤ 3 + size_all es + length (words_of (out_sort o)) + size h
unfolding applied
applied-shorter o es (node k fs) = omega (arith, size-app o es (node k fs))
applied-shorter o es (app o' fs h) = omega (arith, size-app o (join fs es) h, size-join fs es, size-app o' fs h)

mutual
  unfolding uncurry

  -- A flattened expression has no more words.
  pub shorter : (e : Expr) → length (words_of (expr_items (uncurry e))) ≤ length (words_of (expr_items e))
  shorter (node k es) =
      omega (arith, size-node k es, size-node k (uncurry_all es), ap (λ n. length (words_of (kind_items k n))) (exprs-uncurry es), shorter-all es)
  shorter (app o es h) = omega (arith, size-app o es h, applied-shorter o (uncurry_all es) (uncurry h), shorter-all es, shorter h)

  -- The same for several expressions.
  pub shorter-all : (es : Exprs) → length (words_of (exprs_items (uncurry_all es))) ≤ length (words_of (exprs_items es))
  shorter-all enil = omega arith
  shorter-all (econs e es) = omega (arith, size_cons e es, size_cons (uncurry e) (uncurry_all es), shorter e, shorter-all es)

-- The same for a solution.
pub solution-shorter : (s : Solution) → length (words_of (solution_items (flattened s))) ≤ length (words_of (solution_items s))
solution-shorter s = omega (arith, size-solution s, size-solution (flattened s), shorter s.body)

-- The largest number of operands among joined expressions.
pub most-join : (fs es : Exprs) → most_operands_all (join fs es) ≡ max (most_operands_all fs) (most_operands_all es)
unfolding join most_operands
most-join enil es = omega arith
most-join (econs f fs) es = rw (most-join fs es) (omega arith)

-- A smaller number adds nothing to the largest of several.
max_absorb : (n g a b c : ℕ) → g ≤ n → max n (max (max a b) c) ≡ max n (max b (max g (max a c)))
max_absorb n g a b c h = ap (max n) regrouped ∙ absorbed (max a c)
  where
    regrouped : max (max a b) c ≡ max b (max a c)
    regrouped = omega arith

    absorbed : (x : ℕ) → max n (max b x) ≡ max n (max b (max g x))
    absorbed x = omega arith

-- The largest number of operands of a flattened application: its joined arguments, what its own arguments have, and what its head has.
pub most-chain : (o : Maybe Sort) (es : Exprs) (h : Expr) → most_operands (uncurry (app o es h)) ≡ max (exprs (join (gathered h) es)) (max (most_operands_all (uncurry_all es)) (most_operands (uncurry h)))
unfolding uncurry gathered spine join applied most_operands
most-chain o es (node k fs) = ap (λ n. max n (max (most_operands_all (uncurry_all es)) (most_operands (uncurry (node k fs))))) (exprs-uncurry es)
most-chain o es (app o' fs h) =
    let g : Exprs = join (gathered h) fs in
    rw (uncurry-chain o es (app o' fs h), uncurry-chain o' fs h, exprs-uncurry (join g es), exprs-uncurry g, uncurry-join g es, most-join (uncurry_all g) (uncurry_all es))
    (max_absorb (exprs (join g es)) (exprs g) (most_operands_all (uncurry_all g)) (most_operands_all (uncurry_all es)) (most_operands (uncurry (spine h))) (omega (arith, exprs-join g es)))

-- The same along the whole chain: the joined arguments and the head at its end.
pub most-spine : (o : Maybe Sort) (es : Exprs) (h : Expr) → most_operands (uncurry (app o es h)) ≡ max (exprs (join (gathered h) es)) (max (most_operands_all (uncurry_all (join (gathered h) es))) (most_operands (uncurry (spine h))))
unfolding most_operands
most-spine o es h =
    rw (uncurry-chain o es h) (ap (λ n. max n (max (most_operands_all (uncurry_all (join (gathered h) es))) (most_operands (uncurry (spine h))))) (exprs-uncurry (join (gathered h) es)))
