-- A flattened expression has codes like the one that it was made from, and nests no deeper: so its words are read back too.
use Prim.Native.Nat.{ℕ, suc, ◌^◌, ◌≤◌, max}
use mathlib.Core.Path.{◌≡◌}
use native.Mathlib.Omega.{arith}
use lib.ListN.{length}
use Rattle.reading.specs.Limits.{max_nodes}
use Rattle.reading.specs.Bytes.{Maybe}
use Rattle.grammar.specs.Sort.{Sort}
use Rattle.grammar.specs.Item.{words_of}
use Rattle.grammar.specs.Expr.{Expr, Exprs, node, app, enil, econs, expr_items}
use Rattle.grammar.specs.Shape.{MaybeSortCoded, Coded, CodedAll, depth, depths}
use Rattle.flattening.specs.Uncurry.{join, applied, uncurry, uncurry_all}
use Rattle.judging.specs.Judge.{reads, judge_expr}
use Rattle.judging.proofs.Back.{judged-back}
use Rattle.flattening.proofs.Uncurry.{exprs-uncurry}

module _ (limit numbers : ℕ) where
  -- Joined and applied expressions are coded as before.
  coded-join : (fs es : Exprs) → CodedAll fs limit numbers → CodedAll es limit numbers → CodedAll (join fs es) limit numbers
  unfolding join
  coded-join enil es p q = q
  coded-join (econs f fs) es p q = (p.0, coded-join fs es p.1 q)

  coded-applied : (o : Maybe Sort) (es : Exprs) (h : Expr) → CodedAll es limit numbers → MaybeSortCoded o limit → Coded h limit numbers → Coded (applied o es h) limit numbers
  unfolding applied
  coded-applied o es (node k fs) p m q = (p, m, q)
  coded-applied o es (app o' fs h) p m q = (coded-join fs es q.0 p, m, q.2)

  mutual
    unfolding uncurry

    -- A flattened expression is coded as before.
    pub uncurry-coded : (e : Expr) → Coded e limit numbers → Coded (uncurry e) limit numbers
    uncurry-coded (node k es) h = (rw (exprs-uncurry es) h.0, h.1, uncurry-all-coded es h.2)
    uncurry-coded (app o es f) h = coded-applied o (uncurry_all es) (uncurry f) (uncurry-all-coded es h.0) h.1 (uncurry-coded f h.2)

    -- The same for several expressions.
    pub uncurry-all-coded : (es : Exprs) → CodedAll es limit numbers → CodedAll (uncurry_all es) limit numbers
    uncurry-all-coded enil h = tt
    uncurry-all-coded (econs e es) h = (uncurry-coded e h.0, uncurry-all-coded es h.1)

-- Joined expressions nest as deep as the deeper ones.
depths-join : (fs es : Exprs) → depths (join fs es) ≡ max (depths fs) (depths es)
unfolding join depth
depths-join enil es = omega arith
depths-join (econs f fs) es = rw (depths-join fs es) (omega arith)

-- Joining a head's arguments makes nothing deeper.
applied-depth : (o : Maybe Sort) (es : Exprs) (h : Expr) → depth (applied o es h) ≤ suc (max (depths es) (depth h))
unfolding applied depth
applied-depth o es (node k fs) = omega arith
applied-depth o es (app o' fs h) = rw (depths-join fs es) (omega arith)

mutual
  unfolding uncurry depth

  -- A flattened expression nests no deeper.
  pub uncurry-depth : (e : Expr) → depth (uncurry e) ≤ depth e
  uncurry-depth (node k es) = omega (arith, uncurry-depths es)
  uncurry-depth (app o es h) = omega (arith, applied-depth o (uncurry_all es) (uncurry h), uncurry-depths es, uncurry-depth h)

  -- The same for several expressions.
  pub uncurry-depths : (es : Exprs) → depths (uncurry_all es) ≤ depths es
  uncurry-depths enil = omega arith
  uncurry-depths (econs e es) = omega (arith, uncurry-depth e, uncurry-depths es)

-- The words of a flattened expression are judged as that expression.
pub judged-flat : (limit numbers : ℕ) → numbers ≤ 2 ^ 64 → (e : Expr) → Coded e limit numbers → depth e ≤ max_nodes → judge_expr limit (words_of (expr_items (uncurry e))) ≡ reads (uncurry e) (length (words_of (expr_items (uncurry e))))
judged-flat limit numbers few e c h = judged-back limit numbers few (uncurry e) (uncurry-coded limit numbers e c) (omega (arith, uncurry-depth e, h))
