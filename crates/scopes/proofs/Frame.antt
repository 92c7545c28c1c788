-- Entries of the lent scopes: what is kept, and one entry more.
use Rattle.std.proofs.Common.{◌≡◌, ℕ, zero, suc, ◌+◌, ◌*◌, ◌<◌, ◌≤◌, Bool, true, false, eqb, List, [], ◌∷◌, length, get_or, set, refl, ◌∙◌, subst, arith, length-set, get_or-set_other, get_or-set_same}
use Rattle.reading.specs.Pick.{pick}
use Rattle.grammar.specs.Scope.{Scope}
use Rattle.scopes.specs.Scopes.{Pairs, IsScope, Opened, Kept, pushed, deeper, inner}

-- Nothing changed; twice; fewer entries.
pub kept_same : (es : List ℕ) (d : ℕ) → Kept es es d
kept_same es d = record { same = λ i h. refl }

pub kept_then : {es es₁ es₂ : List ℕ} {d : ℕ} → Kept es es₁ d → Kept es₁ es₂ d → Kept es es₂ d
kept_then k l = record { same = λ i h. l.same i h ∙ k.same i h }

pub kept-fewer : {es es₁ : List ℕ} {d : ℕ} (c : ℕ) → c ≤ d → Kept es es₁ d → Kept es es₁ c
kept-fewer c h k = record { same = λ i l. k.same i (omega arith) }

-- The entries below a depth say what the scopes are.
pub opened-kept : (ws es es' : List ℕ) (d : ℕ) (sc : List Scope) → Kept es es' d → Opened ws es d sc → Opened ws es' d sc
opened-kept ws es es' zero [] k o = tt
opened-kept ws es es' zero (s ∷ sc) k o = o
opened-kept ws es es' (suc d) [] k o = o
opened-kept ws es es' (suc d) (s ∷ sc) k o = (
  rw (k.same (3 * d) (omega arith), k.same (3 * d + 1) (omega arith), k.same (3 * d + 2) (omega arith)) o.0,
  opened-kept ws es es' d sc (kept-fewer d (omega arith) k) o.1,
)

module _ (es : List ℕ) (d at n k : ℕ) where
  three : List ℕ
  three = set (set (set es (3 * d) at) (3 * d + 1) n) (3 * d + 2) k

  three-length : length three ≡ length es
  unfolding three
  three-length = length-set (set (set es (3 * d) at) (3 * d + 1) n) (3 * d + 2) k ∙ length-set (set es (3 * d) at) (3 * d + 1) n ∙ length-set es (3 * d) at

  three-other : (i : ℕ) → i < 3 * d → get_or three i 0 ≡ get_or es i 0
  unfolding three
  three-other i h =
      get_or-set_other (set (set es (3 * d) at) (3 * d + 1) n) (3 * d + 2) i k 0 (λ e. omega arith)
      ∙ get_or-set_other (set es (3 * d) at) (3 * d + 1) i n 0 (λ e. omega arith)
      ∙ get_or-set_other es (3 * d) i at 0 (λ e. omega arith)

  module _ (h : 3 * d + 3 ≤ length es) where
    three_0 : get_or three (3 * d) 0 ≡ at
    unfolding three
    three_0 =
        get_or-set_other (set (set es (3 * d) at) (3 * d + 1) n) (3 * d + 2) (3 * d) k 0 (λ e. omega arith)
        ∙ get_or-set_other (set es (3 * d) at) (3 * d + 1) (3 * d) n 0 (λ e. omega arith)
        ∙ get_or-set_same es (3 * d) at 0 (omega arith)

    three_1 : get_or three (3 * d + 1) 0 ≡ n
    unfolding three
    three_1 =
        get_or-set_other (set (set es (3 * d) at) (3 * d + 1) n) (3 * d + 2) (3 * d + 1) k 0 (λ e. omega arith)
        ∙ get_or-set_same (set es (3 * d) at) (3 * d + 1) n 0 (omega (arith, length-set es (3 * d) at))

    three_2 : get_or three (3 * d + 2) 0 ≡ k
    unfolding three
    three_2 = get_or-set_same (set (set es (3 * d) at) (3 * d + 1) n) (3 * d + 2) k 0 (omega (arith, length-set es (3 * d) at, length-set (set es (3 * d) at) (3 * d + 1) n))

  -- One entry more is above all that are there.
  pub pushed-kept : Kept es (pushed es d at n k) d
  unfolding pushed pick three
  pushed-kept = go (eqb at 0)
    where
      go : (t : Bool) → Kept es (pick t es three) d
      go true = kept_same es d
      go false = record { same = three-other }

  pub pushed-length : length (pushed es d at n k) ≡ length es
  unfolding pushed pick three
  pushed-length = go (eqb at 0)
    where
      go : (t : Bool) → length (pick t es three) ≡ length es
      go true = refl
      go false = three-length

  pub deeper-least : d ≤ deeper d at
  unfolding deeper pick
  deeper-least = go (eqb at 0)
    where
      go : (t : Bool) → d ≤ pick t d (d + 1)
      go true = omega arith
      go false = omega arith

  pub deeper-most : deeper d at ≤ d + 1
  unfolding deeper pick
  deeper-most = go (eqb at 0)
    where
      go : (t : Bool) → pick t d (d + 1) ≤ d + 1
      go true = omega arith
      go false = omega arith

  -- The scopes inside.
  pub pushed-opened : (ws : List ℕ) (b : Pairs ws at n) (sc : List Scope) → Opened ws es d sc → 3 * d + 3 ≤ length es → Opened ws (pushed es d at n k) (deeper d at) (inner at b.names k sc)
  unfolding pushed deeper inner pick three
  pushed-opened ws b sc o h = go (eqb at 0) refl
    where
      go : (t : Bool) → eqb at 0 ≡ t → Opened ws (pick t es three) (pick t d (d + 1)) (pick t sc (record { names = b.names; first = k } ∷ sc))
      go true e = o
      go false e =
          let s : IsScope ws at n k (record { names = b.names; first = k }) = record { place = b; names = refl; first = refl } in
          let z : suc d ≡ d + 1 = omega arith in
          let x : IsScope ws (get_or three (3 * d) 0) (get_or three (3 * d + 1) 0) (get_or three (3 * d + 2) 0) (record { names = b.names; first = k }) = rw (three_0 h, three_1 h, three_2 h) s in
          subst (λ (j : ℕ). Opened ws three j (record { names = b.names; first = k } ∷ sc)) z (x, opened-kept ws es three d sc (record { same = three-other }) o)
