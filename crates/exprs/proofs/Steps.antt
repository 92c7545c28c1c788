-- The steps of the parser of expressions, as facts on lists.
use Rattle.std.proofs.Common.{◌≡◌, ℕ, zero, suc, ◌+◌, ◌-◌, ◌*◌, ◌<◌, ◌≤◌, max, true, false, eqb, List, [], ◌∷◌, ◌++◌, length, drop, sym, refl, ap, ◌∙◌, subst, append_assoc, add-zero, arith, length-append, drop-drop, drop_at, ne_eqb}
use native.Mathlib.Nat.{le-max_left, le-max_right}
use Rattle.reading.specs.Limits.{max_lists}
use Rattle.reading.specs.Pick.{pick}
use Rattle.reading.specs.Bytes.{Span}
use Rattle.reading.specs.Tree.{Tree, Trees, trees, tree_words, trees_words, nesting, nestings}
use Rattle.grammar.specs.Scope.{Scope, repeated}
use Rattle.grammar.specs.ParseExpr.{child}
use Rattle.grammar.specs.Written.{W, told, operands_w, end_w, Last, no_last, seen_last, plain_last, bound_last}
use Rattle.places.specs.Spot.{Spot, Seen}
use Rattle.scopes.specs.Scopes.{Opened, Kept, pushed, deeper, inner}
use Rattle.writing.specs.Laid.{laid}
use Rattle.plans.specs.Late.{filled, taken, LateRoom}
use Rattle.plans.specs.Plans.{reached, Parsed, refused, Here, Row, Running, Planned, EndsAt, EndSpot, BoundPair, end_size, end_nesting, factor, most}
use Rattle.plans.specs.declared.progress.Progress.{Progress}
use Rattle.std.specs.Prelude.{Result, Ok, Err}
use Rattle.words.specs.declared.refusal.Refusal.{Refusal}
use Rattle.words.specs.declared.refusal.Refusal.TheVariants.{Malformed, RepeatedName}
use Rattle.plans.specs.declared.plan.Plan.{Plan}
use Rattle.plans.specs.declared.plan.Plan.TheVariants.{Leaf, Go}
use Rattle.plans.specs.declared.plan.Run.{Run}
use Rattle.scopes.proofs.Frame.{kept_then, kept-fewer, opened-kept, pushed-kept, pushed-length, pushed-opened, deeper-least, deeper-most}
use Rattle.places.proofs.FirstTree.{More, some, none_left}
use Rattle.plans.proofs.Laid.{out-after, out-no, out-room, out-wider, out_empty, out-filled, counts-done, counts-no}

-- ---- one tree more

-- What comes behind the operands, where it is a tree: the tree, the name that is bound in it, and what it is written as.
pub record End (text : List ℕ) (ws : List ℕ) (at w : ℕ) (g : Run) (m : Last) : Type 0 where
  pub tree : Tree
  pub place : EndSpot ws at g.last tree
  pub names : List Span
  pub is : (count : ℕ) (sc : List Scope) (others : List Span) (n : ℕ)
      → end_w text count m sc others n ≡ told count (pick g.plain (child text tree).plainly (child text tree).nested (inner g.pair names n sc) (n + taken g.pair))
  pub opens : (es : List ℕ) (d n : ℕ) (sc : List Scope) → (0 < g.pair → 3 * d + 3 ≤ length es) → Opened ws es d sc → Opened ws (pushed es d g.pair 1 n) (deeper d g.pair) (inner g.pair names n sc)
  pub size : end_size m ≡ length (tree_words tree) + taken g.pair
  pub deep : end_nesting m ≡ nesting tree
  pub free : 0 < g.pair → w + 3 ≤ g.words
  pub alone : 0 < g.pair → g.names ≡ 0

module _ (text ws : List ℕ) (at w : ℕ) (g : Run) where
  -- No name is bound.
  unbound-end : (t : Tree) (m : Last) → EndSpot ws at g.last t → g.pair ≡ 0
      → ((count : ℕ) (sc : List Scope) (others : List Span) (n : ℕ) → end_w text count m sc others n ≡ told count (pick g.plain (child text t).plainly (child text t).nested sc n))
      → end_size m ≡ length (tree_words t) → end_nesting m ≡ nesting t → End text ws at w g m
  unfolding pushed deeper inner taken pick
  unbound-end t m p z is size deep =
      record {
        tree = t;
        place = p;
        names = [];
        is = λ count sc others n. rw (z, add-zero n) (is count sc others n);
        opens = λ es d n sc l o. rw z o;
        size = rw (z, add-zero (length (tree_words t))) size;
        deep = deep;
        free = λ l. absurd (omega arith);
        alone = λ l. absurd (omega arith);
      }

  -- The name of a pair is bound.
  bound-end : (s : Span) (t : Tree) → EndSpot ws at g.last t → g.plain ≡ false → BoundPair ws w g s → End text ws at w g (bound_last s t)
  unfolding end_w pick inner taken
  bound-end s t p f b =
      let ne : eqb g.pair 0 ≡ false = ne_eqb g.pair 0 (λ e. omega (arith, b.there)) in
      record {
        tree = t;
        place = p;
        names = s ∷ [];
        is = λ count sc others n. rw (f, ne) refl;
        opens = λ es d n sc l o. rw (sym b.named) (pushed-opened es d g.pair 1 n ws b.place sc o (l b.there));
        size = rw ne refl;
        deep = refl;
        free = λ l. b.free;
        alone = λ l. b.alone;
      }

  pub the_end : (m : Last) → EndsAt ws at w g m → (g.last ≡ 0 → ⊥) → End text ws at w g m
  unfolding end_w pick
  the_end no_last e n = absurd (n e.0)
  the_end (seen_last t) e n = unbound-end t (seen_last t) e.0 e.2 (λ count sc others n. rw e.1 refl) refl refl
  the_end (plain_last t) e n = unbound-end t (plain_last t) e.0 e.2 (λ count sc others n. rw e.1 refl) refl refl
  the_end (bound_last s t) e n = bound-end s t e.0 e.1 e.2

  pub no_end : (m : Last) → EndsAt ws at w g m → g.last ≡ 0 → (m ≡ no_last) × (g.pair ≡ 0)
  no_end no_last e n = (refl, e.1)
  no_end (seen_last t) e n = absurd (omega (arith, e.0.beyond))
  no_end (plain_last t) e n = absurd (omega (arith, e.0.beyond))
  no_end (bound_last s t) e n = absurd (omega (arith, e.0.beyond))

-- No number is laid where no name is bound.
none_filled : (pair at k : ℕ) (o : List ℕ) → pair ≡ 0 → filled pair at k o ≡ o
unfolding filled pick
none_filled pair at k o z = rw z refl

-- The entries below the depth, behind a scope that is opened and what is read in it.
pub late_kept : {es es₁ es₂ : List ℕ} {d e : ℕ} (pair n : ℕ) → es₁ ≡ pushed es d pair 1 n → e ≡ deeper d pair → Kept es₁ es₂ e → Kept es es₂ d
late_kept {es} {d = d} pair n is deep k = kept_then (rw is (pushed-kept es d pair 1 n)) (kept-fewer d (omega (arith, deep, deeper-least es d pair 1 n)) k)

-- ---- one expression

module _ (text : List ℕ) (count : ℕ) (ws : List ℕ) (at : ℕ) (es : List ℕ) (d w next : ℕ) (h : Here text ws at es d w next) (o o' : List ℕ) where
  pub whole : W
  whole = told count ((child text h.spot.tree).plainly h.scopes next)

  pub as_stop : {r : Result Plan Refusal} {e : Refusal} → r ≡ Err e → Planned text count ws at es d w next h o o' r
      → Parsed (told count ((child text h.spot.tree).plainly h.scopes next)) w o o' (most w next h.spot.tree) (Err e)
  as_stop p x = subst (λ (z : Result Plan Refusal). Planned text count ws at es d w next h o o' z) p x

  pub as_leaf : {r : Result Plan Refusal} {u : ℕ} → r ≡ Ok (Leaf u) → Planned text count ws at es d w next h o o' r
      → Parsed (told count ((child text h.spot.tree).plainly h.scopes next)) w o o' (most w next h.spot.tree) (reached u next)
  as_leaf p x = subst (λ (z : Result Plan Refusal). Planned text count ws at es d w next h o o' z) p x

  pub as_run : {r : Result Plan Refusal} {g : Run} → r ≡ Ok (Go g) → Planned text count ws at es d w next h o o' r
      → Running text count ws at d next h.scopes (told count ((child text h.spot.tree).plainly h.scopes next)) w o o' (most w next h.spot.tree) g
  as_run p x = subst (λ (z : Result Plan Refusal). Planned text count ws at es d w next h o o' z) p x

  module _ (g : Run) (x : Running text count ws at d next h.scopes (told count ((child text h.spot.tree).plainly h.scopes next)) w o o' (most w next h.spot.tree) g) (es₁ : List ℕ) (d₁ : ℕ) (is : es₁ ≡ pushed es d g.names g.fresh next) (deep : d₁ ≡ deeper d g.names) where
    -- the scopes inside
    pub inside : Opened ws es₁ d₁ (inner g.names x.bind.names next h.scopes)
    inside = rw (is, deep) (pushed-opened es d g.names g.fresh next ws x.bind h.scopes h.holds (omega (arith, x.shallow, h.long)))

    pub inside-length : length es₁ ≡ length es
    inside-length = ap length is ∙ pushed-length es d g.names g.fresh next

    pub inside-most : d₁ ≤ d + 1
    inside-most = omega (arith, deeper-most es d g.names g.fresh next)

    pub inside-kept : {es₂ : List ℕ} → Kept es₁ es₂ d₁ → Kept es es₂ d
    inside-kept k = kept_then (rw is (pushed-kept es d g.names g.fresh next)) (kept-fewer d (omega (arith, deeper-least es d g.names g.fresh next)) k)

    abbrev pub run_row : Row text ws g.first g.have es₁ d₁ g.words (next + g.fresh)
    run_row = record {
      items = x.items;
      rest = x.rest;
      words = x.words;
      many = x.many;
      scopes = inner g.names x.bind.names next h.scopes;
      holds = inside;
      long = omega (arith, h.long, inside-length);
      shallow = omega (arith, x.shallow, inside-most);
      room = omega (arith, x.room, h.room);
      bytes = h.bytes;
    }

    abbrev scopes' : List Scope
    scopes' = inner g.names x.bind.names next h.scopes

    module _ {o₁ : List ℕ} {b₁ : ℕ} {r : Result Progress Refusal} (y : Parsed (operands_w text count x.items g.want (inner g.names x.bind.names next h.scopes) (next + g.fresh)) g.words o' o₁ b₁ r) where
      pub run-refused : {e : Refusal} (o₂ : List ℕ) → r ≡ Err e → Parsed (told count ((child text h.spot.tree).plainly h.scopes next)) w o o₂ (most w next h.spot.tree) (Err e)
      run-refused {e} o₂ stop = x.goes o₂ (Err e) 0 (counts-no 0 y stop) (out-no _ g.words (filled g.pair (w + 1) (count + 0) o') o₂ _ y stop)

      module _ {u m : ℕ} (done : r ≡ reached u m) (room : b₁ + factor * end_size x.final ≤ most w next h.spot.tree) where
        pub last_end : (g.last ≡ 0 → ⊥) → End text ws at w g x.final
        last_end n = the_end text ws at w g x.final x.ends n

        module _ (e : End text ws at w g x.final) where
          abbrev pub last-spot : Spot ws g.last
          last-spot = record { tree = e.tree; rest = e.place.rest; words = e.place.words }

          pub late_most : {d₃ : ℕ} → d₃ ≡ deeper d₁ g.pair → d₃ ≤ d + 1
          unfolding deeper pick
          late_most {d₃} deep₃ = go g.pair refl
            where
              go : (p : ℕ) → g.pair ≡ p → d₃ ≤ d + 1
              go zero z =
                  let y : d₃ ≡ d₁ = rw z at deep₃ in
                  omega (arith, inside-most, y)
              go (suc p) z =
                  let y : d₁ ≡ d = rw (e.alone (omega arith)) at deep in
                  omega (arith, y, deep₃, deeper-most es d₁ g.pair 1 m)

          pub late_entry : (es₂ : List ℕ) → length es₂ ≡ length es₁ → 0 < g.pair → 3 * d₁ + 3 ≤ length es₂
          unfolding deeper pick
          late_entry es₂ size l =
              let z : d₁ ≡ d = rw (e.alone l) at deep in
              omega (arith, z, x.end_shallow, h.long, inside-length, size)

          pub late_room : (es₂ : List ℕ) → length es₂ ≡ length es₁ → LateRoom es₂ d₁ g.pair m (w + 1)
          late_room es₂ size = record { entry = λ n. late_entry es₂ size (omega (arith, n)); number = omega (arith, room, h.room, out-room y done); place = omega (arith, h.room) }

          abbrev pub last-here : {q : ℕ} → (k : Seen text g.plain ws g.last last-spot q) {es₂ es₃ : List ℕ} {d₃ n₃ : ℕ} → Kept es₁ es₂ d₁ → length es₂ ≡ length es₁
              → es₃ ≡ pushed es₂ d₁ g.pair 1 m → d₃ ≡ deeper d₁ g.pair → n₃ ≡ m + taken g.pair → Here text ws q es₃ d₃ u n₃
          last-here k {es₂} {es₃} {d₃} {n₃} kept size is₃ deep₃ next₃ =
              let f : end_size x.final ≡ length (tree_words e.tree) + taken g.pair = e.size in
              let f' : end_nesting x.final ≡ nesting e.tree = e.deep in
              record {
                spot = k.spot;
                scopes = inner g.pair e.names m (inner g.names x.bind.names next h.scopes);
                holds = rw (is₃, deep₃) (e.opens es₂ d₁ m (inner g.names x.bind.names next h.scopes) (late_entry es₂ size) (opened-kept ws es₁ es₂ d₁ (inner g.names x.bind.names next h.scopes) kept inside));
                long = omega (arith, h.long, inside-length, size, ap length is₃, pushed-length es₂ d₁ g.pair 1 m);
                shallow = omega (arith, x.end_shallow, late_most deep₃, f', k.shallow);
                room = omega (arith, room, h.room, out-room y done, f, k.short, next₃);
                bytes = h.bytes;
              }

          pub last_done : {q : ℕ} (k : Seen text g.plain ws g.last last-spot q) {o₂ o₃ : List ℕ} {n₃ : ℕ} {a : Result Progress Refusal} → o₂ ≡ filled g.pair (w + 1) (count + m) o₁ → n₃ ≡ m + taken g.pair
              → Parsed (told count ((child text k.spot.tree).plainly (inner g.pair e.names m (inner g.names x.bind.names next h.scopes)) n₃)) u o₂ o₃ (most u n₃ k.spot.tree) a
              → Parsed (told count ((child text h.spot.tree).plainly h.scopes next)) w o o₃ (most w next h.spot.tree) a
          last_done k {o₂} {o₃} {n₃} {a} is₂ next₃ z =
              let f : end_size x.final ≡ length (tree_words e.tree) + taken g.pair = e.size in
              x.goes o₃ a m (counts-done y done)
              (out-after _ (out-filled g.pair (w + 1) (count + m) (λ l. omega (arith, e.free l)) y) done
              (rw (e.is count (inner g.names x.bind.names next h.scopes) x.bind.names m, k.same, sym next₃, sym is₂) (out-wider (omega (arith, room, out-room y done, f, k.short, next₃)) z)))

        none_last : g.last ≡ 0 → (x.final ≡ no_last) × (g.pair ≡ 0)
        none_last n = no_end text ws at w g x.final x.ends n

        pub run_twice : g.last ≡ 0 → repeated text x.bind.names ≡ true
            → Parsed (told count ((child text h.spot.tree).plainly h.scopes next)) w o o₁ (most w next h.spot.tree) (Err RepeatedName)
        unfolding end_w pick
        run_twice n t =
            x.goes o₁ (Err RepeatedName) m (counts-done y done) (rw (none_filled g.pair (w + 1) (count + m) o' (none_last n).1) (out-after _ y done (rw ((none_last n).0, t) (refused refl))))

        pub run-done : g.last ≡ 0 → repeated text x.bind.names ≡ false
            → Parsed (told count ((child text h.spot.tree).plainly h.scopes next)) w o o₁ (most w next h.spot.tree) (reached u m)
        unfolding end_w laid pick
        run-done n t =
            x.goes o₁ (reached u m) m (counts-done y done) (rw (none_filled g.pair (w + 1) (count + m) o' (none_last n).1) (out-after _ y done (rw ((none_last n).0, t) (out_empty u m o₁ _ (omega (arith, room, out-room y done))))))

-- ---- some operands

pub record Going (text : List ℕ) (count : ℕ) (ws : List ℕ) (at have want : ℕ) (es : List ℕ) (d w next : ℕ) (h : Row text ws at have es d w next) (o m : List ℕ) (i p n v : ℕ) : Type 0 where
  pub items : Trees
  pub words : drop p ws ≡ trees_words items ++ h.rest
  pub many : have ≡ i + trees items
  pub within : i ≤ want
  pub forward : at ≤ p
  pub shallow : d + nestings items ≤ max_lists
  pub room : v + n + factor * length (trees_words items) ≤ w + next + factor * length (trees_words h.items)
  pub goes : (o'' : List ℕ) (q : Result Progress Refusal)
      → Parsed (operands_w text count items (want - i) h.scopes n) v m o'' (w + next + factor * length (trees_words h.items)) q
      → Parsed (operands_w text count h.items want h.scopes next) w o o'' (w + next + factor * length (trees_words h.items)) q

module _ (text : List ℕ) (count : ℕ) (ws : List ℕ) (at have want : ℕ) (es : List ℕ) (d w next : ℕ) (h : Row text ws at have es d w next) (o : List ℕ) where
  same : (k : ℕ) → k - 0 ≡ k
  same k = omega arith

  pub progress_start : Going text count ws at have want es d w next h o o 0 at next w
  progress_start = record {
    items = h.items;
    words = h.words;
    many = omega (arith, h.many);
    within = omega arith;
    forward = omega arith;
    shallow = h.shallow;
    room = omega arith;
    goes = λ o'' q x. subst (λ (k : ℕ). Parsed (operands_w text count h.items k h.scopes next) w o o'' (w + next + factor * length (trees_words h.items)) q) (same want) x;
  }

  module _ (m : List ℕ) (i p n v : ℕ) (g : Going text count ws at have want es d w next h o m i p n v) where
    -- all are read
    pub progress_end : want ≤ i → Parsed (operands_w text count h.items want h.scopes next) w o m (w + next + factor * length (trees_words h.items)) (reached v n)
    unfolding operands_w laid
    progress_end e =
        let z : want - i ≡ 0 = omega (arith, g.within) in
        g.goes m (reached v n) (rw z (out_empty v n m _ (omega (arith, g.room))))

    -- one is missing
    pub progress_short : i < want → have ≤ i → Parsed (operands_w text count h.items want h.scopes next) w o m (w + next + factor * length (trees_words h.items)) (Err Malformed)
    unfolding operands_w
    progress_short l e =
        let z : want - i ≡ suc (want - (i + 1)) = omega arith in
        g.goes m (Err Malformed) (rw (z, none_left g.items (omega (arith, g.many))) (refused refl))

    module _ (l : i < want) (e : i < have) where
      pub next-tree : More g.items
      next-tree = some g.items (omega (arith, g.many))

      pub next-words : drop p ws ≡ tree_words next-tree.first ++ (trees_words next-tree.others ++ h.rest)
      unfolding trees_words
      next-words = g.words ∙ ap (λ (t : Trees). trees_words t ++ h.rest) next-tree.is ∙ append_assoc (tree_words next-tree.first) (trees_words next-tree.others) h.rest

      abbrev pub next-spot : Spot ws p
      next-spot = record { tree = next-tree.first; rest = trees_words next-tree.others ++ h.rest; words = next-words }

      pub next-size : length (trees_words g.items) ≡ length (tree_words next-tree.first) + length (trees_words next-tree.others)
      unfolding trees_words
      next-size = ap (λ (t : Trees). length (trees_words t)) next-tree.is ∙ length-append (tree_words next-tree.first) (trees_words next-tree.others)

      pub next-nesting : nestings g.items ≡ max (nesting next-tree.first) (nestings next-tree.others)
      unfolding nestings
      next-nesting = ap nestings next-tree.is

      pub next-trees : trees g.items ≡ suc (trees next-tree.others)
      unfolding trees
      next-trees = ap trees next-tree.is

      module _ {q : ℕ} (k : Seen text false ws p next-spot q) where
        abbrev pub next_here : {es₁ : List ℕ} → Kept es es₁ d → length es₁ ≡ length es → Here text ws q es₁ d v n
        next_here {es₁} kept size = record {
          spot = k.spot;
          scopes = h.scopes;
          holds = opened-kept ws es es₁ d h.scopes kept h.holds;
          long = omega (arith, h.long, size);
          shallow = omega (arith, g.shallow, next-nesting, k.shallow, le-max_left (nesting next-tree.first) (nestings next-tree.others));
          room = omega (arith, g.room, h.room, next-size, k.short);
          bytes = h.bytes;
        }

        -- the first refusal counts
        pub progress_refused : {m' : List ℕ} {b₁ : ℕ} {r : Result Progress Refusal} {f : Refusal} (o'' : List ℕ) → Parsed (told count ((child text k.spot.tree).plainly h.scopes n)) v m m' b₁ r → r ≡ Err f
            → Parsed (operands_w text count h.items want h.scopes next) w o o'' (w + next + factor * length (trees_words h.items)) (Err f)
        unfolding operands_w pick
        progress_refused {f = f} o'' x d =
            let z : want - i ≡ suc (want - (i + 1)) = omega arith in
            g.goes o'' (Err f) (rw (z, next-tree.is, k.same) (out-no _ v m o'' _ x d))

        pub progress_more : {m' : List ℕ} {r : Result Progress Refusal} {u f : ℕ} → Parsed (told count ((child text k.spot.tree).plainly h.scopes n)) v m m' (most v n k.spot.tree) r → r ≡ reached u f
            → (j : ℕ) → j ≡ length (tree_words next-tree.first)
            → Going text count ws at have want es d w next h o m' (i + 1) (p + j) f u
        unfolding operands_w pick
        progress_more {m'} {r} {u} {f} x d j is = record {
          items = next-tree.others;
          words = sym (drop-drop j p ws) ∙ ap (drop j) next-words ∙ drop_at (tree_words next-tree.first) (trees_words next-tree.others ++ h.rest) j (sym is);
          many = omega (arith, g.many, next-trees);
          within = omega arith;
          forward = omega (arith, g.forward);
          shallow = omega (arith, g.shallow, next-nesting, le-max_right (nesting next-tree.first) (nestings next-tree.others));
          room = omega (arith, g.room, next-size, k.short, out-room x d);
          goes = λ o'' q y.
              (let z : want - i ≡ suc (want - (i + 1)) = omega arith in
              g.goes o'' q (rw (z, next-tree.is, k.same) (out-after _ x d y)));
        }
