-- What stands between two turns of the loop, and what each token makes of it.
use Prim.Native.Nat.{ℕ, zero, suc, ◌+◌, ◌-◌, ◌*◌, ◌≤◌, ◌<◌}
use mathlib.Core.Bool.{Bool, true, false}
use mathlib.Core.Path.{◌≡◌, refl, sym, ap, subst, ◌∙◌}
use mathlib.Core.List.{List, [], ◌∷◌, ◌++◌}
use native.Mathlib.Numerals.{add-one}
use native.Mathlib.Omega.{arith}
use lib.Dec.{ltb}
use lib.ListN.{length, set, get_or, take, drop, length-append, length-set, length-drop, drop_of_length-le}
use lib.Seq.{sets, drop-cons, drop-drop}
use borrow.Author.Tests.{lt-ltb}
use Rattle.std.specs.Prelude.{Ok, Err}
use Rattle.reading.specs.Limits.{max_lists}
use Rattle.reading.specs.Answer.{Refusal, ends_early, stray_close, unclosed, too_deep, got, bad, over}
use Rattle.reading.specs.Tree.{Tree, Trees, atom, list, tnil, trees, atom_words, tree_words, trees_words}
use Rattle.reading.specs.Token.{Token, token_at}
use Rattle.lexing.specs.TokenWords.{as_token}
use Rattle.reading.specs.Reading.{may_follow}
use Rattle.text.specs.Scanned.{scan_of, Scanned}
use Rattle.lexing.specs.declared.tokens.Words.{Words}
use Rattle.lexing.specs.declared.tokens.Token.TheVariants as Tokens
use Rattle.words.specs.Refusals.{refusal_of}
use Rattle.words.specs.declared.refusal.Refusal.TheVariants as refusals
use Rattle.reading.proofs.Token.{atom-size, blank_le, word_le}
use Rattle.reading.proofs.Over.{over-more, over-sets, over-length}
use Rattle.text.proofs.Looping.WhichToken.{five, is-blank, is-opens, is-closes, is-unfinished, is_leaf}
use Rattle.text.proofs.Looping.Stack.{snoc, to_come, come_start, come_done, come_all, come_none, come_inside, come_blank, come_unfinished, come_open, come_deep, come_stray, come_close, come_word}
use Rattle.text.proofs.Looping.Held.{stack_words, stack_snoc, stack_length, stack_trees, stack_close, Held, held_start, held_open, held-tree, held-off, held-count, held-around}

-- With these trees read and these lists open: what is to come, the words so far, and the numbers and arrays that the code has.
pub record Holds (more all : Bool) (text out₀ out : List ℕ) (at words depth : ℕ) (offs counts : List ℕ) (f : Trees) (st : List Trees) : Type 0 where
  pub goes : scan_of all text ≡ to_come all more f st at (drop at text)
  pub lies : out ≡ over (stack_words f st) out₀
  pub sized : words ≡ length (stack_words f st)
  pub deep : depth ≡ length st
  pub held : Held f st offs counts
  pub inside : at ≤ length text
  pub small : words ≤ 5 * at
  pub limit : depth ≤ max_lists
  pub offs_len : length offs ≡ max_lists
  pub counts-len : length counts ≡ suc max_lists

-- So it is with some trees and lists. At the loop's head `more` is true; behind a tree it says whether an expression may follow.
pub record Stands (more all : Bool) (text out₀ out : List ℕ) (at words depth : ℕ) (offs counts : List ℕ) : Type 0 where
  pub read : Trees
  pub open_lists : List Trees
  pub holds : Holds more all text out₀ out at words depth offs counts read open_lists

-- Nothing is read yet.
pub start : (all : Bool) (text out offs counts : List ℕ) → length offs ≡ max_lists → length counts ≡ suc max_lists → get_or counts 0 0 ≡ 0 → Stands true all text out out 0 0 0 offs counts
unfolding stack_words trees_words over
start all text out offs counts p q z =
    record {
      read = tnil;
      open_lists = [];
      holds = record {
        goes = come_start all text;
        lies = refl;
        sized = refl;
        deep = refl;
        held = held_start offs counts z;
        inside = omega arith;
        small = omega arith;
        limit = omega arith;
        offs_len = p;
        counts-len = q;
      };
    }

refused : (all : Bool) (text out₀ out : List ℕ) (r : Refusal) → scan_of all text ≡ bad r → Scanned all text out₀ out (Err (refusal_of r))
refused all text out₀ out r e = record { answer = rw e; left = rw e tt }

accepted : (all : Bool) (text out₀ out : List ℕ) (ts : Trees) (n w at : ℕ) → scan_of all text ≡ got (record { read = ts; next = at }) → n ≡ trees ts → w ≡ length (trees_words ts) → out ≡ over (trees_words ts) out₀ → Scanned all text out₀ out (Ok (record { trees = n; words = w; next = at }))
accepted all text out₀ out ts n w at e p q o = record { answer = rw (e, p, q); left = rw e o }

-- The text from a position on.
text_at : (s : List ℕ) (i : ℕ) → i < length s → drop i s ≡ get_or s i 0 ∷ drop (i + 1) s
text_at s i h = rw (add-one, drop-cons s i 0)

text-on : (s : List ℕ) (i m n : ℕ) → n ≡ i + suc m → drop m (drop (i + 1) s) ≡ drop n s
text-on s i m n e = let p : i + 1 + m ≡ n = omega arith in drop-drop m (i + 1) s ∙ ap (λ (k : ℕ). drop k s) p

-- The innermost list gets its two numbers.
numbered : (o : List ℕ) (f g : Trees) (st : List Trees) → sets (over (stack_words f (g ∷ st)) o) (length (stack_words g st)) (21 ∷ trees f ∷ length (trees_words f) ∷ []) ≡ over (stack_words g st ++ tree_words (list f)) o
unfolding stack_words tree_words
numbered o f g st =
    let s : List ℕ = stack_words g st in
    let l : length (s ++ (21 ∷ 0 ∷ 0 ∷ trees_words f)) ≡ length s + 3 + length (trees_words f) = simp length-append (omega arith) in
    over-sets (21 ∷ trees f ∷ length (trees_words f) ∷ []) (s ++ (21 ∷ 0 ∷ 0 ∷ trees_words f)) o (length s) (omega arith)
    ∙ ap (λ (ws : List ℕ). over ws o) (stack_close s (trees_words f) (trees f) (length (trees_words f)))

module _ {more all : Bool} {text out₀ out : List ℕ} {at words depth : ℕ} {offs counts : List ℕ} (v : Stands more all text out₀ out at words depth offs counts) where
  -- The slice keeps its length.
  pub kept : length out ≡ length out₀
  kept = ap length v.holds.lies ∙ over-length (stack_words v.read v.open_lists) out₀

  -- Behind a tree, where an expression may follow.
  pub goes_on : more ≡ true → Stands true all text out₀ out at words depth offs counts
  goes_on e = subst (λ (b : Bool). Stands b all text out₀ out at words depth offs counts) e v

  -- Behind the one expression that was wanted.
  pub one-read : more ≡ may_follow all depth → more ≡ false → Scanned all text out₀ out (Ok (record { trees = get_or counts 0 0; words = words; next = at }))
  unfolding stack_words may_follow
  one-read m e = go v.read v.open_lists v.holds
    where
      go : (f : Trees) (st : List Trees) → Holds more all text out₀ out at words depth offs counts f st → Scanned all text out₀ out (Ok (record { trees = get_or counts 0 0; words = words; next = at }))
      go f [] w =
          accepted all text out₀ out f (get_or counts 0 0) words at
          (w.goes ∙ ap (λ (b : Bool). to_come all b f [] at (drop at text)) e ∙ come_done all f at (drop at text)) (held-count f [] offs counts 0 refl w.held) w.sized w.lies
      go f (g ∷ st) w =
          let z : false ≡ may_follow all (suc (length st)) = sym e ∙ m ∙ ap (may_follow all) w.deep in
          let y : ◌≡◌ {A = ℕ} 0 1 = cc in
          absurd (omega arith)

module _ {all : Bool} {text out₀ out : List ℕ} {at words depth : ℕ} {offs counts : List ℕ} (v : Stands true all text out₀ out at words depth offs counts) where
  abbrev rest : List ℕ
  rest = drop (at + 1) text

  abbrev byte : ℕ
  byte = get_or text at 0

  abbrev token : Token
  token = token_at at byte rest

  abbrev H : Trees → List Trees → Type 0
  H f st = Holds true all text out₀ out at words depth offs counts f st

  at_byte : (f : Trees) (st : List Trees) → H f st → at < length text → scan_of all text ≡ to_come all true f st at (byte ∷ rest)
  at_byte f st w h = w.goes ∙ ap (to_come all true f st at) (text_at text at h)

  -- White space.
  pub blanked : {next : ℕ} → at < length text → as_token at token ≡ Tokens.Blank next → (at < next) × Stands true all text out₀ out next words depth offs counts
  blanked {next} h e =
      let f = v.read in
      let st = v.open_lists in
      let w = v.holds in
      let q = is-blank at next token e in
      let l : q.0 ≤ length rest = blank_le at byte rest q.0 q.1 in
      let g : next ≡ at + suc q.0 = q.2 in (
        omega arith,
        record {
          read = f;
          open_lists = st;
          holds = record {
            goes = at_byte f st w h ∙ come_blank all at byte rest f st q.0 q.1
                ∙ ap (λ (n : ℕ). to_come all true f st n (drop q.0 rest)) (sym g) ∙ ap (to_come all true f st next) (text-on text at q.0 next g);
            lies = w.lies;
            sized = w.sized;
            deep = w.deep;
            held = w.held;
            inside = omega (arith, length-drop (at + 1) text);
            small = omega arith;
            limit = w.limit;
            offs_len = w.offs_len;
            counts-len = w.counts-len;
          };
        },
      )

  -- A string or an `@` that does not end.
  pub broken : at < length text → as_token at token ≡ Tokens.Unfinished → Scanned all text out₀ out (Err refusals.Unclosed)
  broken h e =
      refused all text out₀ out unclosed (at_byte v.read v.open_lists v.holds h ∙ come_unfinished all at byte rest v.read v.open_lists (is-unfinished at token e))

  -- A `(`.
  pub opened : at < length text → as_token at token ≡ Tokens.Opens → depth < max_lists
      → Stands true all text out₀ (sets out words (21 ∷ 0 ∷ 0 ∷ [])) (at + 1) (words + 3) (depth + 1) (set offs depth words) (set counts (depth + 1) 0)
  unfolding stack_words trees_words
  opened h e l =
      let f = v.read in
      let st = v.open_lists in
      let w = v.holds in
      record {
        read = tnil;
        open_lists = f ∷ st;
        holds = record {
          goes = at_byte f st w h ∙ come_open all at byte rest f st (is-opens at token e) (omega arith);
          lies = ap (λ (o : List ℕ). sets o words (21 ∷ 0 ∷ 0 ∷ [])) w.lies ∙ over-more (21 ∷ 0 ∷ 0 ∷ []) (stack_words f st) out₀ words w.sized;
          sized = simp length-append (omega arith);
          deep = omega arith;
          held = held_open f st offs counts depth (depth + 1) words w.deep (omega arith) w.sized (omega arith) (omega arith) w.held;
          inside = omega arith;
          small = omega arith;
          limit = omega arith;
          offs_len = length-set offs depth words ∙ w.offs_len;
          counts-len = length-set counts (depth + 1) 0 ∙ w.counts-len;
        };
      }

  -- A list too many.
  pub too_deep_lem : at < length text → as_token at token ≡ Tokens.Opens → max_lists ≤ depth → Scanned all text out₀ out (Err refusals.TooDeep)
  too_deep_lem h e l =
      refused all text out₀ out too_deep (at_byte v.read v.open_lists v.holds h ∙ come_deep all at byte rest v.read v.open_lists (is-opens at token e) (omega arith))

  -- A `)` outside of all lists.
  pub unopened : at < length text → as_token at token ≡ Tokens.Closes → depth ≡ 0 → Scanned all text out₀ out (Err refusals.StrayClose)
  unopened h e z = go v.read v.open_lists v.holds
    where
      go : (f : Trees) (st : List Trees) → H f st → Scanned all text out₀ out (Err refusals.StrayClose)
      go f [] w = refused all text out₀ out stray_close (at_byte f [] w h ∙ come_stray all at byte rest f (is-closes at token e))
      go f (g ∷ st) w = absurd (omega arith)

  -- So many trees were read in the innermost list.
  pub at-tree : 2 * get_or counts depth 0 ≤ words
  at-tree = let b = held-count v.read v.open_lists offs counts depth v.holds.deep v.holds.held in omega (arith, b, stack_trees v.read v.open_lists)

  abbrev inner : ℕ
  inner = depth - 1

  abbrev off : ℕ
  off = get_or offs inner 0

  -- Where the innermost list begins, and how many trees were read in the list around it.
  pub at_close : (depth ≡ 0 → ⊥) → (off + 3 ≤ words) × (2 * get_or counts inner 0 ≤ words)
  at_close z = go v.read v.open_lists v.holds
    where
      go : (f : Trees) (st : List Trees) → H f st → (off + 3 ≤ words) × (2 * get_or counts inner 0 ≤ words)
      go f [] w = absurd (z w.deep)
      go f (g ∷ st) w =
          let p : inner ≡ length st = omega arith in
          let a : off ≡ length (stack_words g st) = held-off f g st offs counts inner p w.held in
          let b : get_or counts inner 0 ≡ trees g = held-count g st offs counts inner p (held-around f g st offs counts w.held) in
          omega (arith, stack_length f g st, stack_trees g st)

  -- A `)` that ends a list.
  abbrev Closed : Type 0
  Closed =
      Stands (may_follow all inner) all text out₀ (sets out off (21 ∷ get_or counts depth 0 ∷ (words - off - 3) ∷ [])) (at + 1) words inner offs (set counts inner (get_or counts inner 0 + 1))

  pub closed : at < length text → as_token at token ≡ Tokens.Closes → (depth ≡ 0 → ⊥) → Closed
  unfolding tree_words
  closed h e z = go v.read v.open_lists v.holds
    where
      go : (f : Trees) (st : List Trees) → H f st → Closed
      go f [] w = absurd (z w.deep)
      go f (g ∷ st) w =
          let p : inner ≡ length st = omega arith in
          let a : off ≡ length (stack_words g st) = held-off f g st offs counts inner p w.held in
          let b : get_or counts depth 0 ≡ trees f = held-count f (g ∷ st) offs counts depth w.deep w.held in
          let m : words - off - 3 ≡ length (trees_words f) = omega (arith, stack_length f g st) in
          let t : Tree = list f in
          record {
            read = snoc g t;
            open_lists = st;
            holds = record {
              goes = at_byte f (g ∷ st) w h ∙ come_close all at byte rest f g st (is-closes at token e)
                  ∙ ap (λ (k : ℕ). to_come all (may_follow all k) (snoc g t) st (at + 1) rest) (sym p);
              lies = ap (λ (o : List ℕ). sets o off (21 ∷ get_or counts depth 0 ∷ (words - off - 3) ∷ [])) w.lies
                  ∙ (λ i. sets (over (stack_words f (g ∷ st)) out₀) (a i) (21 ∷ b i ∷ m i ∷ []))
                  ∙ numbered out₀ f g st
                  ∙ ap (λ (l : List ℕ). over l out₀) (sym (stack_snoc g t st));
              sized = omega (arith, w.sized, stack_length f g st, ap length (stack_snoc g t st) ∙ length-append (stack_words g st) (tree_words t));
              deep = p;
              held = held-tree g t st offs counts inner p (omega arith) (held-around f g st offs counts w.held);
              inside = omega arith;
              small = omega arith;
              limit = omega arith;
              offs_len = w.offs_len;
              counts-len = length-set counts inner (get_or counts inner 0 + 1) ∙ w.counts-len;
            };
          }

  module _ {next n : ℕ} {x : Words} where
    -- Where an atom ends, and how many words it has.
    pub at_leaf : at < length text → as_token at token ≡ Tokens.Leaf next n x → (at < next) × (next ≤ length text) × (2 ≤ n) × (n ≤ 5)
    at_leaf h e =
        let q = is_leaf at next n x token e in
        let l : q.more ≤ length rest = word_le at byte rest q.more q.which q.token in
        omega (arith, length-drop (at + 1) text, atom-size q.which, q.ends, q.size)

    -- An atom.
    pub worded : at < length text → as_token at token ≡ Tokens.Leaf next n x
        → Stands (may_follow all depth) all text out₀ (sets out words (take n (five x))) next (words + n) depth offs (set counts depth (get_or counts depth 0 + 1))
    unfolding tree_words
    worded h e =
        let f = v.read in
        let st = v.open_lists in
        let w = v.holds in
        let q = is_leaf at next n x token e in
        let b = at_leaf h e in
        let t : Tree = atom q.which in
        let m = q.more in
        record {
          read = snoc f t;
          open_lists = st;
          holds = record {
            goes = at_byte f st w h ∙ come_word all at byte rest f st q.which m q.token
                ∙ ap (λ (k : ℕ). to_come all (may_follow all k) (snoc f t) st (at + suc m) (drop m rest)) (sym w.deep)
                ∙ ap (λ (k : ℕ). to_come all (may_follow all depth) (snoc f t) st k (drop m rest)) (sym q.ends)
                ∙ ap (to_come all (may_follow all depth) (snoc f t) st next) (text-on text at m next q.ends);
            lies = ap (λ (o : List ℕ). sets o words (take n (five x))) w.lies
                ∙ ap (sets (over (stack_words f st) out₀) words) q.words
                ∙ over-more (atom_words q.which) (stack_words f st) out₀ words w.sized
                ∙ ap (λ (l : List ℕ). over l out₀) (sym (stack_snoc f t st));
            sized = omega (arith, w.sized, q.size, ap length (stack_snoc f t st) ∙ length-append (stack_words f st) (tree_words t));
            deep = w.deep;
            held = held-tree f t st offs counts depth w.deep (omega arith) w.held;
            inside = b.1;
            small = omega arith;
            limit = w.limit;
            offs_len = w.offs_len;
            counts-len = length-set counts depth (get_or counts depth 0 + 1) ∙ w.counts-len;
          };
        }

  at-end : (f : Trees) (st : List Trees) → H f st → length text ≤ at → scan_of all text ≡ to_come all true f st at []
  at-end f st w h = w.goes ∙ ap (to_come all true f st at) (drop_of_length-le text h)

  -- The text ends inside a list.
  pub ended-inside : length text ≤ at → (depth ≡ 0 → ⊥) → Scanned all text out₀ out (Err refusals.EndsEarly)
  ended-inside h z = go v.read v.open_lists v.holds
    where
      go : (f : Trees) (st : List Trees) → H f st → Scanned all text out₀ out (Err refusals.EndsEarly)
      go f [] w = absurd (z w.deep)
      go f (g ∷ st) w = refused all text out₀ out ends_early (at-end f (g ∷ st) w h ∙ come_inside all f g st at)

  -- The text ends outside of all lists, and all expressions were wanted.
  pub ended-all : length text ≤ at → all ≡ true → depth ≡ 0 → Scanned all text out₀ out (Ok (record { trees = get_or counts 0 0; words = words; next = at }))
  unfolding stack_words
  ended-all h e z = go v.read v.open_lists v.holds
    where
      go : (f : Trees) (st : List Trees) → H f st → Scanned all text out₀ out (Ok (record { trees = get_or counts 0 0; words = words; next = at }))
      go f [] w =
          accepted all text out₀ out f (get_or counts 0 0) words at
          (at-end f [] w h ∙ ap (λ (b : Bool). to_come b true f [] at []) e ∙ come_all f at) (held-count f [] offs counts 0 refl w.held) w.sized w.lies
      go f (g ∷ st) w = absurd (omega arith)

  -- The text ends, and one expression was wanted.
  pub ended-none : length text ≤ at → all ≡ false → Scanned all text out₀ out (Err refusals.EndsEarly)
  ended-none h e =
      refused all text out₀ out ends_early
      (at-end v.read v.open_lists v.holds h ∙ ap (λ (b : Bool). to_come b true v.read v.open_lists at []) e ∙ come_none v.read at v.open_lists)

-- Where all expressions are wanted, one may follow.
pub follows-all : (all : Bool) (depth : ℕ) → all ≡ true → true ≡ may_follow all depth
unfolding may_follow
follows-all all zero e = rw e
follows-all all (suc depth) e = refl

-- Where one is wanted, another may follow inside a list.
pub follows-inside : (all : Bool) (depth : ℕ) → all ≡ false → ltb 0 depth ≡ may_follow all depth
unfolding may_follow
follows-inside all zero e = rw e
follows-inside all (suc depth) e = lt-ltb 0 (suc depth) (omega arith)
