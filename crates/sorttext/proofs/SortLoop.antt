-- The loop over a sort, step by step: what is written, the sort at hand, and what is to come behind it.
use Prim.Native.Nat.{ℕ, suc, ◌+◌, ◌-◌, ◌≤◌, ◌<◌}
use mathlib.Core.Path.{◌≡◌, refl, sym, ap, ◌∙◌}
use mathlib.Core.List.{List, [], ◌∷◌, ◌++◌, append_assoc, append-nil}
use native.Mathlib.Omega.{arith}
use lib.ListN.{length, length-append}
use Rattle.words.specs.declared.refusal.Refusal.{Refusal}
use Rattle.reading.specs.Answer.{Ans, got}
use Rattle.reading.proofs.Placed.{at-inside, at_right}
use Rattle.grammar.specs.Sort.{Sort, Sorts, sorts, sort_words, sorts_words}
use Rattle.judging.specs.Judge.{reads, sort_at}
use Rattle.judging.specs.Spelled.{Spelled}
use Rattle.judging.proofs.Spell.{Low}
use Rattle.writing.specs.Wrote.{WroteBytes}
use Rattle.smtnames.specs.Pieces.{joined, sort_text}
use Rattle.sortnodes.specs.Told.{sort_node_at, size_of, inside_of}
use Rattle.smtsorts.specs.SortNode.{open_text}
use Rattle.smtlevels.specs.Open.{total, settled}
use Rattle.sorttext.specs.SortWalk.{end_text, Step, into, past, Walk, here, more}
use Rattle.smtlevels.specs.Levels.{Known}
use Rattle.sortnodes.specs.declared.SortNode.{SortNode}
use Rattle.smtnames.proofs.Joined.{joined_assoc, joined-none, joined_end}
use Rattle.smtnames.proofs.Tells.{Put, put, Gone, put-none, put_seq, put_as, put-bad, gone-behind, gone-first, gone_as}
use Rattle.sorttext.proofs.WordsRead.{sort-spelled}
use Rattle.sorttext.proofs.SortTexts.{spaced_text}
use Rattle.sorttext.proofs.SortViews.{sort_told, View, refusing, leaf, inner, view, words-some, sort-told}
use Rattle.sorttext.proofs.SortStack.{levels, stack_words, rest_text, stack_few, Behind, ends, goes, behind}
use Rattle.smtlevels.proofs.Open.{past-total}
use Rattle.smtlevels.proofs.Levels.{known_as}

-- A walk, and one step more.
walk_step : {ws : List ℕ} {a b c : ℕ} {cs ds es : List ℕ} → Walk ws a cs b ds → Step ws b ds c es → Walk ws a cs c es
walk_step here s = more s here
walk_step (more r w) s = more r (walk_step w s)

-- What is left to be done for a sort s₀ that ends at n: nothing, or the sort at hand and what is to come behind it.
pub data State (text ws : List ℕ) (at n : ℕ) (s₀ : Sort) (l₀ : List ℕ) (place : ℕ) (l : List ℕ) (a p left : ℕ) (bases : List ℕ) (known : ℕ) : Type 0 where
  over : left ≡ 0 → a ≡ n → Put (sort_text text s₀) l₀ place l p → State text ws at n s₀ l₀ place l a p left bases known
  amid : (front : Ans (List ℕ)) (s : Sort) (st : List Sorts) → left ≡ suc (total (levels st)) → Spelled ws a n (sort_words s ++ stack_words st) → Walk ws at [] a (levels st) → Known bases known (levels st) → sort_text text s₀ ≡ joined front (joined (sort_text text s) (rest_text text st))
      → Put front l₀ place l p → State text ws at n s₀ l₀ place l a p left bases known

pub state_start : (text : List ℕ) (limit : ℕ) (ws : List ℕ) (at : ℕ) (l : List ℕ) (place : ℕ) (bases : List ℕ) {s : Sort} {n : ℕ} → Low ws → sort_at limit ws at ≡ reads s n → State text ws at n s l place l at place 1 bases 0
unfolding levels stack_words rest_text total
state_start text limit ws at l place bases {s} low e =
    amid (got []) s [] refl (rw (append-nil (sort_words s)) (sort-spelled limit ws at low e)) here tt (sym (joined-none _ ∙ joined_end _)) (put-none l place)

-- The refusal of the bytes before the sorts inside a sort is the sort's.
view-gone : {text : List ℕ} {s : Sort} {l l' : List ℕ} {k : Refusal} → View text s → Gone (open_text text (sort_told s)) l l' k → Gone (sort_text text s) l l' k
view-gone {text} (refusing e t) g = gone_as (e ∙ sym (ap (open_text text) t)) g
view-gone (leaf e z w) g = gone_as e g
view-gone (inner t ts front e z w f) g = gone_as e (gone-first _ g)

-- The words of the sort at hand.
hand_inside : {ws : List ℕ} {a n : ℕ} (s : Sort) (ys : List ℕ) → Spelled ws a n (sort_words s ++ ys) → a + (1 + length ys) ≤ length ws
hand_inside s ys h = omega (arith, at-inside h.stands, words-some s, length-append (sort_words s) ys)

spelled_right : {ws : List ℕ} {a n : ℕ} (xs ys : List ℕ) → Spelled ws a n (xs ++ ys) → Spelled ws (a + length xs) n ys
spelled_right xs ys h = record { stands = at_right xs ys h.stands; ends = omega (arith, h.ends, length-append xs ys) }

spelled_as : {ws : List ℕ} {n i j : ℕ} {ys : List ℕ} (a : ℕ) → i ≡ j → Spelled ws (a + i) n ys → Spelled ws (a + j) n ys
spelled_as a e h = rw e at h

inner-words : {ws : List ℕ} {a n : ℕ} (s t : Sort) (ts : Sorts) (st : List Sorts) (xs : List ℕ) → sort_words s ≡ xs ++ (sort_words t ++ sorts_words ts) → Spelled ws a n (sort_words s ++ stack_words st) → Spelled ws a n (xs ++ (sort_words t ++ stack_words (ts ∷ st)))
unfolding stack_words
inner-words {ws} {a} {n} s t ts st xs e h =
    rw (ap (λ l. l ++ stack_words st) e ∙ append_assoc xs (sort_words t ++ sorts_words ts) (stack_words st) ∙ ap (λ l. xs ++ l) (append_assoc (sort_words t) (sorts_words ts) (stack_words st))) at h

module _ {text ws : List ℕ} {at n : ℕ} {s₀ : Sort} {l₀ : List ℕ} {place : ℕ} {l : List ℕ} {a p left : ℕ} {bases : List ℕ} {known : ℕ} where
  pub state_inside : State text ws at n s₀ l₀ place l a p left bases known → 0 < left → a < length ws
  state_inside (over z e w) h = absurd (omega (arith, z, h))
  state_inside (amid front s st z h w b e f) k = omega (arith, hand_inside s (stack_words st) h)

  pub state_few : State text ws at n s₀ l₀ place l a p left bases known → 0 < left → left ≤ length ws
  state_few (over z e w) h = absurd (omega (arith, z, h))
  state_few (amid front s st z h w b e f) k = omega (arith, z, hand_inside s (stack_words st) h, stack_few st)

  -- It is over.
  pub state_end : State text ws at n s₀ l₀ place l a p left bases known → left ≤ 0 → a ≡ n
  state_end (over z e w) h = e
  state_end (amid front s st z h w b e f) k = absurd (omega (arith, z, k))

  pub state_put : State text ws at n s₀ l₀ place l a p left bases known → left ≤ 0 → Put (sort_text text s₀) l₀ place l p
  state_put (over z e w) h = w
  state_put (amid front s st z h w b e f) k = absurd (omega (arith, z, k))

  -- A refusal.
  pub state_gone : {x : SortNode} {l' : List ℕ} {k : Refusal} → State text ws at n s₀ l₀ place l a p left bases known → 0 < left → x ≡ sort_node_at ws a → Gone (open_text text x) l l' k → Gone (sort_text text s₀) l₀ l' k
  state_gone (over z e w) h q g = absurd (omega (arith, z, h))
  state_gone (amid front s st z h w b e f) k q g =
      let t = q ∙ sort-told (stack_words st) s h.stands in
      gone_as e (gone-behind f (gone-first _ (view-gone (view text s) (gone_as (ap (open_text text) (sym t)) g))))

-- Past a sort without sorts inside it.
leaf-total : (ss : Sorts) (st : List Sorts) → suc (sorts ss) + total (levels st) ≡ suc (total (levels (ss ∷ st)))
unfolding levels total
leaf-total ss st = omega arith

module _ {text ws : List ℕ} {at n : ℕ} {s₀ : Sort} {l₀ : List ℕ} {place : ℕ} where
  leaf-next : {l l' : List ℕ} {a p p' left z : ℕ} {bases : List ℕ} {known : ℕ} (front : Ans (List ℕ)) (s : Sort) (st : List Sorts) → a < length ws → inside_of (sort_node_at ws a) ≡ 0 → z ≡ size_of (sort_node_at ws a) → left ≡ total (levels st) → Spelled ws (a + z) n (stack_words st) → Walk ws at [] a (levels st) → Known bases known (settled (levels st))
      → sort_text text s₀ ≡ joined front (joined (sort_text text s) (rest_text text st)) → Put (joined front (sort_text text s)) l₀ place l p → WroteBytes l p (end_text (levels st)) l' p' → Behind text st → State text ws at n s₀ l₀ place l' (a + z) p' left bases known
  unfolding levels
  leaf-next front s st i o z u h w b e f v (ends t y q) =
      over (u ∙ t) (sym (h.ends ∙ rw y (omega arith))) (put_as (e ∙ ap (λ r. joined front (joined (sort_text text s) r)) q ∙ sym (joined_assoc front (sort_text text s) _)) (put_seq f (put v)))
  leaf-next {bases = bases} {known = known} front s st i o z u h w b e f v (goes s' ss st' t y q) =
      amid (joined (joined front (sort_text text s)) (got (end_text (levels st)))) s' (ss ∷ st')
      (u ∙ past-total (levels st) t ∙ leaf-total ss st')
      (rw y at h)
      (rw z (walk_step w (past i o t)))
      (known_as bases known (suc (sorts ss)) (sorts ss) (levels st') (rw t at b))
      (e ∙ ap (λ r. joined front (joined (sort_text text s) r)) q ∙ sym (joined_assoc front (sort_text text s) _) ∙ sym (joined_assoc (joined front (sort_text text s)) (got (end_text (levels st))) _))
      (put_seq f (put v))

  -- Into a sort.
  inner-next : {l : List ℕ} {a p left z : ℕ} {bases : List ℕ} {known : ℕ} (front : Ans (List ℕ)) (s : Sort) (st : List Sorts) (t : Sort) (ts : Sorts) → a < length ws → inside_of (sort_node_at ws a) ≡ suc (sorts ts) → z ≡ size_of (sort_node_at ws a) → left ≡ suc (sorts ts) + total (levels st) → Spelled ws (a + z) n (sort_words t ++ stack_words (ts ∷ st))
      → Walk ws at [] a (levels st) → Known bases known (sorts ts ∷ levels st) → sort_text text s₀ ≡ joined front (joined (sort_text text s) (rest_text text st)) → sort_text text s ≡ joined (open_text text (sort_told s)) (joined (sort_text text t) (joined (spaced_text text ts) (got (41 ∷ []))))
      → Put (joined front (open_text text (sort_told s))) l₀ place l p → State text ws at n s₀ l₀ place l (a + z) p left bases known
  unfolding levels total rest_text
  inner-next front s st t ts i o z u h w b e g f =
      amid (joined front (open_text text (sort_told s))) t (ts ∷ st)
      (omega (arith, u))
      h
      (rw z (walk_step w (into i o (omega (arith, stack_few (ts ∷ st), hand_inside t (stack_words (ts ∷ st)) h)))))
      b
      (e ∙ ap (λ r. joined front (joined r (rest_text text st))) g ∙ simp joined_assoc)
      f

-- The step of the loop, by what is told of the sort at hand.
module _ {text ws : List ℕ} {at n : ℕ} {s₀ : Sort} {l₀ : List ℕ} {place : ℕ} {l l₁ : List ℕ} {a p q left m z : ℕ} {x : SortNode} {bases bases' : List ℕ} {known known' : ℕ} where
  pub state_past : {l₂ : List ℕ} {p' : ℕ} → State text ws at n s₀ l₀ place l a p left bases known → 0 < left → x ≡ sort_node_at ws a → Put (open_text text x) l p l₁ q → m ≡ inside_of x → m ≡ 0 → z ≡ size_of x
      → ((cs : List ℕ) → Walk ws at [] a cs → left - 1 ≡ total cs → Known bases known cs → WroteBytes l₁ q (end_text cs) l₂ p')
      → ((cs : List ℕ) → Walk ws at [] a cs → left - 1 ≡ total cs → Known bases known cs → Known bases' known' (settled cs)) → State text ws at n s₀ l₀ place l₂ (a + z) p' (left - 1 + m) bases' known'
  state_past (over y e w) h d f i o u v b = absurd (omega (arith, y, h))
  state_past {l₂ = l₂} {p' = p'} (amid front s st y h w j e g) k d f i o u v b = go (view text s)
    where
      told : x ≡ sort_told s
      told = d ∙ sort-told (stack_words st) s h.stands

      go : View text s → State text ws at n s₀ l₀ place l₂ (a + z) p' (left - 1 + m) bases' known'
      go (refusing r t) = put-bad f (ap (open_text text) (told ∙ t))
      go (leaf c t r) = leaf-next front s st (omega (arith, hand_inside s (stack_words st) h)) (sym (ap inside_of d) ∙ sym i ∙ o) (u ∙ ap size_of d) (omega (arith, y, o)) (spelled_as a (r ∙ sym (u ∙ ap size_of told)) (spelled_right (sort_words s) (stack_words st) h)) w (b (levels st) w (omega (arith, y)) j) e (put_seq g (put_as (c ∙ ap (open_text text) (sym told)) f)) (v (levels st) w (omega (arith, y)) j) (behind text st)
      go (inner t ts xs c n r v) = absurd (omega (arith, i, o, ap inside_of told, n))

  pub state_into : State text ws at n s₀ l₀ place l a p left bases known → 0 < left → x ≡ sort_node_at ws a → Put (open_text text x) l p l₁ q → m ≡ inside_of x → (m ≡ 0 → ⊥) → z ≡ size_of x
      → ((c : ℕ) (cs : List ℕ) → left - 1 ≡ total cs → Known bases known cs → Known bases' known' (c ∷ cs)) → State text ws at n s₀ l₀ place l₁ (a + z) q (left - 1 + m) bases' known'
  state_into (over y e w) h d f i o u b = absurd (omega (arith, y, h))
  state_into (amid front s st y h w kn e g) k d f i o u b = go (view text s)
    where
      told : x ≡ sort_told s
      told = d ∙ sort-told (stack_words st) s h.stands

      go : View text s → State text ws at n s₀ l₀ place l₁ (a + z) q (left - 1 + m) bases' known'
      go (refusing r t) = put-bad f (ap (open_text text) (told ∙ t))
      go (leaf c t r) = absurd (o (i ∙ ap inside_of told ∙ t))
      go (inner t ts xs v j r c) =
          inner-next front s st t ts (omega (arith, hand_inside s (stack_words st) h)) (sym (ap inside_of d) ∙ ap inside_of told ∙ j) (u ∙ ap size_of d) (omega (arith, y, i, ap inside_of told, j)) (spelled_as a (c ∙ sym (u ∙ ap size_of told)) (spelled_right xs _ (inner-words s t ts st xs r h))) w (b (sorts ts) (levels st) (omega (arith, y)) kn) e v (put_seq g (put_as (ap (open_text text) (sym told)) f))

-- The same by other names.
pub state_as : {text ws : List ℕ} {at n : ℕ} {s₀ : Sort} {l₀ : List ℕ} {place : ℕ} {l l' : List ℕ} {a p p' left : ℕ} {bases bases' : List ℕ} {known known' : ℕ} → l' ≡ l → p' ≡ p → bases' ≡ bases → known' ≡ known → State text ws at n s₀ l₀ place l a p left bases known → State text ws at n s₀ l₀ place l' a p' left bases' known'
state_as e f g h t = rw (e, f, g, h) t
