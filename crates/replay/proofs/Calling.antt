-- Laws of calls, and of the lines that record them.
use Prim.Native.Nat.{ℕ, ◌≤◌, ◌<◌, min}
use mathlib.Core.Bool.{Bool, true, false, ◌&&◌}
use mathlib.Core.Path.{◌≡◌, refl, sym, ap, ◌∙◌}
use mathlib.Core.List.{List, [], ◌++◌}
use native.Mathlib.Omega.{arith}
use borrow.Author.Tests.{eqb-false, le-leb, lt-leb}
use lib.Dec.{eqb, leb}
use lib.ListN.{length, take, drop, length-replicate}
use lib.Seq.{take_at}
use Rattle.reading.specs.Answer.{zeros, over}
use Rattle.reading.proofs.Picks.{pick_true, pick-false, pick_eq, pick_ne, pick-holds}
use Rattle.reading.proofs.Bytes.{same_refl}
use Rattle.reading.proofs.Over.{over-length, over-fits}
use Rattle.words.specs.Answered.{Answered, heard}
use Rattle.flattening.specs.Operations.{flatten_final, flatten_out}
use Rattle.flatten.specs.Answers.{flatten_answer}
use Rattle.session.specs.Session.{Call, outcome}
use Rattle.reading.specs.Answer.{Said}
use Rattle.reader.specs.declared.Answer.{Answer}
use Rattle.replies.specs.Calls.{one_call, all_call, sort_call, expr_call, bind_call, solution_call}
use Rattle.replies.specs.Sessions.{Promised}
use Rattle.reader.specs.Replied.{replied}
use Rattle.recorded.specs.declared.line.Line.{Line}
use Rattle.compared.specs.declared.Reply.{Reply}
use Rattle.replay.specs.declared.State.{State}
use Rattle.recorded.specs.Numbers.{most}
use Rattle.recorded.specs.Spelled.{words_in}
use Rattle.compared.specs.Recorded.{patterns, filled, is_zero, is_recorded, is_clear}
use Rattle.replay.specs.Called.{reply_to, flat_reply, call_of, Ran, is_outcome, outcome_on, is_lent, is_same_on, count_on, text_of, is_same, count_after, is_flattened, is_flat, is_right}
use Rattle.replay.specs.Tally.{Told, Stepped}
use Rattle.compared.proofs.Comparing.{and_no, and_yes}

-- Zeros are zero.
zeros-zero : (l : List ℕ) → is_zero (zeros l) ≡ true
unfolding is_zero
zeros-zero l = rw (length-replicate {A = ℕ} (length l) 0) (same_refl (zeros l))

-- A working slice is zero after a call.
tree-zero : (call : Call) (c : ℕ) {tree : List ℕ} → tree ≡ (outcome call c).tree → is_zero tree ≡ true
unfolding outcome
tree-zero call c e = ap is_zero e ∙ zeros-zero call.tree

draft-zero : (call : Call) (c : ℕ) {draft : List ℕ} → draft ≡ (outcome call c).draft → is_zero draft ≡ true
unfolding outcome
draft-zero call c e = ap is_zero e ∙ zeros-zero call.draft

module _ (op : ℕ) (tree draft : List ℕ) where
  clear-one : op ≡ 82 → is_clear op tree draft ≡ true
  unfolding is_clear
  clear-one e = sym (pick_eq _ e refl)

  clear-all : op ≡ 65 → is_clear op tree draft ≡ true
  unfolding is_clear
  clear-all e = pick-holds (eqb op 82) true _ (λ b. b ≡ true) refl (sym (pick_eq _ e refl))

  clear-tree : (op ≡ 76 → ⊥) → is_zero tree ≡ true → is_clear op tree draft ≡ true
  unfolding is_clear
  clear-tree n t =
      pick-holds (eqb op 82) true _ (λ b. b ≡ true) refl
      (pick-holds (eqb op 65) true _ (λ b. b ≡ true) refl (sym (and_yes t (pick_ne _ n refl))))

  clear_both : is_zero tree ≡ true → is_zero draft ≡ true → is_clear op tree draft ≡ true
  unfolding is_clear
  clear_both t d =
      pick-holds (eqb op 82) true _ (λ b. b ≡ true) refl
      (pick-holds (eqb op 65) true _ (λ b. b ≡ true) refl
      (sym (and_yes t (sym (pick-holds (eqb op 76) (is_zero draft) true (λ b. b ≡ true) d refl)))))

-- An operation is no other one.
differs : {op k : ℕ} (m : ℕ) → op ≡ k → eqb k m ≡ false → op ≡ m → ⊥
differs {op} {k} m e f z = eqb-false k m f (sym e ∙ z)

-- What a method promises, for the call of an operation.
ran : {op c : ℕ} {call given : Call} {a : Answer} {t d tree draft out : List ℕ} → given ≡ call → Promised call c (replied a t d out) → is_clear op tree draft ≡ true → Ran op given c a tree draft out
ran {c = c} e p k =
    record {
      said = p.said ∙ ap (λ (x : Call). (outcome x c).said) (sym e);
      count = p.count ∙ ap (λ (x : Call). (outcome x c).count) (sym e);
      output = p.output ∙ ap (λ (x : Call). (outcome x c).out) (sym e);
      clear = k;
    }

module _ (op c : ℕ) (text tree draft out : List ℕ) {a : Answer} {tree' draft' out' : List ℕ} where
  pub ran-one : op ≡ 82 → Promised (one_call text out) c (replied a [] [] out') → Ran op (call_of op text tree draft out) c a tree' draft' out'
  unfolding call_of
  ran-one e p = ran (sym (pick_eq _ e refl)) p (clear-one op tree' draft' e)

  pub ran-all : op ≡ 65 → Promised (all_call text out) c (replied a [] [] out') → Ran op (call_of op text tree draft out) c a tree' draft' out'
  unfolding call_of
  ran-all e p = ran (sym (pick_ne _ (differs 82 e refl) (pick_eq _ e refl))) p (clear-all op tree' draft' e)

  pub ran-sort : op ≡ 83 → Promised (sort_call text tree out) c (replied a tree' [] out') → Ran op (call_of op text tree draft out) c a tree' draft' out'
  unfolding call_of
  ran-sort e p =
      ran (sym (pick_ne _ (differs 82 e refl) (pick_ne _ (differs 65 e refl) (pick_eq _ e refl)))) p
      (clear-tree op tree' draft' (differs 76 e refl) (tree-zero (sort_call text tree out) c p.working))

  pub ran-expr : op ≡ 69 → Promised (expr_call text tree out) c (replied a tree' [] out') → Ran op (call_of op text tree draft out) c a tree' draft' out'
  unfolding call_of
  ran-expr e p =
      ran (sym (pick_ne _ (differs 82 e refl) (pick_ne _ (differs 65 e refl) (pick_ne _ (differs 83 e refl) (pick_eq _ e refl))))) p
      (clear-tree op tree' draft' (differs 76 e refl) (tree-zero (expr_call text tree out) c p.working))

  pub ran-bind : op ≡ 66 → Promised (bind_call text tree out) c (replied a tree' [] out') → Ran op (call_of op text tree draft out) c a tree' draft' out'
  unfolding call_of
  ran-bind e p =
      ran (sym (pick_ne _ (differs 82 e refl) (pick_ne _ (differs 65 e refl) (pick_ne _ (differs 83 e refl) (pick_ne _ (differs 69 e refl) (pick_eq _ e refl)))))) p
      (clear-tree op tree' draft' (differs 76 e refl) (tree-zero (bind_call text tree out) c p.working))

  pub ran-solution : (op ≡ 82 → ⊥) → (op ≡ 65 → ⊥) → (op ≡ 83 → ⊥) → (op ≡ 69 → ⊥) → (op ≡ 66 → ⊥) → Promised (solution_call text tree draft out) c (replied a tree' draft' out') → Ran op (call_of op text tree draft out) c a tree' draft' out'
  unfolding call_of
  ran-solution n₁ n₂ n₃ n₄ n₅ p =
      ran (sym (pick_ne _ n₁ (pick_ne _ n₂ (pick_ne _ n₃ (pick_ne _ n₄ (pick_ne _ n₅ refl)))))) p
      (clear_both op tree' draft' (tree-zero (solution_call text tree draft out) c p.working) (draft-zero (solution_call text tree draft out) c p.body))

-- Calls on equal slices.
call_equal : (op : ℕ) (text : List ℕ) {t d o t₂ d₂ o₂ : List ℕ} → t ≡ t₂ → d ≡ d₂ → o ≡ o₂ → call_of op text t d o ≡ call_of op text t₂ d₂ o₂
call_equal op text et ed eo = cc

-- The call of a line on filled slices.
abbrev pub lent : Line → List ℕ → List ℕ → List ℕ → List ℕ → Call
lent line text tree draft out = call_of line.op text (filled tree) (filled draft) (filled out)

-- Its verdict is that of its outcome.
module _ (line : Line) (words text tree draft out : List ℕ) {c : ℕ} {a : Answer} {t d o t' d' o' : List ℕ} (r : Ran line.op (call_of line.op text t d o) c a t' d' o') (et : t ≡ filled tree) (ed : d ≡ filled draft) (eo : o ≡ filled out) where
  pub asked-count : {n : ℕ} → n ≡ a.reader.next → n ≡ (outcome (lent line text tree draft out) c).count
  asked-count e = e ∙ r.count ∙ ap (λ (x : Call). (outcome x c).count) (call_equal line.op text et ed eo)

  verdict : {reply : Reply} {b : Bool} → b ≡ is_recorded line words reply o' → reply ≡ reply_to (heard a.said) a.reader.next → b ≡ is_outcome line words (outcome (lent line text tree draft out) c)
  unfolding is_outcome
  verdict {reply} {b} e f =
      e
      ∙ ap (λ (x : Reply). is_recorded line words x o') f
      ∙ ap (λ (x : Said). is_recorded line words (reply_to x a.reader.next) o') r.said
      ∙ ap (λ (x : ℕ). is_recorded line words (reply_to ((outcome (call_of line.op text t d o) c).said) x) o') r.count
      ∙ ap (λ (x : List ℕ). is_recorded line words (reply_to ((outcome (call_of line.op text t d o) c).said) (outcome (call_of line.op text t d o) c).count) x) r.output
      ∙ ap (λ (x : Call). is_outcome line words (outcome x c)) (call_equal line.op text et ed eo)

  pub asked-no : {reply : Reply} {b : Bool} → b ≡ is_recorded line words reply o' → reply ≡ reply_to (heard a.said) a.reader.next → b ≡ false → false ≡ is_outcome line words (outcome (lent line text tree draft out) c)
  asked-no e f n = sym n ∙ verdict e f

  pub asked-yes : {reply : Reply} {b same : Bool} → b ≡ is_recorded line words reply o' → reply ≡ reply_to (heard a.said) a.reader.next → b ≡ true → same ≡ is_clear line.op t' d' → same ≡ is_outcome line words (outcome (lent line text tree draft out) c)
  asked-yes e f n k = k ∙ r.clear ∙ sym n ∙ verdict e f

-- Words that were spelled into a slice with room for them.
pub spelled-there : (all l₀ : List ℕ) {l : List ℕ} {n : ℕ} → n ≡ min most (length all) → l ≡ over all l₀ → n ≤ length l → n < most → take n l ≡ all
spelled-there all l₀ {l} {n} e f h k =
    let m : n ≡ length all = omega (arith, e) in
    let o : l ≡ all ++ drop (length all) l₀ = f ∙ over-fits all l₀ (omega (arith, m, h, ap length f, over-length all l₀)) in
    rw o (take_at all (drop (length all) l₀) n (sym m))

-- A test that fails behind one that may hold.
and-later : (a : Bool) {b : Bool} → b ≡ false → a && b ≡ false
and-later true e = e
and-later false e = refl

-- How many words there are, where that is more than a limit, or not.
long-spelled : {n limit : ℕ} (k : ℕ) → n ≡ min most k → limit < n → leb k limit ≡ false
long-spelled {n} {limit} k e h = lt-leb k limit (omega (arith, e))

short-spelled : {n limit : ℕ} (k : ℕ) → n ≡ min most k → n ≤ limit → limit < most → leb k limit ≡ true
short-spelled {n} {limit} k e h l = le-leb k limit (omega (arith, e))

module _ (lines : List ℕ) (line : Line) where
  lent-words : {n : ℕ} → n ≡ min most (length (words_in (drop line.words lines))) → 120000 < n → is_lent lines line ≡ false
  unfolding is_lent
  lent-words e h = sym (and_no _ (long-spelled _ e h))

  lent-tree : 120000 < line.tree → is_lent lines line ≡ false
  unfolding is_lent
  lent-tree h = and-later (leb (length (words_in (drop line.words lines))) 120000) (sym (and_no _ (lt-leb _ _ h)))

  lent-draft : 120000 < line.draft → is_lent lines line ≡ false
  unfolding is_lent
  lent-draft h = and-later (leb (length (words_in (drop line.words lines))) 120000) (and-later (leb line.tree 120000) (sym (and_no _ (lt-leb _ _ h))))

  lent_out : 120000 < line.out → is_lent lines line ≡ false
  unfolding is_lent
  lent_out h =
      and-later (leb (length (words_in (drop line.words lines))) 120000) (and-later (leb line.tree 120000) (and-later (leb line.draft 120000) (lt-leb _ _ h)))

  lent-yes : {n : ℕ} → n ≡ min most (length (words_in (drop line.words lines))) → n ≤ 120000 → line.tree ≤ 120000 → line.draft ≤ 120000 → line.out ≤ 120000 → is_lent lines line ≡ true
  unfolding is_lent
  lent-yes e h t d o =
      sym (and_yes (short-spelled _ e h (omega arith)) (and_yes (le-leb _ _ t) (and_yes (le-leb _ _ d) (sym (le-leb _ _ o)))))

  -- A line that is not replayed on a text.
  module _ (text : List ℕ) (c : ℕ) where
    not-lent : is_lent lines line ≡ false → (false ≡ is_same_on lines line text c) × (c ≡ count_on lines line text c)
    unfolding is_same_on count_on
    not-lent e = (and_no _ e, pick-false _ e refl)

    pub long-words : {n : ℕ} → n ≡ min most (length (words_in (drop line.words lines))) → 120000 < n → (false ≡ is_same_on lines line text c) × (c ≡ count_on lines line text c)
    long-words e h = not-lent (lent-words e h)

    pub long-tree : 120000 < line.tree → (false ≡ is_same_on lines line text c) × (c ≡ count_on lines line text c)
    long-tree h = not-lent (lent-tree h)

    pub long-draft : 120000 < line.draft → (false ≡ is_same_on lines line text c) × (c ≡ count_on lines line text c)
    long-draft h = not-lent (lent-draft h)

    pub long-out : 120000 < line.out → (false ≡ is_same_on lines line text c) × (c ≡ count_on lines line text c)
    long-out h = not-lent (lent_out h)

    -- One that is.
    pub lend_done : {n : ℕ} → n ≡ min most (length (words_in (drop line.words lines))) → n ≤ 120000 → line.tree ≤ 120000 → line.draft ≤ 120000 → line.out ≤ 120000
        → {ws : List ℕ} {t d o count : ℕ} {same : Bool} → ws ≡ words_in (drop line.words lines) → line.tree ≡ t → line.draft ≡ d → line.out ≡ o
        → same ≡ is_outcome line ws (outcome (call_of line.op text (patterns 0 t) (patterns 0 d) (patterns 0 o)) c)
        → count ≡ (outcome (call_of line.op text (patterns 0 t) (patterns 0 d) (patterns 0 o)) c).count
        → (same ≡ is_same_on lines line text c) × (count ≡ count_on lines line text c)
    unfolding is_same_on count_on outcome_on
    lend_done en h ht hd ho {ws} {t} {d} {o} ew et ed eo s k =
        let y : is_lent lines line ≡ true = lent-yes en h ht hd ho in
        let e = call_equal line.op text (ap (patterns 0) (sym et)) (ap (patterns 0) (sym ed)) (ap (patterns 0) (sym eo)) in
        (and_yes y (s ∙ ap (λ (x : List ℕ). is_outcome line x (outcome (call_of line.op text (patterns 0 t) (patterns 0 d) (patterns 0 o)) c)) ew ∙ ap (λ (x : Call). is_outcome line (words_in (drop line.words lines)) (outcome x c)) e), pick_true _ y (k ∙ ap (λ (x : Call). (outcome x c).count) e))

  -- A text that is too long, or not.
  module _ (c : ℕ) {n : ℕ} (e : n ≡ min most (length (text_of lines line))) where
    pub long-text : 65536 < n → (false ≡ is_same lines line c) × (c ≡ count_after lines line c)
    unfolding is_same count_after
    long-text h = let f : leb (length (text_of lines line)) 65536 ≡ false = long-spelled _ e h in (and_no _ f, pick-false _ f refl)

    pub text-done : n ≤ 65536 → {text : List ℕ} {count : ℕ} {same : Bool} → text ≡ text_of lines line → (same ≡ is_same_on lines line text c) × (count ≡ count_on lines line text c) → (same ≡ is_same lines line c) × (count ≡ count_after lines line c)
    unfolding is_same count_after
    text-done h {text} w p =
        let y : leb (length (text_of lines line)) 65536 ≡ true = short-spelled _ e h (omega arith) in
        (and_yes y (p.0 ∙ ap (λ (x : List ℕ). is_same_on lines line x c) w), pick_true _ y (p.1 ∙ ap (λ (x : List ℕ). count_on lines line x c) w))

  -- A line that is flattened: its words, those recorded and its output, too long or not.
  module _ {n : ℕ} (e : n ≡ min most (length (words_in (drop line.input lines)))) where
    pub flat_given : 8192 < n → false ≡ is_flat lines line
    unfolding is_flat
    flat_given h = and_no _ (long-spelled _ e h)

    module _ (h : n ≤ 8192) {m : ℕ} (f : m ≡ min most (length (words_in (drop line.words lines)))) where
      pub flat-words : 8192 < m → false ≡ is_flat lines line
      unfolding is_flat
      flat-words k = and_yes (short-spelled _ e h (omega arith)) (and_no _ (long-spelled _ f k))

      pub flat_out : m ≤ 8192 → 8192 < line.out → false ≡ is_flat lines line
      unfolding is_flat
      flat_out k l = and_yes (short-spelled _ e h (omega arith)) (and_yes (short-spelled _ f k (omega arith)) (and_no _ (lt-leb _ _ l)))

      pub flat-done : m ≤ 8192 → line.out ≤ 8192 → {ws gs : List ℕ} {o : ℕ} {r : Bool} → ws ≡ words_in (drop line.words lines) → gs ≡ words_in (drop line.input lines) → line.out ≡ o → r ≡ is_flattened line ws gs (patterns 0 o) → r ≡ is_flat lines line
      unfolding is_flat
      flat-done k l {ws} {gs} {o} ew eg eo q =
          and_yes (short-spelled _ e h (omega arith)) (and_yes (short-spelled _ f k (omega arith)) (and_yes (le-leb _ _ l) (q ∙ ap (λ (x : List ℕ). is_flattened line x gs (patterns 0 o)) ew ∙ ap (λ (x : List ℕ). is_flattened line (words_in (drop line.words lines)) x (patterns 0 o)) eg ∙ ap (λ (n : ℕ). is_flattened line (words_in (drop line.words lines)) (words_in (drop line.input lines)) (patterns 0 n)) (sym eo))))

  -- What is counted for a line.
  stepped : {before now after : State} {same : Bool} → Told now same after → now.answers ≡ before.answers → now.differing ≡ before.differing → now.first ≡ before.first → same ≡ is_right lines line → Stepped lines line before after
  stepped v ea ed ef e =
      record {
        answers = rw ea at v.answers;
        differing = rw (ed, e) at v.differing;
        first = rw (ed, ea, ef, e) at v.first;
      }

  pub step-flat : {before after : State} {same : Bool} → line.op ≡ 70 → Told before same after → same ≡ is_flat lines line → Stepped lines line before after
  unfolding is_right
  step-flat o v e = stepped v refl refl refl (pick_eq _ o e)

  pub step_call : {before now after : State} {same : Bool} {c : ℕ} → (line.op ≡ 70 → ⊥) → Told now same after → now.answers ≡ before.answers → now.differing ≡ before.differing → now.first ≡ before.first → same ≡ is_same lines line c → c ≡ line.start → Stepped lines line before after
  unfolding is_right
  step_call o v ea ed ef e k = stepped v ea ed ef (pick_ne _ o (e ∙ ap (is_same lines line) k))

-- Flattening into an output that was filled.
pub flat-verdict : (line : Line) (words given out : List ℕ) {o o' : List ℕ} {reply : Reply} {answer : Answered ℕ} {b : Bool} → o ≡ filled out → answer ≡ flatten_answer (flatten_final given o) → o' ≡ flatten_out given o → reply ≡ flat_reply answer → b ≡ is_recorded line words reply o' → b ≡ is_flattened line words given (filled out)
unfolding is_flattened
flat-verdict line words given out e a f r k = k ∙ rw (r, a, f, e) refl
