-- Demand 3, proved: the claim about every list of calls.
use Prim.Native.Nat.{ℕ, ◌+◌, ◌≤◌}
use mathlib.Core.Path.{◌≡◌, refl, sym, ap, subst, ◌∙◌}
use mathlib.Core.Logic.{◌⊎◌, inl, inr}
use mathlib.Core.Bool.{Bool, true, false}
use mathlib.Core.List.{List, [], ◌∷◌}
use native.Mathlib.Omega.{arith}
use lib.Dec.{ltb}
use borrow.Author.Tests.{ltb-true, ltb-false}
use Rattle.reading.specs.Limits.{max_number}
use Rattle.reading.specs.Answer.{Refusal, number, no_room, numbers_spent, Res, ok, no, accepts, refuses}
use Rattle.grammar.specs.Item.{words_of}
use Rattle.grammar.specs.Numbers.{Exactly}
use Rattle.grammar.proofs.Exact.{exactly_none, exactly_append, exactly_raise}
use Rattle.grammar.proofs.Raise.{raise_zero}
use Rattle.session.specs.Session.{Call, Term, term_items, made, room_for, final, bound_by}
use Rattle.session.specs.Compared.{reads_or_sorts, Agree}
use Rattle.session.proofs.Calls.{made-same, final-same, decides_early, decides_spent, decides_short, room-same, not-spent}
use Rattle.replies.specs.Sessions.{Reply, Turn, Session, last_count}
use Rattle.replies.specs.Sessions.{Promised}
use Rattle.replies.specs.Demand3.{BothRefuse, BothAccept, Answered, AllAnswered, bound_in, Early, Later, Alike, early, later, Demand3}
use Rattle.reading.specs.Answer.{refused}
use Rattle.replies.proofs.Replying.{fine, refuses-by, accepts-by}
use Rattle.replies.proofs.Saying.{refused-same, not-refused}

-- One call on two readers.
module _ {old new : Call} {c : ℕ} {ro rn : Reply} (g : Agree old new) (h : c ≤ max_number) (po : Promised old c ro) (pn : Promised new 0 rn) where
  -- Both refuse, if the call would at either count.
  both_refuse : (r : ℕ) → final new c ≡ refuses r → final new 0 ≡ refuses r → BothRefuse old new c r ro rn
  both_refuse r e f = (refuses-by po r (final-same old new c g ∙ e), refuses-by pn r f)

  is-early : (r : Refusal) → made new ≡ no r → Early old new c (number r) ro rn
  is-early r e =
      record {
        not13 = (not-spent r).1;
        always = λ other reply s p. refuses-by p (number r) (decides_early other 0 r (made-same other new s.op s.text s.tree ∙ e));
        both = both_refuse (number r) (decides_early new c r e) (decides_early new 0 r e);
      }

  module _ (m : Term) (n : ℕ) (e : made new ≡ ok m n) where
    old_made : made old ≡ ok m n
    old_made = made-same old new g.op g.text g.tree ∙ e

    -- Both give 7, or both accept.
    otherwise : c + n ≤ max_number → BothRefuse old new c (number no_room) ro rn ⊎ BothAccept old new c m n ro rn
    otherwise l = go (room_for new m) refl
      where
        go : (b : Bool) → room_for new m ≡ b → BothRefuse old new c (number no_room) ro rn ⊎ BothAccept old new c m n ro rn
        go true s = inr (accepts-by po m n old_made l (room-same old new m g.draft g.out ∙ s), accepts-by pn m n e (omega arith) s)
        go false s = inl (both_refuse (number no_room) (decides_short new c m n e l s) (decides_short new 0 m n e (omega arith) s))

    is_later : Later old new c m n ro rn
    unfolding bound_by
    is_later =
        let f = fine new m n e in
        record {
          as_if_long = λ long reply l p. accepts-by p m n (made-same long new l.same.op l.same.text l.same.tree ∙ e) (omega (arith, f.few)) l.room;
          binds = f.exact.0;
          spent = λ l. refuses-by po numbers_spent (final-same old new c g ∙ decides_spent new c m n e l);
          not_spent = λ l q. go q (otherwise l);
          otherwise = otherwise;
          new_words = ap words_of (raise_zero (term_items m));
          old_binds = exactly_raise c n (term_items m) f.exact.0;
          scoped = f.exact.1 c;
        }
      where
        go : ro.said ≡ refused numbers_spent → BothRefuse old new c (number no_room) ro rn ⊎ BothAccept old new c m n ro rn → ⊥
        go q (inl x) = let z : number no_room ≡ numbers_spent = refused-same (sym x.0.said ∙ q) in omega arith
        go q (inr x) = not-refused m (sym x.0.said ∙ q)

  alike : Alike old new c ro rn
  alike = go (made new) refl
    where
      go : (x : Res Term) → made new ≡ x → Alike old new c ro rn
      go (no r) e = early (number r) (is-early r e)
      go (ok m n) e = later m n (is_later m n e)

  -- In read and sort no number is bound, so that an old reader refuses what a new one does.
  read_or_sort_lem : reads_or_sorts new.op ≡ true → (r : ℕ) → rn.said ≡ refused r → BothRefuse old new c r ro rn
  read_or_sort_lem rs r q = go (made new) refl
    where
      same : {k : ℕ} → BothRefuse old new c k ro rn → BothRefuse old new c r ro rn
      same {k} b = subst (λ (i : ℕ). BothRefuse old new c i ro rn) (refused-same (sym b.1.said ∙ q)) b

      go : (x : Res Term) → made new ≡ x → BothRefuse old new c r ro rn
      go (no k) e = same (both_refuse (number k) (decides_early new c k e) (decides_early new 0 k e))
      go (ok m n) e = rest (otherwise m n e (omega (arith, (fine new m n e).none rs)))
        where
          rest : BothRefuse old new c (number no_room) ro rn ⊎ BothAccept old new c m n ro rn → BothRefuse old new c r ro rn
          rest (inl b) = same b
          rest (inr b) = absurd (not-refused m (sym b.1.said ∙ q))

-- One turn: it is answered, what the answer binds, and that the count stays in range.
record Step (c : ℕ) (t : Turn) : Type 0 where
  pub answered : Answered c t
  pub numbers : Exactly c (bound_by c answered.answer) t.reply.next
  pub fits : t.reply.next ≤ max_number

module _ {c : ℕ} {t : Turn} (h : c ≤ max_number) (p : Promised t.call c t.reply) where
  refused-step : (r : ℕ) → final t.call c ≡ refuses r → Step c t
  unfolding bound_by
  refused-step r e =
      let x = refuses-by p r e in
      record { answered = record { answer = refuses r; gives = x; scoped = tt }; numbers = rw x.next (exactly_none c); fits = omega (arith, x.next) }

  accepted-step : (m : Term) (n : ℕ) → made t.call ≡ ok m n → c + n ≤ max_number → room_for t.call m ≡ true → Step c t
  unfolding bound_by
  accepted-step m n e l s =
      let x = accepts-by p m n e l s in
      let f = fine t.call m n e in
      record {
        answered = record { answer = accepts m n; gives = x; scoped = f.exact.1 c };
        numbers = rw x.next (exactly_raise c n (term_items m) f.exact.0);
        fits = omega (arith, x.next);
      }

  step : Step c t
  step = go (made t.call) refl
    where
      go : (x : Res Term) → made t.call ≡ x → Step c t
      go (no r) e = refused-step (number r) (decides_early t.call c r e)
      go (ok m n) e = by (ltb max_number (c + n)) refl (room_for t.call m) refl
        where
          by : (s : Bool) → ltb max_number (c + n) ≡ s → (b : Bool) → room_for t.call m ≡ b → Step c t
          by true l b r = refused-step numbers_spent (decides_spent t.call c m n e (ltb-true max_number (c + n) l))
          by false l true r = accepted-step m n e (ltb-false max_number (c + n) l) r
          by false l false r = refused-step (number no_room) (decides_short t.call c m n e (ltb-false max_number (c + n) l) r)

-- The count that a reply returns is one that a reader holds.
pub next_fits : {c : ℕ} {t : Turn} → c ≤ max_number → Promised t.call c t.reply → t.reply.next ≤ max_number
next_fits {t = t} h p = (step {t = t} h p).fits

-- All turns of a session.
answered : (ts : List Turn) (c : ℕ) → c ≤ max_number → Session c ts → AllAnswered c ts
answered [] c h s = tt
answered (t ∷ ts) c h s = let x = step {t = t} h s.0 in (x.answered, answered ts t.reply.next x.fits s.1)

numbers : (ts : List Turn) (c : ℕ) (h : c ≤ max_number) (s : Session c ts) → Exactly c (bound_in c ts (answered ts c h s)) (last_count c ts)
unfolding answered
numbers [] c h s = exactly_none c
numbers (t ∷ ts) c h s =
    let x = step {t = t} h s.0 in
    exactly_append c t.reply.next (last_count t.reply.next ts) _ _ x.numbers (numbers ts t.reply.next x.fits s.1)

fits : (ts : List Turn) (c : ℕ) → c ≤ max_number → Session c ts → last_count c ts ≤ max_number
fits [] c h s = h
fits (t ∷ ts) c h s = fits ts t.reply.next (next_fits {t = t} h s.0) s.1

-- Demand 3 holds of every session, on a reader that is opened at any count that it can hold.
pub demand3 : (opened : ℕ) → opened ≤ max_number → (turns : List Turn) → Session opened turns → Demand3 opened turns
demand3 opened h turns s =
    record {
      answered = answered turns opened h s;
      numbers = numbers turns opened h s;
      fits = fits turns opened h s;
      alike = λ old new ro rn g po pn. alike g (fits turns opened h s) po pn;
      read_or_sort = λ old new ro rn g po pn. read_or_sort_lem g (fits turns opened h s) po pn;
    }
