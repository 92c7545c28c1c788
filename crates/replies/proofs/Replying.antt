-- What a promised reply is, by what its call decides.
use Prim.Native.Nat.{ℕ, ◌+◌, ◌≤◌}
use mathlib.Core.Path.{◌≡◌, ap, subst, ◌∙◌}
use mathlib.Core.Bool.{Bool, true, false}
use native.Mathlib.Omega.{arith}
use lib.ListN.{length}
use borrow.Author.Tests.{leb-true}
use Rattle.reading.specs.Pick.{pick}
use Rattle.reading.specs.Limits.{max_number}
use Rattle.reading.specs.Answer.{Res, ok, refuses, fits_in}
use Rattle.grammar.specs.Item.{words_of}
use Rattle.grammar.proofs.Raise.{words-raise}
use Rattle.grammar.proofs.AnswerHolds.{Post}
use Rattle.session.specs.Session.{Call, Term, term_items, draft_items, term_words, made, room_for, final, Outcome, outcome}
use Rattle.session.proofs.Made.{Fine, make-fine}
use Rattle.session.proofs.Calls.{when_refused, when_accepted, decides_long}
use Rattle.replies.specs.Sessions.{Reply}
use Rattle.replies.specs.Sessions.{Promised}
use Rattle.replies.specs.Demand3.{Refuses, Accepts}

-- What a call makes is fine.
pub fine : (call : Call) (m : Term) (n : ℕ) → made call ≡ ok m n → Fine call.op 0 m n
fine call m n e = subst (λ (r : Res Term). Post r (Fine call.op 0)) e (make-fine call.op call.text call.tree 0)

-- There is room for the words of an answer, whatever its numbers are raised by.
room-there : (call : Call) (c : ℕ) (m : Term) → room_for call m ≡ true → length (term_words c m) ≤ length call.out
unfolding room_for pick
room-there call c m h =
    omega (arith, words-raise c (term_items m), leb-true (length (words_of (term_items m))) (length call.out) (go (fits_in call.draft (words_of (draft_items m))) (fits_in call.out (words_of (term_items m))) h))
  where
    go : (a b : Bool) → pick a b false ≡ true → b ≡ true
    go true b e = e
    go false true e = cc
    go false false e = e

module _ {call : Call} {c : ℕ} {reply : Reply} (p : Promised call c reply) where
  -- A part of the outcome, by the outcome.
  part : {A : Type 0} (of : Outcome → A) {x : A} {o : Outcome} → x ≡ of (outcome call c) → outcome call c ≡ o → x ≡ of o
  part of e q = e ∙ ap of q

  pub refuses-by : (r : ℕ) → final call c ≡ refuses r → Refuses call c r reply
  refuses-by r e =
      let q = when_refused call c r e in
      record {
        said = part (λ o. o.said) p.said q;
        next = part (λ o. o.count) p.count q;
        tree = part (λ o. o.tree) p.working q;
        draft = part (λ o. o.draft) p.body q;
        out = part (λ o. o.out) p.output q;
      }

  pub accepts-by : (m : Term) (n : ℕ) → made call ≡ ok m n → c + n ≤ max_number → room_for call m ≡ true → Accepts call c m n reply
  accepts-by m n e h s =
      let q = when_accepted call c m n (decides_long call c m n e h s) in
      record {
        op = (fine call m n e).kind;
        said = part (λ o. o.said) p.said q;
        next = part (λ o. o.count) p.count q;
        tree = part (λ o. o.tree) p.working q;
        draft = part (λ o. o.draft) p.body q;
        room = room-there call c m s;
        out = part (λ o. o.out) p.output q;
      }
