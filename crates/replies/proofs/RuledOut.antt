-- What demand 3 rules out of the replies of an old reader and a new one, a case each.
use Prim.Native.Nat.{ℕ, ◌+◌, ◌≤◌, ◌<◌}
use mathlib.Core.Path.{◌≡◌, refl, sym, ap, ◌∙◌}
use mathlib.Core.Logic.{◌⊎◌, inl, inr}
use mathlib.Core.Bool.{Bool, true, false}
use mathlib.Core.List.{List, ◌++◌}
use native.Mathlib.Omega.{arith}
use lib.Dec.{ltb}
use lib.ListN.{length, take, drop}
use lib.Seq.{take_at}
use borrow.Author.Tests.{ltb-true, ltb-false}
use Rattle.reading.specs.Limits.{max_number}
use Rattle.reading.specs.Answer.{number, no_room, numbers_spent}
use Rattle.reading.proofs.Over.{over-fits}
use Rattle.grammar.specs.Item.{bound}
use Rattle.grammar.proofs.Raise.{words-raise}
use Rattle.grammar.proofs.RuledOut.{unraised}
use Rattle.session.specs.Session.{Call, Term, term_items, term_words}
use Rattle.replies.specs.Sessions.{Reply}
use Rattle.replies.specs.Demand3.{BothRefuse, BothAccept, Later, Alike, early, later}
use Rattle.reading.specs.Answer.{accepted, refused}
use Rattle.replies.proofs.Saying.{refused-same, apart, not-refused}

-- Lists of the same length in front of others that make the same list.
heads-same : (xs ys r s : List ℕ) → length xs ≡ length ys → xs ++ r ≡ ys ++ s → xs ≡ ys
heads-same xs ys r s l e = sym (take_at xs r (length xs) refl) ∙ ap (take (length xs)) e ∙ take_at ys s (length xs) (sym l)

module _ {old new : Call} {c : ℕ} {ro rn : Reply} where
  -- An old reader that refuses what a new one accepts says 13.
  pub only_13 : Alike old new c ro rn → {r a b : ℕ} → ro.said ≡ refused r → rn.said ≡ accepted a b → r ≡ numbers_spent
  only_13 (early k e) o q = absurd (apart (sym q ∙ e.both.1.said))
  only_13 (later m n l) {r} {a} {b} o q = go (ltb max_number (c + n)) refl
    where
      both : BothRefuse old new c (number no_room) ro rn ⊎ BothAccept old new c m n ro rn → r ≡ numbers_spent
      both (inl x) = absurd (apart (sym q ∙ x.1.said))
      both (inr x) = absurd (not-refused m (sym x.0.said ∙ o))

      go : (t : Bool) → ltb max_number (c + n) ≡ t → r ≡ numbers_spent
      go true t = refused-same (sym o ∙ (l.spent (ltb-true max_number (c + n) t)).said)
      go false t = both (l.otherwise (ltb-false max_number (c + n) t))

  -- Two refusals have the same number, or the old one is 13.
  pub same_number : Alike old new c ro rn → {r s : ℕ} → ro.said ≡ refused r → rn.said ≡ refused s → (r ≡ s) ⊎ (r ≡ numbers_spent)
  same_number (early k e) o q = inl (refused-same (sym o ∙ e.both.0.said) ∙ refused-same (sym e.both.1.said ∙ q))
  same_number (later m n l) {r} {s} o q = go (ltb max_number (c + n)) refl
    where
      both : BothRefuse old new c (number no_room) ro rn ⊎ BothAccept old new c m n ro rn → (r ≡ s) ⊎ (r ≡ numbers_spent)
      both (inl x) = inl (refused-same (sym o ∙ x.0.said) ∙ refused-same (sym x.1.said ∙ q))
      both (inr x) = absurd (not-refused m (sym x.0.said ∙ o))

      go : (t : Bool) → ltb max_number (c + n) ≡ t → (r ≡ s) ⊎ (r ≡ numbers_spent)
      go true t = inr (refused-same (sym o ∙ (l.spent (ltb-true max_number (c + n) t)).said))
      go false t = both (l.otherwise (ltb-false max_number (c + n) t))

  -- Where the old reader accepts, both do, with one term.
  accepted-both : (m : Term) (n : ℕ) → Later old new c m n ro rn → {a b : ℕ} → ro.said ≡ accepted a b → BothAccept old new c m n ro rn × (c + n ≤ max_number)
  accepted-both m n l {a} {b} o = go (ltb max_number (c + n)) refl
    where
      both : BothRefuse old new c (number no_room) ro rn ⊎ BothAccept old new c m n ro rn → BothAccept old new c m n ro rn
      both (inl x) = absurd (apart (sym o ∙ x.0.said))
      both (inr x) = x

      go : (t : Bool) → ltb max_number (c + n) ≡ t → BothAccept old new c m n ro rn × (c + n ≤ max_number)
      go true t = absurd (apart (sym o ∙ (l.spent (ltb-true max_number (c + n) t)).said))
      go false t = let h : c + n ≤ max_number = ltb-false max_number (c + n) t in (both (l.otherwise h), h)

  -- The old reader's count goes on by as much as the new one's.
  pub same_growth : Alike old new c ro rn → {a b : ℕ} → ro.said ≡ accepted a b → ro.next ≡ c + rn.next
  same_growth (early k e) o = absurd (apart (sym o ∙ e.both.0.said))
  same_growth (later m n l) o = let x = (accepted-both m n l o).0 in omega (arith, x.0.next, x.1.next)

  -- An answer whose numbers are not raised is not alike: an old reader, at a count that is not 0, does not write a new one's words where
  -- these bind a number.
  pub not-raised : Alike old new c ro rn → {a b : ℕ} → ro.said ≡ accepted a b → 0 < c → 0 < rn.next → old.out ≡ new.out → ro.out ≡ rn.out → ⊥
  not-raised (early k e) o h i s w = apart (sym o ∙ e.both.0.said)
  not-raised (later m n l) o h i s w =
      let x = accepted-both m n l o in
      let old-out = over-fits (term_words c m) old.out x.0.0.room in
      let new-out = over-fits (term_words 0 m) new.out x.0.1.room in
      let e : term_words c m ++ drop (length (term_words c m)) old.out ≡ term_words 0 m ++ drop (length (term_words 0 m)) old.out =
      sym old-out ∙ sym x.0.0.out ∙ w ∙ x.0.1.out ∙ new-out ∙ ap (λ (z : List ℕ). term_words 0 m ++ drop (length (term_words 0 m)) z) (sym s) in
      let f : term_words c m ≡ term_words 0 m = heads-same _ _ _ _ (words-raise c (term_items m) ∙ sym (words-raise 0 (term_items m))) e in
      let none : length (bound (term_items m)) ≡ 0 = unraised c n h x.1 (term_items m) l.binds.above (f ∙ l.new_words) in
      omega (arith, none, l.binds.size, x.0.1.next)
