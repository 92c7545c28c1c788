-- Reading made flat: what is still to come, given the lists that are open. The trees of the innermost list that were read so far are f, and those of
-- the lists around it are st, innermost first; the last of them stand outside of all lists.
use Prim.Native.Nat.{ℕ, suc, ◌+◌, ◌≤◌, ◌<◌}
use mathlib.Core.Bool.{Bool, true, false}
use mathlib.Core.Path.{◌≡◌, refl, ap, ◌∙◌}
use mathlib.Core.List.{List, [], ◌∷◌}
use lib.ListN.{length, drop}
use borrow.Author.Tests.{lt-ltb, le-ltb}
use Rattle.reading.specs.Limits.{max_lists}
use Rattle.reading.specs.Answer.{Refusal, ends_early, stray_close, unclosed, too_deep, Ans, got, bad}
use Rattle.reading.specs.Tree.{Atom, Tree, Trees, atom, list, tnil, tcons}
use Rattle.reading.specs.Token.{Token, blank, opens, closes, word, unfinished, token_at}
use Rattle.reading.specs.Reading.{Found, met, found, then_find, in_front, may_follow, go_on, open_list, close_list, text_ends, from_token, Read, reading}
use Rattle.text.specs.Scanned.{scan_of}
use Rattle.reading.proofs.Finding.Grammar.{expressions_of, expressions_nil, expressions_cons}

joined : Trees → Trees → Trees
joined tnil us = us
joined (tcons t ts) us = tcons t (joined ts us)

-- A tree behind others.
unfoldable pub snoc : Trees → Tree → Trees
snoc tnil t = tcons t tnil
snoc (tcons u ts) t = tcons u (snoc ts t)

joined_snoc : (f : Trees) (t : Tree) (us : Trees) → joined f (tcons t us) ≡ joined (snoc f t) us
unfolding joined snoc
joined_snoc tnil t us = refl
joined_snoc (tcons u f) t us = ap (tcons u) (joined_snoc f t us)

joined_nil : (f : Trees) → joined f tnil ≡ f
unfolding joined
joined_nil tnil = refl
joined_nil (tcons u f) = ap (tcons u) (joined_nil f)

module _ (all : Bool) where
  -- What is read, where so much is found in the innermost list.
  up : Trees → List Trees → Found → Ans Read
  up f [] (met r) = bad r
  up f [] (found ts at s) = got (record { read = joined f ts; next = at })
  up f (g ∷ st) (met r) = bad r
  up f (g ∷ st) (found ts at s) = up (snoc g (list (joined f ts))) st (go_on (may_follow all (length st)) (expressions_of all) (length st) at s)

  -- What is read in the whole text, where s begins at the position; more says whether an expression may stand there.
  pub to_come : Bool → Trees → List Trees → ℕ → List ℕ → Ans Read
  to_come more f st at s = up f st (go_on more (expressions_of all) (length st) at s)

  up-met : (f : Trees) (st : List Trees) (r : Refusal) → up f st (met r) ≡ bad r
  unfolding up
  up-met f [] r = refl
  up-met f (g ∷ st) r = refl

  up-front : (f : Trees) (st : List Trees) (t : Tree) (x : Found) → up f st (in_front t x) ≡ up (snoc f t) st x
  unfolding up in_front
  up-front f [] t (met r) = refl
  up-front f [] t (found ts at s) = ap (λ (l : Trees). got (record { read = l; next = at })) (joined_snoc f t ts)
  up-front f (g ∷ st) t (met r) = refl
  up-front f (g ∷ st) t (found ts at s) =
      ap (λ (l : Trees). up (snoc g (list l)) st (go_on (may_follow all (length st)) (expressions_of all) (length st) at s)) (joined_snoc f t ts)

  up-then : (f : Trees) (st : List Trees) (x : Found)
      → up f st (then_find x (λ ts at s. in_front (list ts) (go_on (may_follow all (length st)) (expressions_of all) (length st) at s))) ≡ up tnil (f ∷ st) x
  unfolding up then_find joined
  up-then f st (met r) = up-met f st r
  up-then f st (found ts at s) = up-front f st (list ts) (go_on (may_follow all (length st)) (expressions_of all) (length st) at s)

  up_start : (x : Found) → reading x ≡ up tnil [] x
  unfolding up reading joined
  up_start (met r) = refl
  up_start (found ts at s) = refl

  -- At first no list is open, and nothing is read.
  pub come_start : (s : List ℕ) → scan_of all s ≡ to_come true tnil [] 0 s
  unfolding to_come go_on
  come_start s = up_start (expressions_of all 0 0 s)

  -- Outside of all lists, where no expression may follow, that is all.
  pub come_done : (f : Trees) (at : ℕ) (s : List ℕ) → to_come false f [] at s ≡ got (record { read = f; next = at })
  unfolding to_come go_on up
  come_done f at s = ap (λ (l : Trees). got (record { read = l; next = at })) (joined_nil f)

  ends : (f : Trees) (st : List Trees) (at : ℕ) → to_come true f st at [] ≡ up f st (text_ends all (length st) at)
  unfolding to_come go_on
  ends f st at = ap (up f st) (expressions_nil all (length st) at)

  -- The text ends inside a list.
  pub come_inside : (f g : Trees) (st : List Trees) (at : ℕ) → to_come true f (g ∷ st) at [] ≡ bad ends_early
  unfolding text_ends
  come_inside f g st at = ends f (g ∷ st) at ∙ ap (up f (g ∷ st)) (early all) ∙ up-met f (g ∷ st) ends_early
    where
      early : (b : Bool) → text_ends b (suc (length st)) at ≡ met ends_early
      early true = refl
      early false = refl

module _ (f : Trees) (at : ℕ) where
  -- The text ends outside of all lists, and all expressions were wanted.
  pub come_all : to_come true true f [] at [] ≡ got (record { read = f; next = at })
  unfolding text_ends up
  come_all = ends true f [] at ∙ ap (λ (l : Trees). got (record { read = l; next = at })) (joined_nil f)

  -- The text ends, and one expression was wanted.
  pub come_none : (st : List Trees) → to_come false true f st at [] ≡ bad ends_early
  unfolding text_ends
  come_none st = ends false f st at ∙ up-met false f st ends_early

module _ (all : Bool) (at b : ℕ) (s : List ℕ) where
  step : (f : Trees) (st : List Trees) (t : Token) → token_at at b s ≡ t → to_come all true f st at (b ∷ s) ≡ up all f st (from_token all (expressions_of all) t (length st) at s)
  unfolding to_come go_on
  step f st t e = ap (up all f st) (expressions_cons all (length st) at b s ∙ ap (λ (k : Token). from_token all (expressions_of all) k (length st) at s) e)

  -- White space is passed over.
  pub come_blank : (f : Trees) (st : List Trees) (m : ℕ) → token_at at b s ≡ blank m → to_come all true f st at (b ∷ s) ≡ to_come all true f st (at + suc m) (drop m s)
  unfolding to_come go_on from_token
  come_blank f st m e = step f st (blank m) e

  -- A string or an `@` that does not end is 5.
  pub come_unfinished : (f : Trees) (st : List Trees) → token_at at b s ≡ unfinished → to_come all true f st at (b ∷ s) ≡ bad unclosed
  unfolding from_token
  come_unfinished f st e = step f st unfinished e ∙ up-met all f st unclosed

  -- A `(` opens a list.
  pub come_open : (f : Trees) (st : List Trees) → token_at at b s ≡ opens → length st < max_lists → to_come all true f st at (b ∷ s) ≡ to_come all true tnil (f ∷ st) (at + 1) s
  unfolding to_come go_on from_token open_list
  come_open f st e h =
      step f st opens e
      ∙ ap (λ (room : Bool). up all f st (open_list all (expressions_of all) room (length st) at s)) (lt-ltb (length st) max_lists h)
      ∙ up-then all f st (expressions_of all (suc (length st)) (at + 1) s)

  -- A list too many is 6.
  pub come_deep : (f : Trees) (st : List Trees) → token_at at b s ≡ opens → max_lists ≤ length st → to_come all true f st at (b ∷ s) ≡ bad too_deep
  unfolding from_token open_list
  come_deep f st e h =
      step f st opens e
      ∙ ap (λ (room : Bool). up all f st (open_list all (expressions_of all) room (length st) at s)) (le-ltb (length st) max_lists h)
      ∙ up-met all f st too_deep

  -- A `)` outside of all lists is 4.
  pub come_stray : (f : Trees) → token_at at b s ≡ closes → to_come all true f [] at (b ∷ s) ≡ bad stray_close
  unfolding from_token close_list
  come_stray f e = step f [] closes e ∙ up-met all f [] stray_close

  -- A `)` ends a list, which is a tree of the list around it.
  pub come_close : (f g : Trees) (st : List Trees) → token_at at b s ≡ closes → to_come all true f (g ∷ st) at (b ∷ s) ≡ to_come all (may_follow all (length st)) (snoc g (list f)) st (at + 1) s
  unfolding to_come up from_token close_list
  come_close f g st e =
      step f (g ∷ st) closes e
      ∙ ap (λ (l : Trees). up all (snoc g (list l)) st (go_on (may_follow all (length st)) (expressions_of all) (length st) (at + 1) s)) (joined_nil f)

  -- An atom is a tree of the innermost list.
  pub come_word : (f : Trees) (st : List Trees) (a : Atom) (m : ℕ) → token_at at b s ≡ word a m → to_come all true f st at (b ∷ s) ≡ to_come all (may_follow all (length st)) (snoc f (atom a)) st (at + suc m) (drop m s)
  unfolding to_come from_token
  come_word f st a m e =
      step f st (word a m) e ∙ up-front all f st (atom a) (go_on (may_follow all (length st)) (expressions_of all) (length st) (at + suc m) (drop m s))
