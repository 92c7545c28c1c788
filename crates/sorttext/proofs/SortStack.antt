-- What is to come behind a sort: the sorts of the open lists, the innermost of which stands first.
use Prim.Native.Nat.{ℕ, zero, suc, ◌+◌, ◌≤◌, ◌<◌}
use mathlib.Core.Path.{◌≡◌, refl, sym, ap, ◌∙◌}
use mathlib.Core.List.{List, [], ◌∷◌, ◌++◌, append_assoc}
use native.Mathlib.Omega.{arith}
use lib.Dec.{eqb}
use lib.ListN.{length, replicate, length-append}
use Rattle.reading.specs.Pick.{pick}
use Rattle.reading.specs.Answer.{Ans, got}
use Rattle.grammar.specs.Sort.{Sort, Sorts, snil, scons, sorts, sort_words, sorts_words}
use Rattle.grammar.specs.Numbers.{hit}
use Rattle.smtnames.specs.Pieces.{joined, sort_text}
use Rattle.smtlevels.specs.Open.{total, ending, settled}
use Rattle.sorttext.specs.SortWalk.{end_text}
use Rattle.smtnames.proofs.Joined.{joined_assoc, joined-none, joined-got}
use Rattle.sorttext.proofs.SortTexts.{spaced_text}
use Rattle.sorttext.proofs.SortViews.{words-some}
use Rattle.smtlevels.proofs.Open.{hit-yes, hit-no, ending-none}
use Rattle.sorttext.proofs.EndTexts.{end_more}

-- How many sorts each list has, their words, and their bytes with a parenthesis behind each list.
unfoldable pub levels : List Sorts → List ℕ
levels [] = []
levels (ss ∷ st) = sorts ss ∷ levels st

unfoldable pub stack_words : List Sorts → List ℕ
stack_words [] = []
stack_words (ss ∷ st) = sorts_words ss ++ stack_words st

unfoldable pub rest_text : List ℕ → List Sorts → Ans (List ℕ)
rest_text text [] = got []
rest_text text (ss ∷ st) = joined (spaced_text text ss) (joined (got (41 ∷ [])) (rest_text text st))

-- One word at least for each sort.
sorts-few : (ss : Sorts) → sorts ss ≤ length (sorts_words ss)
unfolding sorts sort_words
sorts-few snil = omega arith
sorts-few (scons s ss) = omega (arith, words-some s, sorts-few ss, length-append (sort_words s) (sorts_words ss))

pub stack_few : (st : List Sorts) → total (levels st) ≤ length (stack_words st)
unfolding levels stack_words total
stack_few [] = omega arith
stack_few (ss ∷ st) = omega (arith, sorts-few ss, stack_few st, length-append (sorts_words ss) (stack_words st))

-- What stands behind a sort by the open lists: a list that has ended, or one with more.
end-zero : (cs : List ℕ) → end_text (zero ∷ cs) ≡ 41 ∷ end_text cs
unfolding end_text total ending
end-zero cs =
    let e : 0 + total cs ≡ total cs = omega arith in
    let f : hit (total cs) (total cs) + ending (total cs) cs ≡ suc (ending (total cs) cs) = omega (arith, hit-yes (total cs) (total cs) refl) in
    ap (λ (t : ℕ). replicate (ending t (zero ∷ cs)) 41 ++ pick (eqb t 0) [] (32 ∷ [])) e ∙ ap (λ (n : ℕ). replicate n 41 ++ pick (eqb (total cs) 0) [] (32 ∷ [])) f

end-suc : (n : ℕ) (cs : List ℕ) → end_text (suc n ∷ cs) ≡ 32 ∷ []
unfolding total ending
end-suc n cs =
    let t : total cs < suc n + total cs = omega arith in
    let e : 0 ≡ ending (suc n + total cs) (suc n ∷ cs) = omega (arith, hit-no (suc n + total cs) (total cs) (λ e. omega (arith, e)), ending-none (suc n + total cs) cs t) in
    sym (end_more (suc n ∷ cs) e refl (λ e. omega (arith, e)))

end_nil : end_text [] ≡ []
unfolding end_text total ending pick
end_nil = refl

-- What comes behind a sort without sorts inside it: nothing more, or the next sort of the innermost list that has one.
pub data Behind (text : List ℕ) (st : List Sorts) : Type 0 where
  ends : total (levels st) ≡ 0 → stack_words st ≡ [] → rest_text text st ≡ got (end_text (levels st)) → Behind text st
  goes : (s : Sort) (ss : Sorts) (st' : List Sorts) → settled (levels st) ≡ suc (sorts ss) ∷ levels st' → stack_words st ≡ sort_words s ++ stack_words (ss ∷ st')
      → rest_text text st ≡ joined (got (end_text (levels st))) (joined (sort_text text s) (rest_text text (ss ∷ st'))) → Behind text st

-- One list more, which has ended.
more-ended : (text : List ℕ) (st : List Sorts) → rest_text text (snil ∷ st) ≡ joined (got (41 ∷ [])) (rest_text text st)
unfolding rest_text spaced_text
more-ended text st = joined-none _

behind-ended : (text : List ℕ) (st : List Sorts) → Behind text st → Behind text (snil ∷ st)
unfolding levels stack_words sorts sort_words total settled joined
behind-ended text st (ends z w e) =
    ends (omega (arith, z)) w (more-ended text st ∙ ap (joined (got (41 ∷ []))) e ∙ ap got (sym (end-zero (levels st))))
behind-ended text st (goes s ss st' z w e) =
    goes s ss st' z w
    (more-ended text st
    ∙ ap (joined (got (41 ∷ []))) e
    ∙ joined-got (41 ∷ []) (end_text (levels st)) (joined (sort_text text s) (rest_text text (ss ∷ st')))
    ∙ ap (λ l. joined (got l) (joined (sort_text text s) (rest_text text (ss ∷ st')))) (sym (end-zero (levels st))))

-- One list more, which goes on.
more-goes : (text : List ℕ) (s : Sort) (ss : Sorts) (st : List Sorts) → rest_text text (scons s ss ∷ st) ≡ joined (got (32 ∷ [])) (joined (sort_text text s) (rest_text text (ss ∷ st)))
unfolding rest_text spaced_text
more-goes text s ss st =
    joined_assoc (got (32 ∷ [])) (joined (sort_text text s) (spaced_text text ss)) _
    ∙ ap (joined (got (32 ∷ []))) (joined_assoc (sort_text text s) (spaced_text text ss) _)

pub behind : (text : List ℕ) (st : List Sorts) → Behind text st
unfolding levels stack_words rest_text sorts sort_words total settled
behind text [] = ends refl refl (ap got (sym end_nil))
behind text (snil ∷ st) = behind-ended text st (behind text st)
behind text (scons s ss ∷ st) =
    goes s ss st refl (append_assoc (sort_words s) (sorts_words ss) (stack_words st))
    (more-goes text s ss st ∙ ap (λ l. joined (got l) (joined (sort_text text s) (rest_text text (ss ∷ st)))) (sym (end-suc (sorts ss) (levels st))))
