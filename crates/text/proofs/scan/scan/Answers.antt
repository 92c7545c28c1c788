use mathlib.Core.Path.{refl, sym, ◌∙◌}
use native.Mathlib.Omega.{arith}
use Rattle.text.proofs.Looping.Turn.{start, blanked, broken, opened, too_deep_lem, unopened, at-tree, at_close, closed, at_leaf, worded, goes_on, one-read, ended-inside, ended-all, ended-none}
use Rattle.text.proofs.scan.scan.Goals as goal
use Rattle.text.proofs.scan.scan.Goals.{else-all-via-then-all+else-depth-eq0-2, else-all-via-else-all}

pub loop-at-init : goal.loop-at-init
loop-at-init c = start _ _ _ _ _ refl refl refl

pub loop-at-preserved-in-Blank : goal.loop-at-preserved-in-Blank
loop-at-preserved-in-Blank c =
    (blanked c.loop-at.invariant c.loop-at-test.true (sym c.token_at.ensures ∙ c.in-Blank.is)).1

pub returns-then-depth-ge-MAX_LISTS : goal.returns-then-depth-ge-MAX_LISTS
returns-then-depth-ge-MAX_LISTS c =
    too_deep_lem c.loop-at.invariant c.loop-at-test.true (sym c.token_at.ensures ∙ c.in-Opens.is) c.if-depth-ge-MAX_LISTS.true

pub loop-at-preserved-in-Opens : goal.loop-at-preserved-in-Opens
loop-at-preserved-in-Opens c =
    rw c.put_list.ensures (opened c.loop-at.invariant c.loop-at-test.true (sym c.token_at.ensures ∙ c.in-Opens.is) (omega arith))

pub returns-then-depth-eq0 : goal.returns-then-depth-eq0
returns-then-depth-eq0 c =
    unopened c.loop-at.invariant c.loop-at-test.true (sym c.token_at.ensures ∙ c.in-Closes.is) c.if-depth-eq0.true

pub overflow_sub-words : goal.overflow_sub-words
overflow_sub-words c = omega (arith, at_close c.loop-at.invariant c.if-depth-eq0.false)

pub overflow_sub-words-in-Closes : goal.overflow_sub-words-in-Closes
overflow_sub-words-in-Closes c = omega (arith, at_close c.loop-at.invariant c.if-depth-eq0.false)

pub put_list-requires-in-Closes : goal.put_list-requires-in-Closes
put_list-requires-in-Closes c = omega (arith, at_close c.loop-at.invariant c.if-depth-eq0.false, at-tree c.loop-at.invariant)

pub overflow_add-counts : goal.overflow_add-counts
overflow_add-counts c = omega (arith, at_close c.loop-at.invariant c.if-depth-eq0.false)

pub returns-then-not-may_follow : goal.returns-then-not-may_follow
returns-then-not-may_follow c =
    rw c.put_list-in-Closes.ensures (one-read (closed c.loop-at.invariant c.loop-at-test.true (sym c.token_at.ensures ∙ c.in-Closes.is) c.if-depth-eq0.false) refl (sym c.may_follow.ensures ∙ c.if-not-may_follow.true))

pub loop-at-preserved-else-not-may_follow : goal.loop-at-preserved-else-not-may_follow
loop-at-preserved-else-not-may_follow c =
    rw c.put_list-in-Closes.ensures (goes_on (closed c.loop-at.invariant c.loop-at-test.true (sym c.token_at.ensures ∙ c.in-Closes.is) c.if-depth-eq0.false) (sym c.may_follow.ensures ∙ c.if-not-may_follow.false))

pub put_words-requires : goal.put_words-requires
put_words-requires c =
    omega (arith, at_leaf c.loop-at.invariant c.loop-at-test.true (sym c.token_at.ensures ∙ c.in-Leaf.is))

pub overflow_add-words-in-Leaf : goal.overflow_add-words-in-Leaf
overflow_add-words-in-Leaf c =
    omega (arith, at_leaf c.loop-at.invariant c.loop-at-test.true (sym c.token_at.ensures ∙ c.in-Leaf.is))

pub overflow_add-counts-in-Leaf : goal.overflow_add-counts-in-Leaf
overflow_add-counts-in-Leaf c = omega (arith, at-tree c.loop-at.invariant)

pub returns-then-not-may_follow-2 : goal.returns-then-not-may_follow-2
returns-then-not-may_follow-2 c =
    rw c.put_words.ensures (one-read (worded c.loop-at.invariant c.loop-at-test.true (sym c.token_at.ensures ∙ c.in-Leaf.is)) refl (sym c.may_follow-in-Leaf.ensures ∙ c.if-not-may_follow-2.true))

pub loop-at-preserved : goal.loop-at-preserved
loop-at-preserved c =
    rw c.put_words.ensures (goes_on (worded c.loop-at.invariant c.loop-at-test.true (sym c.token_at.ensures ∙ c.in-Leaf.is)) (sym c.may_follow-in-Leaf.ensures ∙ c.if-not-may_follow-2.false))

pub returns-in-Unfinished : goal.returns-in-Unfinished
returns-in-Unfinished c = broken c.loop-at.invariant c.loop-at-test.true (sym c.token_at.ensures ∙ c.in-Unfinished.is)

pub returns-then-depth-eq0-2 : goal.returns-then-depth-eq0-2
returns-then-depth-eq0-2 c = ended-all c.loop-at.invariant c.loop-at-test.false c.if-all.true c.if-depth-eq0-2.true

pub returns : goal.returns
returns c =
    elim c.else-all.branch [
      | else-all-via-then-all+else-depth-eq0-2 w ↦ ended-inside c.loop-at.invariant c.loop-at-test.false w.if-depth-eq0-2.false
      | else-all-via-else-all w ↦ ended-none c.loop-at.invariant c.loop-at-test.false w.if-all.false
    ]
