-- What the four functions of the cycle go by: a measure of each, which falls at every call of one from another.
use Prim.Native.Nat.{◌+◌, ◌*◌, ◌-◌, ◌≤◌}
use lib.ListN.{length}
use mathlib.Core.Path.{◌≡◌}
use Rattle.reading.specs.Tree.{Trees, trees_words}
use Rattle.sorts.proofs.RowLoop.{Left}
use Rattle.sorts.proofs.sorts.+each_sort_func_sort_list_sort_sort.Given as goal

-- Four for each word, and a rest for the calls that lend all words on.
abbrev pub decreases-each_sort : goal.decreases-each_sort
decreases-each_sort l = 4 * length l.items.now + 2

abbrev pub decreases-func_sort : goal.decreases-func_sort
decreases-func_sort l = 4 * length l.items.now

abbrev pub decreases-list_sort : goal.decreases-list_sort
decreases-list_sort l = 4 * length l.tree.now

abbrev pub decreases-sort : goal.decreases-sort
decreases-sort l = 4 * length l.tree.now + 1

-- The trees that are left make the whole, whichever trees the words are of.
abbrev pub invariant-each_sort-loop-at : goal.invariant-each_sort-loop-at
invariant-each_sort-loop-at l = (l.at ≤ length l.items) × (length l.out ≡ length l.initial.out) × ((ts : Trees) → l.items ≡ trees_words ts → Left l.text ts l.items l.m l.initial.out l.at l.w l.left l.out)

abbrev pub decreases-each_sort-loop-at : goal.decreases-each_sort-loop-at
decreases-each_sort-loop-at l = length l.items - l.at
