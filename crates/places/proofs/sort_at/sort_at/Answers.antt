use native.Mathlib.Omega.{arith}
use mathlib.Core.Path.{ap}
use lib.ListN.{length}
use Rattle.std.proofs.lemmas.Result.{err_from_is_err_and}
use Rattle.places.proofs.Spots.{spot-within, two-there}
use Rattle.places.proofs.SortPlace.{exact, lent-done, lent-refused, got-at, over-at, sort-short}
use Rattle.places.proofs.sort_at.sort_at.Goals as goal

pub overflow_add-end : goal.overflow_add-end
overflow_add-end c = omega (arith, (c.words_at.ensures c.requires.0.spot), spot-within c.requires.0.spot)

pub offset_bounds-tree-at : goal.offset_bounds-tree-at
offset_bounds-tree-at c = omega (arith, two-there c.requires.0.spot)

pub slice_bounds-sort-end : goal.slice_bounds-sort-end
slice_bounds-sort-end c = omega (arith, (c.words_at.ensures c.requires.0.spot), spot-within c.requires.0.spot)

pub sort-requires : goal.sort-requires
sort-requires c =
    let p = c.requires.0 in
    let e = exact p.spot _ (c.words_at.ensures c.requires.0.spot) in
    record { tree = p.spot.tree; words = e; small = omega (arith, p.small, ap length e) }

pub overflow_add-result : goal.overflow_add-result
overflow_add-result c =
    let p = c.requires.0 in
    let g = got-at (over-at (c.sort.ensures p.spot.tree (exact p.spot _ (c.words_at.ensures c.requires.0.spot)))) c.in_ok-n.was in
    omega (arith, c.requires.1, p.small, g.put.is, sort-short c.args.text.now p.spot.tree g.is)

pub returns-in_err-n : goal.returns-in_err-n
returns-in_err-n c p =
    let q = err_from_is_err_and c.from_residual.result c.from_residual.ensures.1 in
    rw (q.1, q.2) (lent-refused (c.sort.ensures p.spot.tree (exact p.spot _ (c.words_at.ensures p.spot))) c.in_err-n.was)

pub returns : goal.returns
returns c p = lent-done c.min-from.ensures (c.sort.ensures p.spot.tree (exact p.spot _ (c.words_at.ensures p.spot))) c.in_ok-n.was
