use mathlib.Core.Path.{refl}
use Rattle.std.proofs.lemmas.Result.{err_from_is_err_and}
use native.Mathlib.Omega.{arith}
use Rattle.places.proofs.SortPlace.{got-at, bad-at}
use Rattle.places.proofs.Spots.{spot-within}
use Rattle.binds.proofs.PredNames.{kvar-spot, kvar-there, kvar-row, kvar-few, kvar-bad, kvar-read}
use Rattle.binds.proofs.preds.kvar.Goals as goal

pub overflow_add-n : goal.overflow_add-n
overflow_add-n c = omega (arith, kvar-there c.requires)

pub offset_bounds-tree-at : goal.offset_bounds-tree-at
offset_bounds-tree-at c = omega (arith, kvar-there c.requires)

pub bounds-tree-at : goal.bounds-tree-at
bounds-tree-at c = omega (arith, kvar-there c.requires)

pub returns-then-n-lt2 : goal.returns-then-n-lt2
returns-then-n-lt2 c h count = kvar-few h c.if-n-lt2.true

pub bounds-tree-at-2 : goal.bounds-tree-at-2
bounds-tree-at-2 c = omega (arith, kvar-there c.requires)

pub bounds-tree-at-3 : goal.bounds-tree-at-3
bounds-tree-at-3 c = omega (arith, kvar-there c.requires)

pub names-requires : goal.names-requires
names-requires c = kvar-row c.requires c.put_kvar-v.ensures.is refl

pub returns-in_err-u : goal.returns-in_err-u
returns-in_err-u c h count = let p = err_from_is_err_and c.from_residual.result c.from_residual.ensures.1 in
    rw (p.1, p.2) (kvar-bad h c.if-n-lt2.false (bad-at (c.names.ensures (kvar-row h c.put_kvar-v.ensures.is refl)) c.in_err-u.was))

pub overflow_add-result : goal.overflow_add-result
overflow_add-result c = omega (arith, c.words_at.ensures (kvar-spot c.requires), spot-within (kvar-spot c.requires))

pub returns : goal.returns
returns c h count = kvar-read h c.if-n-lt2.false count c.put_kvar-v.ensures refl (got-at (c.names.ensures (kvar-row h c.put_kvar-v.ensures.is refl)) c.in_ok-u.was) (c.words_at.ensures (kvar-spot h))
