use native.Mathlib.Omega.{arith}
use Rattle.reading.proofs.TreeHead.{head-two, size-list, size-integer, size-boolean, size-other}
use Rattle.words.proofs.tree.node_words.Goals as goal

pub bounds-items-0 : goal.bounds-items-0
bounds-items-0 c =
    let a = c.requires in
    omega (arith, head-two a.rest a.first a.words)

pub bounds-items-2 : goal.bounds-items-2
bounds-items-2 c =
    let a = c.requires in
    omega (arith, (size-list a.rest a.first a.words c.in-21.is).0)

pub returns-in-21 : goal.returns-in-21
returns-in-21 c t rest e = omega (arith, (size-list rest t e c.in-21.is).1)

pub returns-in-18 : goal.returns-in-18
returns-in-18 c t rest e = size-integer rest t e c.in-18.is

pub returns-in-20 : goal.returns-in-20
returns-in-20 c t rest e = size-boolean rest t e c.in-20.is

pub returns-in_default : goal.returns-in_default
returns-in_default c t rest e =
    let r = c.in_default.in_default-own.rest in
    size-other rest t e r.0.0.1 r.0.1 r.1
