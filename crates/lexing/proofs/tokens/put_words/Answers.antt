use mathlib.Core.Path.{◌≡◌}
use native.Mathlib.Omega.{arith}
use native.Mathlib.Numerals.{add-one, add-three, add-four}
use Rattle.lexing.proofs.tokens.put_words.Goals as goal

pub returns-then-n-le2 : goal.returns-then-n-le2
returns-then-n-le2 c =
    let a = c.args in
    let e : a.n ≡ 2 = omega arith in
    rw e (cc (add-one a.at))

pub returns-then-n-le3 : goal.returns-then-n-le3
returns-then-n-le3 c =
    let a = c.args in
    let e : a.n ≡ 3 = omega arith in
    rw e c.put_three.ensures

pub returns-then-n-le4 : goal.returns-then-n-le4
returns-then-n-le4 c =
    let a = c.args in
    let e : a.n ≡ 4 = omega arith in
    rw e (cc (add-three a.at))

pub returns : goal.returns
returns c =
    let a = c.args in
    let e : a.n ≡ 5 = omega arith in
    rw e (cc (add-three a.at, add-four a.at))
