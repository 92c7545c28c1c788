use native.Mathlib.Omega.{arith}
use native.Mathlib.Numerals.{add-one, add-two}
use lib.ListN.{length-set}
use Rattle.words.proofs.output.put_three.Goals as goal

pub bounds-out-at-then-at-out : goal.bounds-out-at-then-at-out
bounds-out-at-then-at-out c = simp length-set (omega arith)

pub bounds-out-at-then-at-out-2 : goal.bounds-out-at-then-at-out-2
bounds-out-at-then-at-out-2 c = simp length-set (omega arith)

pub returns-then-at-out : goal.returns-then-at-out
returns-then-at-out c = cc (add-one c.args.at, add-two c.args.at)

pub returns : goal.returns
returns c = cc (add-one c.args.at, add-two c.args.at)
