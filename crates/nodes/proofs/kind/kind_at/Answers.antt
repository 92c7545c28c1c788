use mathlib.Core.Path.{refl}
use native.Mathlib.Omega.{arith}
use Rattle.nodes.specs.Node.{nodes_at}
use Rattle.nodes.proofs.NodeAt.{told-out, told_at, told-rest}
use Rattle.nodes.proofs.kind.kind_at.Goals as goal

pub returns-then-words-at : goal.returns-then-words-at
returns-then-words-at c = told-out _ _ c.if-words-at.true

pub returns-in-32 : goal.returns-in-32
unfolding nodes_at
returns-in-32 c = told_at _ _ 32 (omega arith) c.in-32.is (rw c.quad_at.ensures refl)

pub returns-in-33 : goal.returns-in-33
unfolding nodes_at
returns-in-33 c = told_at _ _ 33 (omega arith) c.in-33.is (rw c.word_at.ensures refl)

pub returns-in-34 : goal.returns-in-34
unfolding nodes_at
returns-in-34 c = told_at _ _ 34 (omega arith) c.in-34.is (rw c.span_at.ensures refl)

pub returns-in-35 : goal.returns-in-35
unfolding nodes_at
returns-in-35 c = told_at _ _ 35 (omega arith) c.in-35.is (rw (c.quad_at-in-35.ensures, c.word_at-in-35.ensures) refl)

pub returns-in-36 : goal.returns-in-36
unfolding nodes_at
returns-in-36 c = told_at _ _ 36 (omega arith) c.in-36.is (rw c.long_at.ensures refl)

pub returns-in-37 : goal.returns-in-37
unfolding nodes_at
returns-in-37 c = told_at _ _ 37 (omega arith) c.in-37.is (rw c.span_at-in-37.ensures refl)

pub returns-in-39 : goal.returns-in-39
unfolding nodes_at
returns-in-39 c = told_at _ _ 39 (omega arith) c.in-39.is refl

pub returns-in-40 : goal.returns-in-40
unfolding nodes_at
returns-in-40 c = told_at _ _ 40 (omega arith) c.in-40.is (rw c.word_at-in-40.ensures refl)

pub returns-in-41 : goal.returns-in-41
unfolding nodes_at
returns-in-41 c = told_at _ _ 41 (omega arith) c.in-41.is refl

pub returns-in-42 : goal.returns-in-42
unfolding nodes_at
returns-in-42 c = told_at _ _ 42 (omega arith) c.in-42.is refl

pub returns-in-43 : goal.returns-in-43
unfolding nodes_at
returns-in-43 c = told_at _ _ 43 (omega arith) c.in-43.is refl

pub returns-in-44 : goal.returns-in-44
unfolding nodes_at
returns-in-44 c = told_at _ _ 44 (omega arith) c.in-44.is refl

pub returns-in-45 : goal.returns-in-45
unfolding nodes_at
returns-in-45 c = told_at _ _ 45 (omega arith) c.in-45.is refl

pub returns-in-46 : goal.returns-in-46
unfolding nodes_at
returns-in-46 c = told_at _ _ 46 (omega arith) c.in-46.is refl

pub returns-in-47 : goal.returns-in-47
unfolding nodes_at
returns-in-47 c = told_at _ _ 47 (omega arith) c.in-47.is (rw c.word_at-in-47.ensures refl)

pub returns-in-48 : goal.returns-in-48
unfolding nodes_at
returns-in-48 c = told_at _ _ 48 (omega arith) c.in-48.is (rw c.span_at-in-48.ensures refl)

pub returns-in-49 : goal.returns-in-49
unfolding nodes_at
returns-in-49 c = told_at _ _ 49 (omega arith) c.in-49.is (rw c.word_at-in-49.ensures refl)

pub returns-in-50 : goal.returns-in-50
unfolding nodes_at
returns-in-50 c = told_at _ _ 50 (omega arith) c.in-50.is (rw c.span_at-in-50.ensures refl)

pub returns-in-51 : goal.returns-in-51
unfolding nodes_at
returns-in-51 c = told_at _ _ 51 (omega arith) c.in-51.is (rw c.word_at-in-51.ensures refl)

pub returns-in-52 : goal.returns-in-52
unfolding nodes_at
returns-in-52 c = told_at _ _ 52 (omega arith) c.in-52.is (rw c.long_at-in-52.ensures refl)

pub returns-in_default : goal.returns-in_default
returns-in_default c = told-rest _ _ c.in_default.in_default-own.rest
