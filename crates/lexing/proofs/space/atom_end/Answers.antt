use mathlib.Core.Path.{sym, ◌∙◌}
use native.Mathlib.Omega.{arith}
use Rattle.reading.specs.Space.{ends_atom}
use Rattle.reading.proofs.Bytes.{before_stop, before_more, before-end}
use Rattle.lexing.proofs.space.atom_end.Goals as goal

pub returns-then-ends_atom : goal.returns-then-ends_atom
returns-then-ends_atom c = (omega (arith, before_stop ends_atom c.args.text.now c.loop-i.i (omega arith) (sym c.if-ends_atom.true ∙ c.ends_atom.ensures)), omega arith)

pub loop-i-preserved : goal.loop-i-preserved
loop-i-preserved c = omega (arith, before_more ends_atom c.args.text.now c.loop-i.i (omega arith) (sym c.if-ends_atom.false ∙ c.ends_atom.ensures))

pub returns : goal.returns
returns c = (omega (arith, before-end ends_atom c.args.text.now c.loop-i.i (omega arith)), omega arith)
