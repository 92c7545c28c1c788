use Rattle.std.proofs.Common.{arith}
use Rattle.scopes.proofs.Variables.{variable-theory, variable-fresh, variable-named}
use Rattle.scopes.proofs.variable.variable.Goals as goal

pub returns-in-Some : goal.returns-in-Some
returns-in-Some c h = (rw (variable-theory _ _ _ h.scopes c.bytes.ensures c.theory_number.ensures c.in-Some.is) c.put2.ensures, omega (arith, c.put2.ensures.is))

pub returns-in-Some-find : goal.returns-in-Some-find
returns-in-Some-find c h = (rw (variable-fresh _ _ _ h.scopes c.bytes.ensures c.theory_number.ensures c.in_default.is (c.find.ensures h) c.in-Some-find.is c.low.ensures c.high.ensures) c.put3.ensures, omega (arith, c.put3.ensures.is))

pub returns-in-None : goal.returns-in-None
returns-in-None c h = (rw (variable-named _ _ _ h.scopes c.bytes.ensures c.theory_number.ensures c.in_default.is (c.find.ensures h) c.in-None.is) c.put_name.ensures, omega (arith, c.put_name.ensures.is))
