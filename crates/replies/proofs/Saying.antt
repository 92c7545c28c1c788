-- What is said, told apart: a report and a refusal, and two refusals.
use Prim.Native.Nat.{ℕ}
use mathlib.Core.Path.{◌≡◌}
use mathlib.Core.Bool.{true, false}
use native.Mathlib.Omega.{arith}
use Rattle.session.specs.Session.{Term, a_read, a_sort, an_expr, a_bind, a_solution, report}
use Rattle.reading.specs.Answer.{accepted, refused}

pub refused-same : {a b : ℕ} → refused a ≡ refused b → a ≡ b
refused-same e = cc

pub apart : {a b r : ℕ} → accepted a b ≡ refused r → ⊥
apart e = let z : ◌≡◌ {A = ℕ} 0 1 = cc in omega arith

-- An accepted call does not say a refusal.
pub not-refused : (m : Term) {r : ℕ} → report m ≡ refused r → ⊥
unfolding report
not-refused (a_read true x) e = apart e
not-refused (a_read false x) e = apart e
not-refused (a_sort s) e = apart e
not-refused (an_expr x) e = apart e
not-refused (a_bind b) e = apart e
not-refused (a_solution s) e = apart e
