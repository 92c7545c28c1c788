-- The refusals of flattening, proved.
use Prim.Native.Nat.{ℕ, ◌≤◌, ◌<◌, ◌^◌}
use mathlib.Core.Bool.{true, false≢true}
use mathlib.Core.Path.{◌≡◌, refl, sym, ap, ◌∙◌}
use mathlib.Core.List.{List}
use native.Mathlib.Omega.{arith}
use lib.ListN.{length}
use borrow.Author.Tests.{lt-ltb, le-leb}
use Rattle.reading.specs.Pick.{pick}
use Rattle.reading.specs.Answer.{number, no_room, Said, accepted, refused, said_of}
use Rattle.grammar.specs.Expr.{Expr}
use Rattle.judging.specs.Judge.{Judged, reads, fails, judge_expr}
use Rattle.judging.proofs.Spell.{Low}
use Rattle.judging.proofs.SpellExpr.{judged-spelled}
use Rattle.flattening.specs.Uncurry.{uncurry, most_operands}
use Rattle.flattening.specs.Operations.{expr_words, no_text, flat_fits, flatten_by, flatten_final, flatten_said}
use Rattle.flattening.proofs.Uncurry.{shorter}
use Rattle.flattening.proofs.FewOperands.{most-size}
use Rattle.refusals.specs.Refusals.{is_among, of_flatten, FlattenRefusals}
use Rattle.refusals.proofs.JudgeRefusals.{Fails, judge_fails}
use Rattle.refusals.proofs.Said.{same_number, lacking_room}

abbrev size : Expr → ℕ
size e = length (expr_words e)

abbrev reported : Expr → Said
reported e = accepted (size e) 0

-- Among its refusals, and not 7.
abbrev Among : ℕ → Type 0
Among r = is_among r of_flatten ≡ true

abbrev NotSeven : ℕ → Type 0
NotSeven r = r ≡ number no_room → ⊥

module _ (words out : List ℕ) where
  judge_among : Fails Among (judge_expr no_text words)
  unfolding is_among pick
  judge_among = judge_fails Among refl refl no_text words

  judge_not : Fails NotSeven (judge_expr no_text words)
  judge_not = judge_fails NotSeven (λ e. omega arith) (λ e. omega arith) no_text words

  among : (r : ℕ) (x : Judged Expr) → Fails Among x → said_of reported (flatten_by out x) ≡ refused r → Among r
  unfolding flatten_by said_of is_among pick
  among r (fails s) h q = rw (← same_number s q) h
  among r (reads x n) h q = rw (← (lacking_room size (uncurry x) (flat_fits out (uncurry x)) q).1) refl

  -- The flattened words are no more than the words, and no count is larger.
  fits : Low words → length words < 2 ^ 32 → length words ≤ length out → (x : Expr) (n : ℕ) → judge_expr no_text words ≡ reads x n → flat_fits out (uncurry x) ≡ true
  unfolding flat_fits pick
  fits low few room x n j =
      let same : length words ≡ length (expr_words x) = ap length (judged-spelled no_text words low j) in
      rw (lt-ltb (most_operands (uncurry x)) (2 ^ 32) (omega (arith, most-size (uncurry x), shorter x, same)), le-leb (length (expr_words (uncurry x))) (length out) (omega (arith, shorter x, same))) refl

  no_seven_lem : Low words → length words < 2 ^ 32 → length words ≤ length out → (x : Judged Expr) → judge_expr no_text words ≡ x → Fails NotSeven x → said_of reported (flatten_by out x) ≡ refused (number no_room) → ⊥
  unfolding flatten_by said_of
  no_seven_lem low few room (fails s) j h q = h (same_number s q)
  no_seven_lem low few room (reads x n) j h q = false≢true (sym (lacking_room size (uncurry x) (flat_fits out (uncurry x)) q).0 ∙ fits low few room x n j)

-- All words and every output.
pub flatten_refusals : (words out : List ℕ) → FlattenRefusals words out
unfolding flatten_said flatten_final
flatten_refusals words out =
    record {
      among = λ r q. among words out r (judge_expr no_text words) (judge_among words out) q;
      no_seven = λ low few room q. no_seven_lem words out low few room (judge_expr no_text words) refl (judge_not words out) q;
    }
