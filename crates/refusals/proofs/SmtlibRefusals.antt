-- The refusals of the operation smtlib, proved.
use Prim.Native.Nat.{ℕ}
use mathlib.Core.Bool.{true}
use mathlib.Core.Path.{◌≡◌, refl}
use mathlib.Core.List.{List}
use lib.ListN.{length}
use Rattle.reading.specs.Pick.{pick}
use Rattle.reading.specs.Answer.{number, unwritable, unprintable, Ans, fits_in, Said, accepted, refused, said_of}
use Rattle.grammar.specs.Expr.{Solution}
use Rattle.judging.specs.Judge.{Judged, reads, fails, judge_solution}
use Rattle.smt.specs.Writer.{written}
use Rattle.smt.specs.Claims.{Answered, is_written, is_unwritable, is_unprintable}
use Rattle.smt.specs.Operation.{bytes_final, smtlib_by, smtlib_final, smtlib_said}
use Rattle.smt.proofs.Why.{written_or_why}
use Rattle.refusals.specs.Refusals.{is_among, of_smtlib, SmtlibRefusals}
use Rattle.refusals.proofs.JudgeRefusals.{Fails, solution-fails}
use Rattle.refusals.proofs.Said.{same_number, lacking_room}

-- Among its refusals.
abbrev Among : ℕ → Type 0
Among r = is_among r of_smtlib ≡ true

abbrev reported : List ℕ → Said
reported bytes = accepted (length bytes) 0

module _ (words text out : List ℕ) where
  judge_among : Fails Among (judge_solution (length text) words)
  unfolding is_among pick
  judge_among = solution-fails Among refl refl (length text) words

  -- 7 for bytes that do not fit, or 15, or 16.
  answer-among : (r : ℕ) (s : Solution) (x : Ans (List ℕ)) → Answered text s x → said_of reported (bytes_final out x) ≡ refused r → Among r
  unfolding bytes_final said_of is_among pick
  answer-among r s _ (is_written {bytes}) q = rw (← (lacking_room length bytes (fits_in out bytes) q).1) refl
  answer-among r s _ (is_unwritable p) q = rw (← same_number (number unwritable) q) refl
  answer-among r s _ (is_unprintable p) q = rw (← same_number (number unprintable) q) refl

  -- A solution that is judged is answered so.
  among : (r : ℕ) (x : Judged Solution) → judge_solution (length text) words ≡ x → Fails Among x → said_of reported (smtlib_by text out x) ≡ refused r → Among r
  unfolding smtlib_by said_of
  among r (fails k) j h q = rw (← same_number k q) h
  among r (reads s n) j h q = answer-among r s (written text s) (written_or_why text words s n j) q

-- All words, every text and every output.
pub smtlib_refusals : (words text out : List ℕ) → SmtlibRefusals words text out
unfolding smtlib_said smtlib_final
smtlib_refusals words text out =
    record { among = λ r q. among words text out r (judge_solution (length text) words) refl (judge_among words text out) q }
