-- The reply of the C function that writes SMT-LIB.
use Prim.Native.Nat.{ℕ}
use mathlib.Core.Path.{◌≡◌, ◌∙◌}
use mathlib.Core.List.{List}
use lib.ListN.{length}
use Rattle.std.specs.Prelude.{Result}
use Rattle.reading.specs.Answer.{accepted, said_of}
use Rattle.words.specs.declared.refusal.Refusal.{Refusal}
use Rattle.words.specs.declared.report.Report.{Report}
use Rattle.words.specs.Answered.{answered, heard}
use Rattle.smt.specs.Operation.{smtlib_final, smtlib_said, smtlib_out}
use Rattle.smtlib.specs.Answers.{answer_of}
use Rattle.replies.specs.Heard.{size_said}
use Rattle.replies.proofs.Told.{size-told}
use Rattle.boundary.specs.Heard.{numbers_of}
use Rattle.boundary.specs.declared.Reported.{Reported}
use Rattle.boundary.specs.Smtlib.{spoken, Spoken}
use Rattle.boundary.proofs.Replies.{by_said}

module _ (words text out : List ℕ) where
  pub spoken-reply : (m : Reported) (s : Result Report Refusal) (d : Result ℕ Refusal) (left : List ℕ) → m ≡ numbers_of (heard s) → heard s ≡ size_said d → answered d ≡ answer_of (smtlib_final words text out) → left ≡ smtlib_out words text out
      → Spoken words text out (spoken m.refusal m.first left)
  unfolding smtlib_said
  spoken-reply m s d left e f g o =
      let z : heard s ≡ said_of (λ bytes. accepted (length bytes) 0) (smtlib_final words text out) = f ∙ size-told (λ bytes. bytes) d (smtlib_final words text out) g in
      let q = by_said (said_of (λ bytes. accepted (length bytes) 0) (smtlib_final words text out)) in
      record { refusal = rw (e, z) q.0; count = rw (e, z) q.1; output = o }
