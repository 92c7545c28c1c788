-- The replies of the C functions, by those of the reader and of flattening.
use Prim.Native.Nat.{ℕ}
use mathlib.Core.Path.{◌≡◌, refl, sym, ap, ◌∙◌}
use mathlib.Core.Bool.{true, false}
use mathlib.Core.List.{List}
use lib.ListN.{length}
use Rattle.std.specs.Prelude.{Result}
use Rattle.reading.specs.Answer.{Said, accepted, refused, said_of}
use Rattle.flattening.specs.Operations.{expr_words, flatten_final, flatten_said, flatten_out}
use Rattle.flatten.specs.Answers.{flatten_answer}
use Rattle.words.specs.declared.refusal.Refusal.{Refusal}
use Rattle.words.specs.declared.report.Report.{Report}
use Rattle.words.specs.Answered.{answered, heard}
use Rattle.session.specs.Session.{Call, Outcome, outcome}
use Rattle.session.specs.Compared.{reads_or_sorts}
use Rattle.session.proofs.Unreported.{count_kept, reports_two, NoSecond, second_none}
use Rattle.replies.specs.Sessions as reader
use Rattle.replies.proofs.Told.{size-told}
use Rattle.replies.specs.Heard.{size_said}
use Rattle.boundary.specs.Heard.{numbers_of}
use Rattle.boundary.specs.declared.Reported.{Reported}
use Rattle.boundary.specs.Reply.{refusal_of, first_of, second_of, counted, Promised, flat, Flattened}

-- The numbers of what is said.
pub by_said : (s : Said) → ((numbers_of s).refusal ≡ refusal_of s) × ((numbers_of s).first ≡ first_of s) × ((numbers_of s).second ≡ second_of s)
by_said (accepted a b) = (refl, refl, refl)
by_said (refused r) = (refl, refl, refl)

-- A promised reply of the reader, whose count n is the count c that it was opened at, as a C function's.
module _ {call : Call} {n c : ℕ} {r : reader.Reply} (opened : n ≡ c) (p : reader.Promised call n r) where
  -- A part of the outcome.
  part : {A : Type 0} (of : Outcome → A) {x : A} → x ≡ of (outcome call n) → x ≡ of (outcome call c)
  part of e = e ∙ ap (λ (m : ℕ). of (outcome call m)) opened

  -- The numbers a and b are reported after the refusal q, or 0 if there is none; the count is k.
  reply : (q a b k : ℕ) → r.next ≡ k → (q ≡ refusal_of (outcome call n).said) × (a ≡ first_of (outcome call n).said) × (b ≡ second_of (outcome call n).said)
      → Promised call c (record { refusal = q; first = a; second = b; next = k; tree = r.tree; draft = r.draft; out = r.out })
  reply q a b k e s =
      record {
        refusal = part (λ o. refusal_of o.said) s.0;
        first = part (λ o. first_of o.said) s.1;
        second = part (λ o. second_of o.said) s.2;
        count = part (λ o. o.count) (sym e ∙ p.count);
        working = part (λ o. o.tree) p.working;
        body = part (λ o. o.draft) p.body;
        output = part (λ o. o.out) p.output;
      }

  -- The numbers of the reply.
  told : (m : Reported) → m ≡ numbers_of r.said → (m.refusal ≡ refusal_of (outcome call n).said) × (m.first ≡ first_of (outcome call n).said) × (m.second ≡ second_of (outcome call n).said)
  told m e = rw (e, p.said) (by_said (outcome call n).said)

  -- Read one and read all, of a reader that was opened at 0.
  pub read-reply : (m : Reported) → m ≡ numbers_of r.said → c ≡ 0 → reads_or_sorts call.op ≡ true
      → Promised call c (record { refusal = m.refusal; first = m.first; second = m.second; next = 0; tree = r.tree; draft = r.draft; out = r.out })
  read-reply m e z h = reply m.refusal m.first m.second 0 (p.count ∙ count_kept call n h ∙ opened ∙ z) (told m e)

  -- One number is reported, and the second is 0.
  one : (m : Reported) → m ≡ numbers_of r.said → reports_two call.op ≡ false → (m.refusal ≡ refusal_of (outcome call n).said) × (m.first ≡ first_of (outcome call n).said) × (0 ≡ second_of (outcome call n).said)
  one m e h = let w = told m e in (w.0, w.1, go (outcome call n).said (second_none call n h))
    where
      go : (s : Said) → NoSecond s → 0 ≡ second_of s
      go (accepted x y) z = sym z
      go (refused q) z = refl

  -- A sort, of a reader that was opened at 0.
  pub sort-reply : (m : Reported) → m ≡ numbers_of r.said → c ≡ 0 → reads_or_sorts call.op ≡ true → reports_two call.op ≡ false
      → Promised call c (record { refusal = m.refusal; first = m.first; second = 0; next = 0; tree = r.tree; draft = r.draft; out = r.out })
  sort-reply m e z h k = reply m.refusal m.first 0 0 (p.count ∙ count_kept call n h ∙ opened ∙ z) (one m e k)

  -- What takes fresh numbers.
  pub counted-reply : (m : Reported) → m ≡ numbers_of r.said → reports_two call.op ≡ false → Promised call c (counted m.refusal m.first r.next r.tree r.draft r.out)
  counted-reply m e h = reply m.refusal m.first 0 r.next refl (one m e h)

-- Flattening takes no reader.
module _ (words out : List ℕ) where
  pub flat-reply : (m : Reported) (s : Result Report Refusal) (d : Result ℕ Refusal) (left : List ℕ) → m ≡ numbers_of (heard s) → heard s ≡ size_said d → answered d ≡ flatten_answer (flatten_final words out) → left ≡ flatten_out words out
      → Flattened words out (flat m.refusal m.first left)
  unfolding flatten_said
  flat-reply m s d left e f g o =
      let z : heard s ≡ said_of (λ x. accepted (length (expr_words x)) 0) (flatten_final words out) = f ∙ size-told expr_words d (flatten_final words out) g in
      let q = by_said (said_of (λ x. accepted (length (expr_words x)) 0) (flatten_final words out)) in
      record { refusal = rw (e, z) q.0; count = rw (e, z) q.1; output = o }
