-- The outcome of a call, by what the function below the method answered.
use Prim.Native.Nat.{ℕ, ◌+◌, ◌≤◌}
use mathlib.Core.Path.{◌≡◌, refl, ap, ◌∙◌}
use mathlib.Core.Bool.{Bool}
use mathlib.Core.List.{List}
use lib.ListN.{length}
use Rattle.std.specs.Prelude.{Result, Ok, Err}
use Rattle.reading.specs.Limits.{max_number}
use Rattle.reading.specs.Answer.{Said, accepted, refused, Final, accepts, refuses, zeros, said_of, count_of, output_of}
use Rattle.reading.specs.Reading.{read_words, read_report, read_final, read_said}
use Rattle.words.specs.declared.refusal.Refusal.{Refusal}
use Rattle.words.specs.declared.report.Report.{Report}
use Rattle.words.specs.Refusals.{number_of}
use Rattle.words.specs.Answered.{answered, heard, sized_by}
use Rattle.grammar.specs.Sort.{Sort, sort_words}
use Rattle.grammar.specs.Item.{Item, words_of}
use Rattle.grammar.specs.Operations.{sort_final}
use Rattle.parse.specs.Answers.{sort_said, counted_by}
use Rattle.parse.specs.declared.Counted.{Counted}
use Rattle.session.specs.Session.{Call, outcome}
use Rattle.replies.specs.Calls.{sort_call}
use Rattle.replies.specs.Sessions.{Promised}
use Rattle.replies.specs.Heard.{size_said, counted_said, count_after}
use Rattle.replies.proofs.Outcomes.{Known, KnownItems, count-read, sort-known, count-sort}

-- Read one or read all.
module _ (all : Bool) (text out : List ℕ) (call : Call) (c : ℕ) (small : c ≤ max_number) (k : Known call c read_words (read_report all) (read_final all text out)) where
  pub read_told : (d : Result Report Refusal) → heard d ≡ read_said all text out → (heard d ≡ (outcome call c).said) × (c ≡ (outcome call c).count)
  unfolding read_said
  read_told d e = rw (k.said, k.count, count-read text out c small all) (e, refl)

-- What is counted, as a sort.
pub size-told : {A : Type 0} (words : A → List ℕ) (d : Result ℕ Refusal) (f : Final A) → answered d ≡ sized_by words f → size_said d ≡ said_of (λ a. accepted (length (words a)) 0) f
unfolding said_of
size-told words (Ok n) (accepts a m) e = let z : n ≡ length (words a) = cc in ap (λ (i : ℕ). accepted i 0) z
size-told words (Ok n) (refuses r) e = cc
size-told words (Err x) (accepts a m) e = cc
size-told words (Err x) (refuses r) e = let z : number_of x ≡ r = cc in ap refused z

module _ (text tree out : List ℕ) (c : ℕ) (small : c ≤ max_number) where
  pub sort-told : (d : Result ℕ Refusal) → answered d ≡ sort_said (sort_final text tree out) → (size_said d ≡ (outcome (sort_call text tree out) c).said) × (c ≡ (outcome (sort_call text tree out) c).count)
  sort-told d e = rw ((sort-known text out c small tree).said, (sort-known text out c small tree).count, count-sort text out c small tree) (size-told sort_words d (sort_final text tree out) e, refl)

-- What takes numbers.
module _ {A : Type 0} (items : A → List Item) where
  made-told : (c : ℕ) (d : Result Counted Refusal) (f : Final A) → answered d ≡ counted_by items c f → (counted_said d ≡ said_of (λ a. accepted (length (words_of (items a))) 0) f) × (count_after d c ≡ count_of c f)
  unfolding said_of count_of
  made-told c (Ok m) (accepts a n) e =
      let z : m ≡ record { words = length (words_of (items a)); count = c + n } = cc in
      (ap (λ (x : Counted). accepted x.words 0) z, ap (λ (x : Counted). x.count) z)
  made-told c (Ok m) (refuses r) e = cc
  made-told c (Err x) (accepts a n) e = cc
  made-told c (Err x) (refuses r) e = let z : number_of x ≡ r = cc in (ap refused z, refl)

  module _ (call : Call) (c : ℕ) (f : Final A) (k : KnownItems call c items f) where
    pub counted-told : (d : Result Counted Refusal) → answered d ≡ counted_by items c f → (counted_said d ≡ (outcome call c).said) × (count_after d c ≡ (outcome call c).count)
    counted-told d e = rw (k.said, k.count) (made-told c d f e)

-- A reply is promised, by what is known of its call, by what is said with which count, and by what the function below left in the slices.
pub reply : {A : Type 0} {call : Call} {c : ℕ} {words : A → List ℕ} {numbers : A → Said} {f : Final A} → Known call c words numbers f → {said : Said} {next : ℕ} {tree draft out : List ℕ}
    → (said ≡ (outcome call c).said) × (next ≡ (outcome call c).count) → tree ≡ zeros call.tree → draft ≡ zeros call.draft → out ≡ output_of words f call.out
    → Promised call c (record { said = said; next = next; tree = tree; draft = draft; out = out })
reply k q t d o = record { said = q.0; count = q.1; working = t ∙ k.tree; body = d ∙ k.draft; output = o ∙ k.out }
