-- A call of solution at the count 0: what it decides, by what the code is told of it.
use Prim.Native.Nat.{ℕ, ◌+◌, ◌≤◌}
use mathlib.Core.Bool.{Bool, true, false, false≢true}
use mathlib.Core.Path.{◌≡◌, refl, sym, ap, ◌∙◌}
use mathlib.Core.List.{List}
use native.Mathlib.Omega.{arith}
use borrow.Author.Tests.{leb-true, ltb-false}
use lib.Dec.{leb, ltb}
use lib.ListN.{length, take, drop}
use lib.Seq.{take_at}
use Rattle.reading.specs.Limits.{max_number}
use Rattle.reading.specs.Pick.{pick}
use Rattle.reading.specs.Answer.{number, no_room, numbers_spent, Res, ok, no, chain, Final, accepts, refuses, finish, accepted, refused, over, output_of, said_of}
use Rattle.reading.proofs.Over.{over-length, over-fits}
use Rattle.grammar.specs.Item.{words_of}
use Rattle.grammar.specs.Expr.{Solution, solution_items}
use Rattle.grammar.specs.Operations.{make_solution}
use Rattle.grammar.proofs.AnswerHolds.{Post}
use Rattle.grammar.proofs.Raise.{raise_zero}
use Rattle.flattening.specs.Uncurry.{flattened}
use Rattle.flattening.proofs.SolutionBack.{SolutionBack, FlatBack, flat_back}
use Rattle.session.specs.Session.{Term, a_solution, term_items, draft_items, term_words, report, make, room_for, final, outcome}
use Rattle.reading.specs.Answer.{Said}
use Rattle.reading.specs.Answer.{accepted, refused}
use Rattle.replies.specs.Calls.{solution_call}

-- A solution after flattening, whose words are read back and fit.
record Fits (text : List ℕ) (room : ℕ) (m : Term) : Type 0 where
  pub before : Solution
  pub is : m ≡ a_solution before
  pub back : SolutionBack text (flattened before)
  pub short : length (words_of (solution_items (flattened before))) ≤ room

-- A refusal, or such a solution.
abbrev Decided : List ℕ → ℕ → Final Term → Type 0
Decided text room (refuses r) = Unit {0}
Decided text room (accepts m n) = Fits text room m

module _ (text tree draft out : List ℕ) where
  -- There is room for the words of an accepted solution.
  room-there : (s : Solution) → room_for (solution_call text tree draft out) (a_solution s) ≡ true → length (words_of (solution_items (flattened s))) ≤ length out
  unfolding room_for term_items pick
  room-there s e = go (leb (length (words_of (draft_items (a_solution s)))) (length draft)) e
    where
      go : (b : Bool) → pick b (leb (length (words_of (solution_items (flattened s)))) (length out)) false ≡ true → length (words_of (solution_items (flattened s))) ≤ length out
      go true h = leb-true _ _ h
      go false h = absurd (false≢true h)

  -- What is decided.
  decided : Decided text (length out) (final (solution_call text tree draft out) 0)
  unfolding final make finish pick
  decided = go (make_solution text tree 0) (flat_back text tree)
    where
      fits : (s : Solution) (n : ℕ) → SolutionBack text (flattened s) → (b : Bool) → room_for (solution_call text tree draft out) (a_solution s) ≡ b → Decided text (length out) (pick b (accepts (a_solution s) n) (refuses (number no_room)))
      fits s n p true e = record { before = s; is = refl; back = p; short = room-there s e }
      fits s n p false e = tt

      few : (s : Solution) (n : ℕ) → FlatBack text s n → (b : Bool) → ltb max_number (0 + n) ≡ b → Decided text (length out) (pick b (refuses numbers_spent) (pick (room_for (solution_call text tree draft out) (a_solution s)) (accepts (a_solution s) n) (refuses (number no_room))))
      few s n p true e = tt
      few s n p false e =
          fits s n (p (omega (arith, ltb-false max_number (0 + n) e))) (room_for (solution_call text tree draft out) (a_solution s)) refl

      go : (r : Res Solution) → Post r (FlatBack text) → Decided text (length out) (finish (room_for (solution_call text tree draft out)) 0 (chain r (λ s n. ok (a_solution s) n)))
      go (no r) p = tt
      go (ok s n) p = few s n p (ltb max_number (0 + n)) refl

-- The first k words of the output are those of a solution, after flattening, and such words are judged to be it.
pub record Solved (text : List ℕ) (f : Final Term) (room k : ℕ) (words : List ℕ) : Type 0 where
  pub before : Solution
  pub numbers : ℕ
  pub is : f ≡ accepts (a_solution before) numbers
  pub long : length words ≡ room
  pub inside : k ≤ room
  pub size : k ≡ length (words_of (solution_items (flattened before)))
  pub first : take k words ≡ words_of (solution_items (flattened before))
  pub back : SolutionBack text (flattened before)

-- Two answers that differ.
no-accepted : {a b r : ℕ} → accepted a b ≡ refused r → ⊥
no-accepted e = let z : ◌≡◌ {A = ℕ} 0 1 = cc in absurd (omega arith)

-- The words of a solution, how many are said to be, and that it is not said to be refused.
words_of_lem : (s : Solution) → term_words 0 (a_solution s) ≡ words_of (solution_items (flattened s))
unfolding term_items
words_of_lem s = rw (raise_zero (solution_items (flattened s))) refl

words-said : (s : Solution) {a b : ℕ} → accepted a b ≡ report (a_solution s) → a ≡ length (words_of (solution_items (flattened s)))
unfolding report
words-said s q = cc

not-said : (s : Solution) {r : ℕ} → refused r ≡ report (a_solution s) → ⊥
unfolding report
not-said s q = no-accepted (sym q)

-- What is known where a call is accepted, or refused, by what it decides.
when_accepted : (text out words : List ℕ) (f : Final Term) → Decided text (length out) f → (k j : ℕ) → accepted k j ≡ said_of report f → words ≡ output_of (term_words 0) f out → Solved text f (length out) k words
unfolding said_of output_of
when_accepted text out words (refuses r) d k j e w = absurd (no-accepted e)
when_accepted text out words (accepts m n) d k j e w =
    let s : Solution = flattened d.before in
    let ws : List ℕ = words_of (solution_items s) in
    let n' : k ≡ length ws = words-said d.before (e ∙ ap report d.is) in
    let o : words ≡ over ws out = w ∙ rw (d.is, words_of_lem d.before) refl in
    let t : take k words ≡ ws = rw (o, n', over-fits ws out d.short) (take_at ws (drop (length ws) out) (length ws) refl) in
    record {
      before = d.before;
      numbers = n;
      is = ap (λ (u : Term). accepts u n) d.is;
      long = ap length o ∙ over-length ws out;
      inside = omega (arith, d.short, n');
      size = n';
      first = t;
      back = d.back;
    }

when_refused : (text : List ℕ) (room : ℕ) (f : Final Term) → Decided text room f → (r : ℕ) → refused r ≡ said_of report f → f ≡ refuses r
unfolding said_of
when_refused text room (refuses q) d r e = cc
when_refused text room (accepts m n) d r e = absurd (not-said d.before (e ∙ ap report d.is))

-- What the code is told of its call: the reader's count, what is said, and the words of the output.
pub record ToldSolution (text tree draft out : List ℕ) (count : ℕ) (said : Said) (words : List ℕ) : Type 0 where
  pub new : count ≡ 0
  pub says : said ≡ (outcome (solution_call text tree draft out) count).said
  pub leaves : words ≡ (outcome (solution_call text tree draft out) count).out

module _ {text tree draft out : List ℕ} {count : ℕ} {said : Said} {words : List ℕ} (t : ToldSolution text tree draft out count said words) where
  -- The call is accepted.
  pub solved : {k j : ℕ} → said ≡ accepted k j → Solved text (final (solution_call text tree draft out) 0) (length out) k words
  unfolding outcome
  solved {k} {j} e =
      let a : accepted k j ≡ (outcome (solution_call text tree draft out) count).said = sym e ∙ t.says in
      let l = t.leaves in
      when_accepted text out words (final (solution_call text tree draft out) 0) (decided text tree draft out) k j (rw t.new at a) (rw t.new at l)

  -- The call is refused.
  pub not-solved : {r : ℕ} → said ≡ refused r → final (solution_call text tree draft out) 0 ≡ refuses r
  unfolding outcome
  not-solved {r} e =
      let a : refused r ≡ (outcome (solution_call text tree draft out) count).said = sym e ∙ t.says in
      when_refused text (length out) (final (solution_call text tree draft out) 0) (decided text tree draft out) r (rw t.new at a)
