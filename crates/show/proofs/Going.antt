-- Laws of the loop that writes a line for each parameter.
use Prim.Native.Nat.{ℕ, ◌+◌, ◌-◌, ◌*◌, ◌≤◌, ◌<◌}
use mathlib.Core.Bool.{true}
use mathlib.Core.Path.{◌≡◌, refl, sym, ap, ◌∙◌}
use mathlib.Core.List.{List, ◌++◌, append_assoc}
use native.Mathlib.Omega.{arith}
use lib.ListN.{length, get_or}
use lib.Seq.{sets, length-sets}
use Rattle.reading.specs.Limits.{max_nodes}
use Rattle.reading.specs.Bytes.{just}
use Rattle.reading.specs.Answer.{over}
use Rattle.reading.proofs.Over.{over-more, over-length}
use Rattle.grammar.specs.Item.{words_of}
use Rattle.grammar.specs.Expr.{Binder, expr_items, Solution}
use Rattle.judging.specs.Judge.{reads, sort_at, binders_at, expr_deep}
use Rattle.judging.specs.Spelled.{Spelled}
use Rattle.judging.specs.Ends.{end_of}
use Rattle.words.specs.Answered.{told, refused}
use Rattle.judging.proofs.Spell.{Low, spelled-inside}
use Rattle.judging.proofs.SpellExpr.{expr-spelled}
use Rattle.flattening.specs.Operations.{no_text}
use Rattle.show.specs.Lines.{line, refusal_text, param_lines, solution_text}
use Rattle.show.specs.Shown.{words_text, has_room, shown}
use Rattle.show.proofs.Stores.{sets_append}
use Rattle.show.proofs.Printing.{between, line-length}
use Rattle.show.proofs.Params.{param_words, between-spelled, Next, next-read, none_read}
use Rattle.show.proofs.Judged.{parts-length, Placed, placed}
use Rattle.show.proofs.Showing.{answering, shows, refusal-shows}

-- The lines of a solution, behind the one that says that there is no refusal.
abbrev lines_of : Solution → List ℕ
lines_of s = param_lines s.params ++ line (words_of (expr_items s.body))

-- Between two parameters: the places, the parameters that are still to be read, and that the text left to write turns this output into
-- the whole one.
pub record Going (words out₀ out : List ℕ) (from left at : ℕ) : Type 0 where
  pub low : Low words
  pub place : Placed words (length out₀)
  pub inside : from ≤ length words
  pub reached : at + 6 ≡ 9 * from
  pub kept : length out ≡ length out₀
  pub binders : List Binder
  pub behind : ℕ
  pub read : binders_at no_text left words from ≡ reads binders behind
  pub body : expr_deep no_text max_nodes words behind ≡ reads place.solution.body (length words)
  pub text : sets out at (param_lines binders ++ line (words_of (expr_items place.solution.body))) ≡ sets out₀ 3 (lines_of place.solution)

-- There is a word for the number of parameters, and room for the first line.
pub first_word : (words : List ℕ) (room : ℕ) → has_room (words_text words) room ≡ true → 1 ≤ length words
first_word words room e = (placed words room e).parts.some

first-line : {words : List ℕ} (o : List ℕ) {out : List ℕ} {at : ℕ} → Low words → Placed words (length o) → answering at out ≡ shown (just (refusal_text 0)) o → (at ≡ 3) × (out ≡ over (refusal_text 0) o)
first-line o low p a = refusal-shows o 0 (omega (arith, p.fits, parts-length low p.parts)) a

-- Before the first parameter.
pub going_starts : (words o : List ℕ) {out : List ℕ} {at left : ℕ} → left ≡ get_or words 0 0 → Low words → has_room (words_text words) (length o) ≡ true → answering at out ≡ shown (just (refusal_text 0)) o → Going words out out 1 left at
going_starts words o {out} {at} c low e a =
    let p = placed words (length o) e in
    let f = first-line o low p a in
    let n : length o ≡ length out = sym (ap length f.1 ∙ over-length (refusal_text 0) o) in
    record {
      low = low;
      place = record { solution = p.solution; text = p.text; parts = p.parts; fits = omega (arith, p.fits, n) };
      inside = p.parts.some;
      reached = omega (arith, f.0);
      kept = refl;
      binders = p.solution.params;
      behind = p.parts.behind;
      read = rw c p.parts.binders;
      body = p.parts.body;
      text = ap (λ (k : ℕ). sets out k (lines_of p.solution)) f.0;
    }

module _ {words out₀ out : List ℕ} {from left at : ℕ} (g : Going words out₀ out from left at) where
  -- The parameter that is read next.
  next : 0 < left → Next words from left g.binders g.behind
  next some = next-read words g.low from left g.inside some g.read

  -- Its sort is not refused.
  pub not-refused : {P : Type 0} → 0 < left → {r : ℕ} → refused r ≡ end_of (sort_at no_text words (from + 2)) → P
  not-refused some {r} e = let z : refused r ≡ told (next some).to = e ∙ ap end_of (next some).sort in let y : ◌≡◌ {A = ℕ} 0 1 = cc in absurd (omega arith)

  module _ (some : 0 < left) {to : ℕ} (e : told to ≡ end_of (sort_at no_text words (from + 2))) where
    same_place : (next some).to ≡ to
    same_place = let z : told to ≡ told (next some).to = e ∙ ap end_of (next some).sort in cc

    spelled : Spelled words from to (param_words (next some).binder)
    spelled = rw same_place at (next some).spelled

    -- There is room for its line.
    pub line-room : (from ≤ to) × (to ≤ length words) × (at + 9 * (to - from) ≤ length out)
    line-room =
        (omega (arith, spelled.ends), spelled-inside spelled, omega (arith, spelled.ends, spelled-inside spelled, g.reached, g.kept, g.place.fits, parts-length g.low g.place.parts, g.place.parts.some))

    -- Behind its line.
    pub going_more : {out' : List ℕ} {at' left' : ℕ} → left ≡ left' + 1 → at' ≡ at + 9 * (to - from) → out' ≡ sets out at (line (between words from to)) → Going words out₀ out' to left' at'
    unfolding param_lines
    going_more {out'} {at'} {left'} c p o =
        let one : left - 1 ≡ left' = omega (arith, c) in
        let x = next some in
        let b : List ℕ = param_words x.binder in
        let body : List ℕ = line (words_of (expr_items g.place.solution.body)) in
        let rest : List ℕ = param_lines x.others ++ body in
        let q : out' ≡ sets out at (line b) = o ∙ ap (λ (l : List ℕ). sets out at (line l)) (between-spelled spelled) in
        let m : at' ≡ at + length (line b) = omega (arith, p, line-length b, spelled.ends) in
        let w : param_lines g.binders ++ body ≡ line b ++ rest = ap (λ (l : List Binder). param_lines l ++ body) x.is ∙ append_assoc (line b) (param_lines x.others) body in
        record {
          low = g.low;
          place = g.place;
          inside = spelled-inside spelled;
          reached = omega (arith, g.reached, p, spelled.ends);
          kept = ap length o ∙ length-sets out at (line (between words from to)) ∙ g.kept;
          binders = x.others;
          behind = g.behind;
          read = rw (same_place, one) at x.then;
          body = g.body;
          text = rw (m, q) (sets_append (line b) rest out at) ∙ ap (sets out at) (sym w) ∙ g.text;
        }

  -- There is room for the last line.
  pub last-room : (from ≤ length words) × (length words ≤ length words) × (at + 9 * (length words - from) ≤ length out)
  last-room = (g.inside, omega arith, omega (arith, g.inside, g.reached, g.kept, g.place.fits, parts-length g.low g.place.parts, g.place.parts.some))

  -- Behind the last line: the text of the solution is shown.
  pub going_ends : (o : List ℕ) {at₀ : ℕ} {out' : List ℕ} {at' : ℕ} → length out₀ ≡ length o → answering at₀ out₀ ≡ shown (just (refusal_text 0)) o → left ≤ 0 → at' ≡ at + 9 * (length words - from) → out' ≡ sets out at (line (between words from (length words)))
      → answering at' out' ≡ shown (words_text words) o
  unfolding param_lines solution_text refusal_text
  going_ends o {at₀} {out'} {at'} long a none p e =
      let s : Solution = g.place.solution in
      let n = none_read words from left none g.read in
      let fits : length (solution_text s) ≤ length o = omega (arith, g.place.fits, long) in
      let h : out₀ ≡ over (refusal_text 0) o = (first-line o g.low (record { solution = s; text = g.place.text; parts = g.place.parts; fits = fits }) a).1 in
      let x : Spelled words from (length words) (words_of (expr_items s.body)) = rw n.1 (expr-spelled no_text max_nodes words g.low g.behind g.body) in
      let l : out' ≡ sets out₀ 3 (lines_of s) =
      e
      ∙ ap (λ (l : List ℕ). sets out at (line l)) (between-spelled x)
      ∙ ap (λ (bs : List Binder). sets out at (param_lines bs ++ line (words_of (expr_items s.body)))) (sym n.0)
      ∙ g.text in
      shows o (solution_text s) g.place.text fits
      (omega (arith, p, g.inside, g.reached, parts-length g.low g.place.parts, g.place.parts.some))
      (l ∙ ap (λ (k : List ℕ). sets k 3 (lines_of s)) h ∙ over-more (lines_of s) (refusal_text 0) o 3 refl)
