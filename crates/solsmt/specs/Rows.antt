-- What is printed for some texts, proved by computing.
use Rattle.std.specs.Prelude.{◌≡◌, refl, List, [], ◌∷◌, map, ℕ, replicate}
use Prim.Native.String.{String}
use Rattle.reading.specs.Bytes.{ascii}
use Rattle.session.specs.Compute.{reader_computes}
use Rattle.writing.specs.Digits.{digit}
use Rattle.smt.specs.Compute.{smt_computes}
use Rattle.solsmt.specs.Script.{comment_line, function_line, closed_text, final_text, slice, script}

-- The bytes of a text, and what is printed for it.
pub record Row : Type 0 where
  pub text : List ℕ
  pub lines : String

abbrev pub row : List ℕ → String → Row
row text lines = record { text = text; lines = lines }

-- Document 01's example; names, of which one has a byte that SMT-LIB cannot have; a part that cannot be written; and refusals of reading: no
-- text, a name twice, and 8,193 spaces.
abbrev pub rows : List Row
rows =
    row (ascii "(lambda ((x Int)) (< x 5))") "; 00\n(define-fun solution ((|v 0| Int)) Bool (< |v 0| 5))\n"
    ∷ row (ascii "(lambda () (((as apply Int) f) a))") "; 00\n(define-fun solution () Bool (|n f| |n a|))\n"
    ∷ row (ascii "(lambda () (and a|b c))") "; 10\n"
    ∷ row (ascii "(lambda ((s (Set_Set Int))) true)") "; 0f\n"
    ∷ row [] "; 03\n"
    ∷ row (ascii "(lambda ((x Int) (x Int)) x)") "; 0a\n"
    ∷ row (replicate 8193 32) "; 01\n"
    ∷ []

-- What is printed for the texts of the table is what the table says.
pub rows_hold : map (λ r. script r.text) rows ≡ map (λ r. ascii r.lines) rows
unfolding reader_computes smt_computes digit comment_line function_line closed_text final_text slice script
rows_hold = refl
