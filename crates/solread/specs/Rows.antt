-- What is printed for some texts, proved by computing.
use Rattle.std.specs.Prelude.{◌≡◌, refl, List, [], ◌∷◌, map, ℕ, replicate}
use Prim.Native.String.{String}
use Rattle.reading.specs.Bytes.{ascii}
use Rattle.session.specs.Compute.{reader_computes}
use Rattle.writing.specs.Digits.{digit}
use Rattle.show.specs.Lines.{line, refusal_text, param_lines, solution_text}
use Rattle.solread.specs.Printed.{final_text, slice, printed}

-- The bytes of a text, and what is printed for it.
pub record Row : Type 0 where
  pub text : List ℕ
  pub lines : String

abbrev pub row : List ℕ → String → Row
row text lines = record { text = text; lines = lines }

-- Document 01's example; applications that are joined; a literal; and refusals: no text, a stray `)`, a name twice, digits that are not as many as
-- the size says, which is 17, and 8,193 spaces.
abbrev pub rows : List Row
rows =
    row (ascii "(lambda ((x Int)) (< x 5))") "00\n00000000 00000000 00000001\n0000002f 00000004 00000024 00000000 00000000 00000020 00000005 00000000 00000000 00000000\n"
    ∷ row (ascii "(lambda () (((as apply Int) f) a))") "00\n00000026 00000000 00000001 00000025 0000001f 00000001 00000025 0000001c 00000001\n"
    ∷ row (ascii "(lambda () (lit \"#b101\" (BitVec Size3)))") "00\n00000023 00000005 00000000 00000000 00000000 00000003\n"
    ∷ row [] "03\n"
    ∷ row (ascii ")") "04\n"
    ∷ row (ascii "(lambda ((x Int) (x Int)) x)") "0a\n"
    ∷ row (ascii "(lambda () (lit \"#b1\" (BitVec Size3)))") "11\n"
    ∷ row (replicate 8193 32) "01\n"
    ∷ []

-- What is printed for the texts of the table is what the table says.
pub rows_hold : map (λ r. printed r.text) rows ≡ map (λ r. ascii r.lines) rows
unfolding reader_computes digit line refusal_text param_lines solution_text final_text slice printed
rows_hold = refl
