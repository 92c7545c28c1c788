-- What the operation smtlib leaves in the output, which holds sevens before the call: an accepted call writes its bytes from the start and keeps the
-- sevens behind them; after a refusal all is zero.
use Rattle.std.specs.Prelude.{ℕ, ◌≡◌, refl, List, [], ◌∷◌, ◌++◌, map, replicate}
use Prim.Native.String.{String}
use Rattle.reading.specs.Bytes.{ascii}
use Rattle.reading.specs.Answer.{Said, accepted, refused}
use Rattle.smt.specs.Operation.{smtlib_said, smtlib_out}
use Rattle.smt.specs.Compute.{smt_computes}

-- Words, the text lent with them, the length of the output, and what is said and left.
pub record Row : Type 0 where
  pub words : List ℕ
  pub text : String
  pub room : ℕ
  pub said : Said
  pub left : List ℕ

abbrev pub row : List ℕ → String → ℕ → Said → List ℕ → Row
row words text room said left = record { words = words; text = text; room = room; said = said; left = left }

abbrev pub rows : List Row
rows =
    row (0 ∷ 33 ∷ 1 ∷ []) "" 9 (accepted 7 0) (ascii "() true" ++ (7 ∷ 7 ∷ []))
    ∷ row (0 ∷ 33 ∷ 1 ∷ []) "" 7 (accepted 7 0) (ascii "() true")
    ∷ row (0 ∷ 33 ∷ 1 ∷ []) "" 6 (refused 7) (replicate 6 0)
    ∷ row (0 ∷ 33 ∷ 1 ∷ []) "" 0 (refused 7) []
    ∷ row (0 ∷ 49 ∷ 0 ∷ []) "" 6 (refused 15) (replicate 6 0)
    ∷ row (0 ∷ 37 ∷ 0 ∷ 1 ∷ []) "|" 9 (refused 16) (replicate 9 0)
    ∷ row (0 ∷ 37 ∷ 0 ∷ 1 ∷ []) "x" 9 (accepted 8 0) (ascii "() |n x|" ++ (7 ∷ []))
    ∷ row (0 ∷ []) "" 3 (refused 14) (replicate 3 0)
    ∷ []

unfoldable pub said_by : List Row → List Said
unfolding smt_computes
said_by l = map (λ r. smtlib_said r.words (ascii r.text) (replicate r.room 7)) l

unfoldable pub left_by : List Row → List (List ℕ)
unfolding smt_computes
left_by l = map (λ r. smtlib_out r.words (ascii r.text) (replicate r.room 7)) l

pub said_hold : said_by rows ≡ map (λ r. r.said) rows
unfolding said_by
said_hold = refl

pub slices_hold : left_by rows ≡ map (λ r. r.left) rows
unfolding left_by
slices_hold = refl
