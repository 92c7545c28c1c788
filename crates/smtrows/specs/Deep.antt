-- How deep solutions may nest, and which refusal is met there.
use Rattle.std.specs.Prelude.{ℕ, ◌≡◌, refl, List, [], ◌∷◌, ◌++◌, map, replicate}
use Rattle.reading.specs.Bytes.{ascii}
use Rattle.reading.specs.Answer.{Said, accepted, refused}
use Rattle.smt.specs.Operation.{smtlib_said}
use Rattle.smt.specs.Compute.{smt_computes}

-- Words inside so many Not.
abbrev pub in_nots : ℕ → List ℕ → List ℕ
in_nots n ws = 0 ∷ replicate n 44 ++ ws

-- Words, on a text of one bar, and what is said with room for 900 bytes.
pub record Row : Type 0 where
  pub words : List ℕ
  pub said : Said

abbrev pub row : List ℕ → Said → Row
row words said = record { words = words; said = said }

abbrev pub rows : List Row
rows =
    row (in_nots 127 (33 ∷ 1 ∷ [])) (accepted 769 0)
    ∷ row (in_nots 128 (33 ∷ 1 ∷ [])) (refused 6)
    -- at the 129th node: the kind first, then the depth, then the fields
    ∷ row (in_nots 128 []) (refused 14)
    ∷ row (in_nots 128 (31 ∷ [])) (refused 14)
    ∷ row (in_nots 128 (53 ∷ [])) (refused 14)
    ∷ row (in_nots 128 (52 ∷ [])) (refused 6)
    ∷ row (in_nots 128 (37 ∷ [])) (refused 6)
    ∷ row (in_nots 128 (37 ∷ 1 ∷ 1 ∷ [])) (refused 6)
    -- a span outside the text is 14 at its place: before a later 6, and behind an earlier one
    ∷ row (0 ∷ 42 ∷ 2 ∷ 37 ∷ 1 ∷ 1 ∷ replicate 128 44) (refused 14)
    ∷ row (0 ∷ 42 ∷ 2 ∷ replicate 128 44 ++ (37 ∷ 1 ∷ 1 ∷ [])) (refused 6)
    -- 6 before every 15 and 16
    ∷ row (0 ∷ 42 ∷ 2 ∷ 37 ∷ 0 ∷ 1 ∷ replicate 128 44) (refused 6)
    ∷ []

unfoldable pub said_by : List Row → List Said
unfolding smt_computes
said_by l = map (λ r. smtlib_said r.words (ascii "|") (replicate 900 0)) l

pub deep_hold : said_by rows ≡ map (λ r. r.said) rows
unfolding said_by
deep_hold = refl
