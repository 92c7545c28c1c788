-- The fields of a recorded line, and the line.
use Rattle.std.specs.Prelude.{ℕ, zero, suc, ◌+◌, List, [], ◌∷◌, eqb, leb, ltb, length, get_or, drop}
use Rattle.reading.specs.Pick.{pick}
use Rattle.recorded.specs.Numbers.{digit, decimal}
use Rattle.recorded.specs.declared.line.Line.{Line}

-- What a byte ends: a space or a line end a field, 3; `.` or `,` a part of a field, 2; any other byte that is no digit the digits, 1; a digit nothing, 0.
unfoldable pub ends : ℕ → ℕ
ends b = pick (eqb b 32) 3 (pick (eqb b 10) 3 (pick (eqb b 46) 2 (pick (eqb b 44) 2 (pick (ltb (digit b) 16) 0 1))))

-- How many bytes stand in front of the first one that ends so much, or all of them.
unfoldable pub up_to : ℕ → List ℕ → ℕ
up_to k [] = 0
up_to k (b ∷ s) = pick (leb k (ends b)) 0 (suc (up_to k s))

-- The place of that byte, from a place on.
abbrev pub end_from : ℕ → List ℕ → ℕ → ℕ
end_from k text at = at + up_to k (drop at text)

-- The place behind the next space or line end, or the end of the text.
unfoldable pub next_field : List ℕ → ℕ → ℕ
next_field text at = pick (ltb (end_from 3 text at) (length text)) (end_from 3 text at + 1) (end_from 3 text at)

-- The place of the n-th field behind the one at a place.
unfoldable pub field : ℕ → List ℕ → ℕ → ℕ
field zero text at = at
field (suc n) text at = next_field text (field n text at)

-- The decimal number in the n-th field.
unfoldable pub number_in : ℕ → List ℕ → ℕ → ℕ
number_in n text at = decimal (drop (field n text at) text)

-- The line at a place: `OP START TREE DRAFT OUT INPUT = REFUSAL A B COUNT WORDS`. OP is a byte, INPUT and WORDS are told by their places, and so is the next line.
unfoldable pub line_at : List ℕ → ℕ → Line
line_at text at =
    record {
      op = get_or text at 0;
      start = number_in 1 text at;
      tree = number_in 2 text at;
      draft = number_in 3 text at;
      out = number_in 4 text at;
      input = field 5 text at;
      refusal = number_in 7 text at;
      a = number_in 8 text at;
      b = number_in 9 text at;
      count = number_in 10 text at;
      words = field 11 text at;
      next = field 12 text at;
    }
