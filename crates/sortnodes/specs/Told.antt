-- The kind and the fields of a sort that can be written, as the code tells them.
use Rattle.std.specs.Prelude.{ℕ, ◌+◌, List, eqb, get_or}
use Rattle.reading.specs.Pick.{pick}
use Rattle.sortnodes.specs.declared.SortNode.{SortNode}
use Rattle.sortnodes.specs.declared.SortNode.TheVariants as told

-- A sort by the words at a place: a BitVec by its width, an Array and a Data sort by how many sorts are inside it.
unfoldable pub applied_at : List ℕ → ℕ → SortNode
applied_at ws a =
    pick (eqb (get_or ws a 0) 1) (told.Array (get_or ws (a + 1) 0))
    (pick (eqb (get_or ws a 0) 2) (told.Data (record { start = get_or ws (a + 1) 0; len = get_or ws (a + 2) 0 }) (get_or ws (a + 3) 0)) told.Other)

unfoldable pub sort_node_at : List ℕ → ℕ → SortNode
sort_node_at ws at =
    pick (eqb (get_or ws at 0) 1) told.Int
    (pick (eqb (get_or ws at 0) 2) told.Bool
    (pick (eqb (get_or ws at 0) 3) told.Real
    (pick (eqb (get_or ws at 0) 4) told.Str
    (pick (eqb (get_or ws at 0) 5) (pick (eqb (get_or ws (at + 1) 0) 6) (told.BitVec (get_or ws (at + 2) 0)) told.Other)
    (pick (eqb (get_or ws at 0) 10) (applied_at ws (at + 1)) told.Other)))))

-- How many words a sort takes before the sorts inside it, and how many these are.
abbrev pub size_of : SortNode → ℕ
size_of told.Int = 1
size_of told.Bool = 1
size_of told.Real = 1
size_of told.Str = 1
size_of (told.BitVec width) = 3
size_of (told.Array n) = 3
size_of (told.Data name n) = 5
size_of told.Other = 1

abbrev pub inside_of : SortNode → ℕ
inside_of told.Int = 0
inside_of told.Bool = 0
inside_of told.Real = 0
inside_of told.Str = 0
inside_of (told.BitVec width) = 0
inside_of (told.Array n) = n
inside_of (told.Data name n) = n
inside_of told.Other = 0
