-- A walk over the sorts inside a sort, which nest without limit: it is known of each list that is open how many of its sorts are still to come.
use Rattle.std.specs.Prelude.{ℕ, suc, ◌+◌, ◌≤◌, ◌<◌, ◌≡◌, List, [], ◌∷◌, ◌++◌, eqb, length, replicate}
use Rattle.reading.specs.Pick.{pick}
use Rattle.smtlevels.specs.Open.{total, ending, settled}
use Rattle.sortnodes.specs.Told.{sort_node_at, size_of, inside_of}

-- One step of the walk inside the words, from a place and the open lists to the next place and the lists that are open there: into a sort with sorts inside it, or past one without.
pub data Step (ws : List ℕ) : ℕ → List ℕ → ℕ → List ℕ → Type 0 where
  into : {a m : ℕ} {cs : List ℕ} → a < length ws → inside_of (sort_node_at ws a) ≡ suc m → m + total cs ≤ length ws → Step ws a cs (a + size_of (sort_node_at ws a)) (m ∷ cs)
  past : {a c : ℕ} {cs ds : List ℕ} → a < length ws → inside_of (sort_node_at ws a) ≡ 0 → settled cs ≡ suc c ∷ ds → Step ws a cs (a + size_of (sort_node_at ws a)) (c ∷ ds)

-- Steps, one after the other.
pub data Walk (ws : List ℕ) : ℕ → List ℕ → ℕ → List ℕ → Type 0 where
  here : {a : ℕ} {cs : List ℕ} → Walk ws a cs a cs
  more : {a b e : ℕ} {cs ds es : List ℕ} → Step ws a cs b ds → Walk ws b ds e es → Walk ws a cs e es

-- What is written behind a sort without sorts inside it: a parenthesis for each list that ends with it, and a space if a sort is to come.
unfoldable pub end_text : List ℕ → List ℕ
end_text cs = replicate (ending (total cs) cs) 41 ++ pick (eqb (total cs) 0) [] (32 ∷ [])
