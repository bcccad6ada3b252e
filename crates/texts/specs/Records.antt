-- The records of an input.
use Rattle.std.specs.Prelude.{◌≡◌, ℕ, ◌-◌, cond, List, [], ◌∷◌, ◌++◌, length, take, count_by, ◌==◌, slice_index}
use Rattle.texts.specs.Pieces.{pieces}

-- A line without the CR that ends it.
unfoldable pub without_return : List ℕ → List ℕ
without_return l = cond (slice_index l (length l - 1) == 13) (take (length l - 1) l) l

-- The records among lines, of which each but the last was ended by an LF. A line that was ended loses its CR. The last
-- is a record as it stands, unless it is empty.
abbrev pub among_lines : List (List ℕ) → List (List ℕ)
among_lines [] = []
among_lines (l ∷ []) = cond (length l == 0) [] (l ∷ [])
among_lines (l ∷ m ∷ ls) = without_return l ∷ among_lines (m ∷ ls)

-- The records of an input.
unfoldable pub records : List ℕ → List (List ℕ)
records bs = among_lines (pieces 10 bs)

-- How many LFs there are.
abbrev pub feeds : List ℕ → ℕ
feeds bs = count_by (λ b. b == 10) bs

-- The first n records of the bytes bs are settled: they stay the same, whatever follows.
abbrev pub Settled : ℕ → List ℕ → Type 0
Settled n bs = (more : List ℕ) → take n (records (bs ++ more)) ≡ take n (records bs)
