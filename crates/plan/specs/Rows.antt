-- Rows of task vectors, one for each resource or event. The plan record's own rules cite this file.
use Rattle.std.specs.Prelude.{◌≡◌, ℕ, ◌≤◌, true, List, slice_index}
use Rattle.vectors.specs.Vectors.{in_vector}

-- Every task of each row is in the vector w.
abbrev pub Inside : List ℕ → ℕ → Type 0
Inside rows w = (i t : ℕ) → in_vector (slice_index rows i) t ≡ true → in_vector w t ≡ true

-- The rows from n on are empty.
abbrev pub EmptyFrom : List ℕ → ℕ → Type 0
EmptyFrom rows n = (i : ℕ) → n ≤ i → slice_index rows i ≡ 0

-- Both have the same row everywhere, where a row past the end is empty.
abbrev pub SameRows : List ℕ → List ℕ → Type 0
SameRows a b = (i : ℕ) → slice_index a i ≡ slice_index b i
