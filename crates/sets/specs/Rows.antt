-- A set of the numbers below 64 in eight rows of eight bits, the greatest number first.
use Rattle.std.specs.Prelude.{ℕ, ◌-◌, ◌/◌, ◌%◌, Bool, ◌&&◌, List, nat_lt, slice_index}
use Rattle.vectors.specs.Vectors.{on}

-- Task t lies at position 63 - t: its row and its bit there.
abbrev pub row : ℕ → ℕ
row t = (63 - t) / 8

abbrev pub place : ℕ → ℕ
place t = (63 - t) % 8

-- Task t is in the rows.
abbrev pub in_rows : List ℕ → ℕ → Bool
in_rows rs t = nat_lt t 64 && on (slice_index rs (row t)) (place t)
