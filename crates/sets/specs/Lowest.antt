-- The place of the lowest 1 of a byte.
use Rattle.std.specs.Prelude.{ℕ, zero, suc, ◌/◌, cond, ◌==◌}
use Rattle.vectors.specs.Vectors.{on}

-- How many 0s stand below the lowest 1 among the first k bits of n.
abbrev pub zeros_below : ℕ → ℕ → ℕ
zeros_below zero n = 0
zeros_below (suc k) n = cond (on n 0) 0 (suc (zeros_below k (n / 2)))

-- The place of the lowest 1 of the byte n, and 0 where it has none.
unfoldable pub lowest_place : ℕ → ℕ
lowest_place n = cond (n == 0) 0 (zeros_below 8 n)
