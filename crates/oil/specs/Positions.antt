-- Lines and columns.
use Rattle.std.specs.Prelude.{ℕ, ◌+◌, Bool, cond, not, List, reverse, take, count_by, ◌==◌}
use Rattle.std.specs.List.{prefix_len}
use Rattle.oil.specs.declared.position.Position.{Position}

-- A line feed.
abbrev pub is_feed : ℕ → Bool
is_feed b = b == 10

-- A byte that does not end a line.
abbrev pub in_line : ℕ → Bool
in_line b = not (b == 10)

-- Right behind these bytes: one line more than there are line feeds, and one column more than there are bytes since the last of them.
abbrev pub behind : List ℕ → Position
behind bs = record { line = 1 + count_by is_feed bs; column = 1 + prefix_len in_line (reverse bs) }

-- The position of a place in a text.
abbrev pub position : List ℕ → ℕ → Position
position text place = behind (take place text)

-- One byte further.
abbrev pub moved : Position → ℕ → Position
moved at b = cond (b == 10) (record { line = at.line + 1; column = 1 }) (record { line = at.line; column = at.column + 1 })
