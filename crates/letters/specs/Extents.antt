-- Where the tokens of a text begin and end, lawful or not.
use Rattle.std.specs.Prelude.{ℕ, ◌+◌, false, cond, List, [], ◌∷◌, drop, ◌==◌}
use Rattle.std.specs.List.{prefix_len}
use Rattle.letters.specs.Bytes.{name_start, name_byte, is_digit, in_string}
use Rattle.letters.specs.Blanks.{begins, blanks}

-- How many bytes the token at the head of a text has, be it lawful or not.
abbrev pub extent : List ℕ → ℕ
extent [] = 0
extent (b ∷ bs) =
    cond (name_start b) (1 + prefix_len name_byte bs)
    (cond (is_digit b) (1 + prefix_len is_digit bs)
    (cond (b == 34) (1 + (prefix_len in_string bs + cond (begins 34 (drop (prefix_len in_string bs) bs)) 1 0)) 1))

-- Where the token at a place ends.
abbrev pub end_from : List ℕ → ℕ → ℕ
end_from text place = place + extent (drop place text)

-- Where the next token from pos on begins.
abbrev pub place_from : List ℕ → ℕ → ℕ
place_from text pos = pos + blanks false (drop pos text)
