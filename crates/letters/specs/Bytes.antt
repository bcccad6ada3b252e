-- The kinds of bytes.
use Rattle.std.specs.Prelude.{ℕ, Bool, not, ◌&&◌, ◌||◌, ◌==◌}
use Rattle.std.specs.Char.{is_ascii_alphabetic, is_ascii_digit}

-- A letter or an underscore.
abbrev pub name_start : ℕ → Bool
name_start b = is_ascii_alphabetic b || b == 95

-- A decimal digit.
abbrev pub is_digit : ℕ → Bool
is_digit b = is_ascii_digit b

-- A letter, an underscore or a digit.
abbrev pub name_byte : ℕ → Bool
name_byte b = name_start b || is_digit b

-- Space, tab, carriage return and line feed.
abbrev pub is_blank : ℕ → Bool
is_blank b = (b == 32 || b == 9) || (b == 13 || b == 10)

-- A byte of a string: neither a quote nor a line feed.
abbrev pub in_string : ℕ → Bool
in_string b = not (b == 34) && not (b == 10)
