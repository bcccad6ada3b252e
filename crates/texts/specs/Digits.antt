-- Numbers in digits.
use Rattle.std.specs.Prelude.{ℕ, Bool, true, cond, ◌&&◌, List, [], ◌∷◌, length, Some, None, Option, nat_le, nat_lt}
use Rattle.std.specs.Str.Parse.{digits_value}
use Rattle.std.specs.Char.{digit_value}

-- Every byte is a digit below the radix.
abbrev pub all_digits : ℕ → List ℕ → Bool
all_digits radix [] = true
all_digits radix (c ∷ cs) = nat_lt (digit_value c) radix && all_digits radix cs

-- There are 1 to `most` digits, and nothing else.
abbrev pub is_number : ℕ → ℕ → List ℕ → Bool
is_number radix most ds = nat_lt 0 (length ds) && (nat_le (length ds) most && all_digits radix ds)

-- The number that 1 to `most` digits spell.
unfoldable pub number : ℕ → ℕ → List ℕ → Option ℕ
number radix most ds = cond (is_number radix most ds) (Some (digits_value radix ds)) None

-- The number of a resource or an event has 1 to 3 decimal digits.
abbrev pub number_field : List ℕ → Option ℕ
number_field ds = number 10 3 ds

-- A task vector has 1 to 16 hexadecimal digits.
abbrev pub vector_field : List ℕ → Option ℕ
vector_field ds = number 16 16 ds
