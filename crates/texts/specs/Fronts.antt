-- A short text that grows at its front.
use Rattle.std.specs.Prelude.{◌≡◌, ℕ, zero, suc, ◌+◌, ◌/◌, ◌%◌, ◌≤◌, List, [], ◌∷◌, ◌++◌, drop}
use Rattle.std.specs.Char.{digit_char}
use Rattle.texts.specs.declared.fronts.Front.{Front}

-- The text.
abbrev pub text_of : Front → List ℕ
text_of f = drop f.start f.bytes

-- What was put before the text of f is the text of g, and took at most k bytes of the room.
abbrev pub Puts : ℕ → (List ℕ → List ℕ) → Front → Front → Type 0
Puts k put f g = (text_of g ≡ put (text_of f)) × (f.start ≤ g.start + k)

-- The last k hexadecimal digits of n, in small letters, the highest first.
unfoldable pub hex : ℕ → ℕ → List ℕ
hex zero n = []
hex (suc k) n = hex k (n / 16) ++ digit_char (n % 16) ∷ []
