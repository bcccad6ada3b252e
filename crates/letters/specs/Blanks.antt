-- Blanks and comments.
use Rattle.std.specs.Prelude.{ℕ, ◌+◌, Bool, true, false, cond, not, ◌&&◌, List, [], ◌∷◌, Some, None, Option, ◌==◌}
use Rattle.letters.specs.Bytes.{is_blank}

-- The text begins with the byte c.
abbrev pub begins : ℕ → List ℕ → Bool
begins c [] = false
begins c (b ∷ bs) = b == c

-- The first byte b of a text b ∷ bs, in a comment or outside one: whether the next byte is in a comment, or none where b is neither a blank nor of a comment.
abbrev pub skip : Bool → ℕ → List ℕ → Option Bool
skip comment b bs =
    cond comment (Some (not (b == 10)))
    (cond (b == 47 && begins 47 bs) (Some true) (cond (is_blank b) (Some false) None))

-- One byte and those after it, where it is skipped.
abbrev pub counted : Option Bool → (Bool → ℕ) → ℕ
counted None more = 0
counted (Some next) more = 1 + more next

-- How many bytes of blanks and comments the text begins with, in a comment or outside one.
abbrev pub blanks : Bool → List ℕ → ℕ
blanks comment [] = 0
blanks comment (b ∷ bs) = counted (skip comment b bs) (λ next. blanks next bs)
