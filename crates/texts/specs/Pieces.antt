-- Bytes cut at a byte.
use Rattle.std.specs.Prelude.{ℕ, cond, List, [], ◌∷◌, ◌++◌, ◌==◌, ◌≢◌}

-- No byte of the list is b.
abbrev pub Lacks : ℕ → List ℕ → Type 0
Lacks b [] = Unit {0}
Lacks b (x ∷ xs) = (x ≢ b) × Lacks b xs

-- The pieces between the bytes that are b, the first of which begins with what is begun.
abbrev pub pieces_from : ℕ → List ℕ → List ℕ → List (List ℕ)
pieces_from b begun [] = begun ∷ []
pieces_from b begun (x ∷ xs) = cond (x == b) (begun ∷ pieces_from b [] xs) (pieces_from b (begun ++ x ∷ []) xs)

-- The pieces between the bytes that are b. There is always one.
unfoldable pub pieces : ℕ → List ℕ → List (List ℕ)
pieces b bs = pieces_from b [] bs
