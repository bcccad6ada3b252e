-- Shapes that a chain and a held list keep, with the newest entry first.
use Rattle.std.specs.Prelude.{◌≡◌, ℕ, ◌<◌, ◌≤◌, true, List, [], ◌∷◌, Some, None}
use Rattle.machine.specs.Schedules.{among, holder}

-- Each newer task is greater.
abbrev pub Falling : List ℕ → Type 0
Falling [] = Unit {0}
Falling (x ∷ xs) = ((t : ℕ) → among xs t ≡ true → t < x) × Falling xs

-- No resource is held twice.
abbrev pub Single : List (ℕ × ℕ) → Type 0
Single [] = Unit {0}
Single (x ∷ xs) = (holder xs x.0 ≡ None) × Single xs

-- No newer holder is below an older one.
abbrev pub Nested : List (ℕ × ℕ) → Type 0
Nested [] = Unit {0}
Nested (x ∷ xs) = ((r k : ℕ) → holder xs r ≡ Some k → k ≤ x.1) × Nested xs
