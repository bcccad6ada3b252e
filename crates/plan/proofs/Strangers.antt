-- Rows that name a task outside a vector, and rows filled up with empty ones.
use Rattle.std.proofs.Common.{◌≡◌, ℕ, zero, suc, true, false, List, [], ◌∷◌, ◌++◌, drop, replicate, refl, ◌∙◌, ⊎_elim}
use Rattle.std.specs.List.{list_any}
use Rattle.std.proofs.lemmas.List.{get_or-drop}
use Rattle.std.proofs.lemmas.Bool.{both_ways, or_cases, or_parts, false≢true}
use Rattle.vectors.specs.Vectors.{in_vector, strays}
use Rattle.vectors.proofs.Vectors.{none_strays, one_strays}
use Rattle.plan.specs.Rows.{Inside, SameRows}
use Rattle.plan.proofs.Zeros.{zeros, in_empty}

pub inside : (rows : List ℕ) (w : ℕ) → list_any (λ row. strays row (in_vector w)) rows ≡ false → Inside rows w
inside [] w e i t y = absurd (in_empty [] i t (zeros 0 i) y)
inside (x ∷ xs) w e zero t y = none_strays x (in_vector w) (or_parts _ _ e).0 t y
inside (x ∷ xs) w e (suc i) t y = inside xs w (or_parts _ _ e).1 i t y

pub not_inside : (rows : List ℕ) (w : ℕ) → list_any (λ row. strays row (in_vector w)) rows ≡ true → Inside rows w → ⊥
not_inside [] w e h = false≢true e
not_inside (x ∷ xs) w e h =
    ⊎_elim
    (λ s. let y = one_strays x (in_vector w) s in both_ways (in_vector w y.0) y.2 (h 0 y.0 y.1))
    (λ s. not_inside xs w s (λ i. h (suc i)))
    (or_cases _ _ e)

pub padded : (rows : List ℕ) (n k : ℕ) → SameRows (rows ++ drop n (replicate k 0)) rows
padded [] n k i = get_or-drop n (replicate k 0) i 0 ∙ zeros k _
padded (x ∷ xs) n k zero = refl
padded (x ∷ xs) n k (suc i) = padded xs n k i
