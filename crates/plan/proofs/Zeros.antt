-- Empty rows.
use Rattle.std.proofs.Common.{◌≡◌, ℕ, zero, suc, true, List, get_or, replicate, sym, refl, ap, ◌∙◌}
use Rattle.std.proofs.lemmas.Bool.{both_ways}
use Rattle.vectors.specs.Vectors.{in_vector}
use Rattle.vectors.proofs.Vectors.{in_none}
use Rattle.plan.specs.Rows.{Inside}

-- std reads a filled list inside it and past its end by two lemmas: with a case for each it would be no shorter
pub zeros : (n i : ℕ) → ◌≡◌ {A = ℕ} (get_or (replicate n 0) i 0) 0
zeros zero i = refl
zeros (suc n) zero = refl
zeros (suc n) (suc i) = zeros n i

-- an empty row has no task
pub in_empty : (rows : List ℕ) (i t : ℕ) → get_or rows i 0 ≡ 0 → in_vector (get_or rows i 0) t ≡ true → ⊥
in_empty rows i t z e = both_ways (in_vector 0 t) (in_none t) (ap (λ v. in_vector v t) (sym z) ∙ e)

pub none_inside : (n w : ℕ) → Inside (replicate n 0) w
none_inside n w i t e = absurd (in_empty (replicate n 0) i t (zeros n i) e)
