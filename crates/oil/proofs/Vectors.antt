-- Places of lists, and vectors of tasks.
use Rattle.std.proofs.Common.{◌≡◌, ℕ, zero, suc, ◌^◌, ◌<◌, Bool, true, false, ◌||◌, eqb, ◌⊎◌, List, [], ◌∷◌, ◌++◌, length, sym, refl, ap, ◌∙◌, subst, inl, inr, ⊎_elim, arith}
use lib.Bits.{bit_or, or_lt}
use lib.Pow.{pow-lt}
use Rattle.std.proofs.lemmas.Bool.{cases_Bool, eqb-true, eq-eqb, or_cases, or_left, or_right, both_ways}
use Rattle.std.proofs.lemmas.Bool.Decides.{nat_tests}
use Rattle.std.proofs.lemmas.Nat.Bits.{same_from_bits_below}
use Rattle.vectors.specs.Vectors.{in_vector, with}
use Rattle.vectors.proofs.Bits.{bit, shifted_is}
use Rattle.vectors.proofs.Vectors.{code_with, in_none}
use Rattle.oil.specs.Meaning.{At, In, VectorOf}

module _ {X : Type 0} where
  pub at_old : (xs : List X) (y : X) (i : ℕ) (x : X) → At xs i x → At (xs ++ (y ∷ [])) i x
  at_old [] y i x h = absurd h
  at_old (z ∷ zs) y zero x h = h
  at_old (z ∷ zs) y (suc i) x h = at_old zs y i x h

  pub at_new : (xs : List X) (y : X) → At (xs ++ (y ∷ [])) (length xs) y
  at_new [] y = refl
  at_new (z ∷ zs) y = at_new zs y

  pub at_split : (xs : List X) (y : X) (i : ℕ) (x : X) → At (xs ++ (y ∷ [])) i x → At xs i x ⊎ ((i ≡ length xs) × (y ≡ x))
  at_split [] y zero x h = inr (refl, h)
  at_split [] y (suc i) x h = absurd h
  at_split (z ∷ zs) y zero x h = inl h
  at_split (z ∷ zs) y (suc i) x h = ⊎_elim (λ a. inl a) (λ b. inr (ap suc b.0, b.1)) (at_split zs y i x h)

  pub at_low : (xs : List X) (i : ℕ) (x : X) → At xs i x → i < length xs
  at_low [] i x h = absurd h
  at_low (z ∷ zs) zero x h = omega arith
  at_low (z ∷ zs) (suc i) x h = let l = at_low zs i x h in omega arith

  pub at_same : (xs : List X) (i : ℕ) (x y : X) → At xs i x → At xs i y → x ≡ y
  at_same [] i x y h g = absurd h
  at_same (z ∷ zs) zero x y h g = sym h ∙ g
  at_same (z ∷ zs) (suc i) x y h g = at_same zs i x y h g

  pub in_old : (xs : List X) (y x : X) → In xs x → In (xs ++ (y ∷ [])) x
  in_old xs y x h = (h.0, at_old xs y h.0 x h.1)

  pub in_split : (xs : List X) (y x : X) → In (xs ++ (y ∷ [])) x → In xs x ⊎ (y ≡ x)
  in_split xs y x h = ⊎_elim (λ a. inl (h.0, a)) (λ b. inr b.1) (at_split xs y h.0 x h.1)

-- what comes new stands at the end, and nowhere else
pub newest : {X : Type 0} (xs : List X) (y : X) (i : ℕ) → i ≡ length xs → (In xs y → ⊥) → At (xs ++ (y ∷ [])) i y × ((j : ℕ) → At (xs ++ (y ∷ [])) j y → j ≡ i)
newest xs y i e new = (subst (λ k. At (xs ++ (y ∷ [])) k y) (sym e) (at_new xs y), λ j h. ⊎_elim (λ old. absurd (new (j, old))) (λ b. b.0 ∙ sym e) (at_split xs y j y h))

pub vector_none : VectorOf [] 0
vector_none = record { fits = omega arith; there = λ k h. absurd h.1; only = λ k h. absurd (both_ways (in_vector 0 k) (in_none k) h) }

-- a vector and one task more
in_with : (v p : ℕ) → p < 64 → in_vector (bit_or v (2 ^ p)) ≡ with p (in_vector v)
in_with v p low = ap (λ b. in_vector (bit_or v b)) (sym (shifted_is 64 p low)) ∙ code_with v p low

-- one task more
pub vector_more : (v : ℕ) (ps : List ℕ) (p : ℕ) → p < 64 → VectorOf ps v → VectorOf (ps ++ (p ∷ [])) (bit_or v (2 ^ p))
vector_more v ps p low f =
    let is : (k : ℕ) → in_vector (bit_or v (2 ^ p)) k ≡ (eqb k p || in_vector v k) = λ k. ap (λ (m : ℕ → Bool). m k) (in_with v p low) in
    record {
      fits = or_lt 64 v (2 ^ p) f.fits (pow-lt low);
      there = λ k i. is k ∙ ⊎_elim (λ old. or_right (eqb k p) (in_vector v k) (f.there k old)) (λ e. or_left (eqb k p) (in_vector v k) (eq-eqb k p (sym e))) (in_split ps p k i);
      only = λ k y. ⊎_elim
          (λ e. (length ps, subst (λ n. At (ps ++ (p ∷ [])) (length ps) n) (sym (eqb-true k p e)) (at_new ps p)))
          (λ old. in_old ps p k (f.only k old))
          (or_cases (eqb k p) (in_vector v k) (sym (is k) ∙ y));
    }

pub taken_out : (v : ℕ) (ps : List ℕ) (k : ℕ) → VectorOf ps v → in_vector v k ≡ false → In ps k → ⊥
taken_out v ps k f h i = both_ways (in_vector v k) h (f.there k i)

bit_like : (a b k : ℕ) → k < 64 → (in_vector a k ≡ true → in_vector b k ≡ true) → (in_vector b k ≡ true → in_vector a k ≡ true) → bit a k ≡ bit b k
bit_like a b k l f g =
    ⊎_elim
    (λ (y : in_vector a k ≡ true). let z = f y in grind (arith, nat_tests))
    (λ (n : in_vector a k ≡ false). ⊎_elim
    (λ (y : in_vector b k ≡ true). absurd (both_ways (in_vector a k) n (g y)))
    (λ (m : in_vector b k ≡ false). grind (arith, nat_tests))
    (cases_Bool (in_vector b k)))
    (cases_Bool (in_vector a k))

-- a vector is known by its tasks
pub vector_same : (ps : List ℕ) (a b : ℕ) → VectorOf ps a → VectorOf ps b → a ≡ b
vector_same ps a b f g = same_from_bits_below 64 a b f.fits g.fits (λ k l. bit_like a b k l (λ y. g.there k (f.only k y)) (λ y. f.there k (g.only k y)))
