-- The highest of two sets, the second above the first.
use Rattle.std.proofs.Common.{◌≡◌, ℕ, zero, suc, ◌+◌, ◌-◌, ◌<◌, ◌≤◌, Bool, true, false, cond, ltb, leb, Some, None, refl, ap, ◌∙◌, add-zero, add-suc, arith}
use Rattle.std.proofs.lemmas.Bool.{leb-true, lt-ltb, le-ltb, le-leb, cond-true, cond-false}
use Rattle.vectors.specs.Vectors.{highest}
use Rattle.vectors.proofs.Vectors.{highest_tells, highest_is, highest_empties, none_above}
use Rattle.sets.specs.Pairs.{pair_room, pair_holds}

highest_same : (n : ℕ) (m m' : ℕ → Bool) → ((k : ℕ) → k < n → m k ≡ m' k) → highest n m ≡ highest n m'
unfolding highest
highest_same zero m m' h = refl
highest_same (suc n) m m' h = let e = h n (omega arith) in let r = highest_same n m m' (λ k l. h k (omega arith)) in cc

highest_skip : (a n : ℕ) (m : ℕ → Bool) → ((k : ℕ) → a ≤ k → k < a + n → m k ≡ false) → highest (a + n) m ≡ highest a m
unfolding highest
highest_skip a zero m h = ap (λ k. highest k m) (add-zero a)
highest_skip a (suc n) m h = ap (λ k. highest k m) (add-suc a n) ∙ cond-false (m (a + n)) (Some (a + n)) (highest (a + n) m) (h (a + n) (omega arith) (omega arith)) ∙ highest_skip a n m (λ k l u. h k l (omega arith))

pub joint : (a b k : ℕ) → Some k ≡ cond (leb (a + b) 64) (Some a) None → (a + b ≤ 64) × (k ≡ a)
joint a b k e = go (leb (a + b) 64) refl e
  where
    go : (t : Bool) → leb (a + b) 64 ≡ t → Some k ≡ cond t (Some a) None → (a + b ≤ 64) × (k ≡ a)
    go true is h = (leb-true (a + b) 64 is, grind arith)
    go false is h = absurd (grind arith)

module _ (a b : ℕ) (f g : ℕ → Bool) (fits : a + b ≤ 64) where
  low : (k : ℕ) → k < a → pair_holds a b f g k ≡ f k
  low k l = cond-true (leb (a + b) 64) (cond (ltb k a) (f k) (g (k - a))) (f k) (le-leb (a + b) 64 fits) ∙ cond-true (ltb k a) (f k) (g (k - a)) (lt-ltb k a l)

  high : (k : ℕ) → a ≤ k → pair_holds a b f g k ≡ g (k - a)
  high k l = cond-true (leb (a + b) 64) (cond (ltb k a) (f k) (g (k - a))) (f k) (le-leb (a + b) 64 fits) ∙ cond-false (ltb k a) (f k) (g (k - a)) (le-ltb k a l)

  wide : pair_room a b ≡ a + b
  wide = cond-true (leb (a + b) 64) (a + b) a (le-leb (a + b) 64 fits)

  pub highest_second : (x : ℕ) → highest b g ≡ Some x → highest (pair_room a b) (pair_holds a b f g) ≡ Some (a + x)
  highest_second x e =
      let t = highest_tells b x g e in
      ap (λ n. highest n (pair_holds a b f g)) wide
      ∙ highest_is (a + b) (a + x) (pair_holds a b f g) (omega (arith, t.0)) (high (a + x) (omega arith) ∙ ap g (omega arith) ∙ t.1)
      (λ k l u. high k (omega arith) ∙ none_above b x g e (k - a) (omega arith) (omega arith))

  pub highest_first : highest b g ≡ None → highest (pair_room a b) (pair_holds a b f g) ≡ highest a f
  highest_first e =
      ap (λ n. highest n (pair_holds a b f g)) wide
      ∙ highest_skip a b (pair_holds a b f g) (λ k l u. high k l ∙ highest_empties b g e (k - a) (omega arith))
      ∙ highest_same a (pair_holds a b f g) f low
