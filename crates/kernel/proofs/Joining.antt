-- The tasks of a vector put into the waiting set one after the other, and the set read back place by place.
use Rattle.std.proofs.Common.{◌≡◌, ℕ, ◌+◌, ◌<◌, ◌≤◌, Bool, true, false, cond, not, ◌&&◌, ◌||◌, eqb, ltb, sym, refl, ap, ◌∙◌, ⊎_elim, arith}
use mathlib.Core.Path.{fun_ext}
use Rattle.std.proofs.lemmas.Bool.{cases_eq, cases_lt, cases_Bool, lt-ltb, le-ltb, eq-eqb, ne_eqb, false≢true, and_from, or_left, or_right, not_from_false, cond-true, cond-false}
use Rattle.vectors.specs.Vectors.{with, without}
use Rattle.kernel.specs.Parts.{below}
use Rattle.vectors.proofs.Bits.{and_false, or_false}

-- the waiting tasks after those of v below c are added, but for those of the chain
abbrev pub joined : ℕ → (ℕ → Bool) → (ℕ → Bool) → (ℕ → Bool) → ℕ → Bool
joined c v old chained t = old t || (ltb t c && (v t && not (chained t)))

and_drop : (a b : Bool) → (b ≡ true → a ≡ true) → (a && b) ≡ b
and_drop true b h = refl
and_drop false true h = h refl
and_drop false false h = refl

-- one more number changes nothing where its part says no
past : (i k : ℕ) (x : Bool) → (k ≡ i → x ≡ false) → (ltb k (i + 1) && x) ≡ (ltb k i && x)
past i k true h = let ne : k ≡ i → ⊥ = λ q. false≢true (sym (h q)) in ⊎_elim
    (λ (l : k < i). ap (λ b. b && true) (lt-ltb k (i + 1) (omega arith) ∙ sym (lt-ltb k i l)))
    (λ (l : i ≤ k). ap (λ b. b && true) (le-ltb k (i + 1) (omega (arith, ne)) ∙ sym (le-ltb k i l)))
    (cases_lt k i)
past i k false h = and_false (ltb k (i + 1)) ∙ sym (and_false (ltb k i))

-- a task that has started is passed by
pub passed : (t c : ℕ) (rest old chained : ℕ → Bool) → chained t ≡ true → joined c (without t rest) old chained ≡ joined c rest old chained
passed t c rest old chained y = fun_ext (λ k. ⊎_elim
    (λ (q : k ≡ t).
    ap (λ b. old k || (ltb k c && ((not b && rest k) && not (chained k)))) (eq-eqb k t q)
    ∙ sym (ap (λ b. old k || (ltb k c && (rest k && not b))) (ap chained q ∙ y) ∙ ap (λ b. old k || (ltb k c && b)) (and_false (rest k))))
    (λ (ne : k ≡ t → ⊥). ap (λ b. old k || (ltb k c && ((not b && rest k) && not (chained k)))) (ne_eqb k t ne))
    (cases_eq k t))

-- another is put where there is room
pub put_in : (t c : ℕ) (rest old chained : ℕ → Bool) → rest t ≡ true → chained t ≡ false → joined c (without t rest) (cond (ltb t c) (with t old) old) chained ≡ joined c rest old chained
put_in t c rest old chained y n = ⊎_elim
    (λ (r : ltb t c ≡ true). ap (λ f. joined c (without t rest) f chained) (cond-true (ltb t c) (with t old) old r) ∙ fun_ext (λ k. ⊎_elim
    (λ (q : k ≡ t).
    ap (λ b. (b || old k) || (ltb k c && (without t rest k && not (chained k)))) (eq-eqb k t q)
    ∙ sym (or_right (old k) _ (and_from (ltb k c) _ (ap (λ j. ltb j c) q ∙ r) (and_from (rest k) (not (chained k)) (ap rest q ∙ y) (not_from_false (chained k) (ap chained q ∙ n))))))
    (λ (ne : k ≡ t → ⊥). ap (λ b. (b || old k) || (ltb k c && ((not b && rest k) && not (chained k)))) (ne_eqb k t ne))
    (cases_eq k t)))
    (λ (r : ltb t c ≡ false). ap (λ f. joined c (without t rest) f chained) (cond-false (ltb t c) (with t old) old r) ∙ fun_ext (λ k. ⊎_elim
    (λ (q : k ≡ t).
    let f : ltb k c ≡ false = ap (λ j. ltb j c) q ∙ r in
    ap (λ b. old k || (b && (without t rest k && not (chained k)))) f ∙ sym (ap (λ b. old k || (b && (rest k && not (chained k)))) f))
    (λ (ne : k ≡ t → ⊥). ap (λ b. old k || (ltb k c && ((not b && rest k) && not (chained k)))) (ne_eqb k t ne))
    (cases_eq k t)))
    (cases_Bool (ltb t c))

-- nothing is left
pub all_there : (c : ℕ) (rest old chained : ℕ → Bool) → ((k : ℕ) → rest k ≡ false) → old ≡ joined c rest old chained
all_there c rest old chained h = fun_ext (λ k. sym (or_false (old k)) ∙ sym (ap (λ b. old k || (ltb k c && (b && not (chained k)))) (h k) ∙ ap (λ b. old k || b) (and_false (ltb k c))))

pub below_put : (i : ℕ) (m : ℕ → Bool) → m i ≡ true → with i (below i m) ≡ below (i + 1) m
below_put i m y = fun_ext (λ k. ⊎_elim
    (λ (q : k ≡ i). or_left (eqb k i) (below i m k) (eq-eqb k i q) ∙ sym (and_from (ltb k (i + 1)) (m k) (lt-ltb k (i + 1) (omega arith)) (ap m q ∙ y)))
    (λ (ne : k ≡ i → ⊥). ap (λ b. b || below i m k) (ne_eqb k i ne) ∙ sym (past i k (m k) (λ q. absurd (ne q))))
    (cases_eq k i))

pub below_skip : (i : ℕ) (m : ℕ → Bool) → m i ≡ false → below i m ≡ below (i + 1) m
below_skip i m f = fun_ext (λ k. sym (past i k (m k) (λ q. ap m q ∙ f)))

pub below_all : (c : ℕ) (m : ℕ → Bool) → c ≤ 64 → ((t : ℕ) → m t ≡ true → t < c) → below 64 m ≡ m
below_all c m h ins = fun_ext (λ k. and_drop (ltb k 64) (m k) (λ e. lt-ltb k 64 (omega (arith, ins k e))))
