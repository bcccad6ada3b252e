-- The greatest member of a set, strays, and the vector of one task.
use Rattle.std.proofs.Common.{◌≡◌, ℕ, zero, suc, ◌^◌, ◌<◌, ◌≤◌, Bool, true, false, not, ◌&&◌, eqb, ltb, Some, refl, ⊎_elim, arith}
use Rattle.std.proofs.lemmas.Bool.{both_ways, not-true, eqb-true, lt-ltb, eq-eqb, and_parts, or_from, and_from, cases_eq, false_from_ne_true}
use Rattle.vectors.specs.Vectors.{in_vector, highest, some, strays}
use Rattle.vectors.proofs.Bits.{bit, bit_one, bit_apart}
use Rattle.vectors.proofs.Vectors.{Greatest, highest_is}

-- the greatest member below n

pub greatest_is : (n : ℕ) (m : ℕ → Bool) (w : ℕ) → Greatest n m w → highest n m ≡ Some w
greatest_is n m w g = highest_is n w m g.within g.member (λ k a b. false_from_ne_true (m k) (λ e. let z : k ≤ w = g.top k b e in omega arith))

-- every task of v passes the test

all_below : (n : ℕ) (m : ℕ → Bool) → ((k : ℕ) → m k ≡ false) → some n m ≡ false
unfolding some
all_below zero m h = refl
all_below (suc n) m h = or_from (m n) (some n m) (h n) (all_below n m h)

pub all_pass : (v : ℕ) (ok : ℕ → Bool) → ((t : ℕ) → in_vector v t ≡ true → ok t ≡ true) → strays v ok ≡ false
all_pass v ok h = all_below 64 (λ k. in_vector v k && not (ok k)) (λ k. false_from_ne_true (in_vector v k && not (ok k)) (λ e. let q = and_parts (in_vector v k) (not (ok k)) e in both_ways (ok k) (not-true (ok k) q.1) (h k q.0)))

-- the vector of one task

pub own_bit : (l : ℕ) → l < 64 → in_vector (2 ^ l) l ≡ true
own_bit l h = and_from (ltb l 64) (eqb (bit (2 ^ l) l) 1) (lt-ltb l 64 h) (eq-eqb (bit (2 ^ l) l) 1 (bit_one l))

pub one_bit : (l t : ℕ) → in_vector (2 ^ l) t ≡ true → t ≡ l
one_bit l t e =
    let q : bit (2 ^ l) t ≡ 1 = eqb-true (bit (2 ^ l) t) 1 (and_parts (ltb t 64) (eqb (bit (2 ^ l) t) 1) e).1 in
    ⊎_elim (λ (z : t ≡ l). z) (λ (ne : t ≡ l → ⊥). let y : bit (2 ^ l) t ≡ 0 = bit_apart l t ne in absurd (omega arith)) (cases_eq t l)
