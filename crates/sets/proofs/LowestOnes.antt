-- The table of the lowest 1s: its rule at each entry, and what the rule says.
use Rattle.std.proofs.Common.{◌≡◌, ℕ, zero, suc, ◌/◌, ◌%◌, ◌<◌, true, false, eqb, List, [], ◌∷◌, map, get_or, sym, refl, ap, ◌∙◌, subst, ⊎_elim, arith}
use lib.Count.{count_trailing_zeros, under}
use Rattle.std.specs.Int.{w8, trailing_zeros}
use Rattle.std.proofs.lemmas.Nat.Bits.{bit_at-trailing_zeros}
use Rattle.std.specs.List.{range_with_len}
use Rattle.std.proofs.lemmas.List.FromFn.{get_or-map-range_with_len}
use Rattle.std.proofs.lemmas.Bool.{cases_eq, eq-eqb, ne_eqb, cond-true, cond-false}
use Rattle.vectors.specs.Vectors.{on}
use Rattle.vectors.proofs.Bits.{bit, bit_first}
use Rattle.sets.specs.Lowest.{zeros_below, lowest_place}

-- the table of the code
unfoldable pub places : List ℕ
places = 0 ∷ 0 ∷ 1 ∷ 0 ∷ 2 ∷ 0 ∷ 1 ∷ 0 ∷ 3 ∷ 0 ∷ 1 ∷ 0 ∷ 2 ∷ 0 ∷ 1 ∷ 0 ∷ 4 ∷ 0 ∷ 1 ∷ 0 ∷ 2 ∷ 0 ∷ 1 ∷ 0 ∷ 3 ∷ 0 ∷ 1 ∷ 0 ∷ 2 ∷ 0 ∷ 1 ∷ 0 ∷ 5 ∷ 0 ∷ 1 ∷ 0 ∷ 2 ∷ 0 ∷ 1 ∷ 0 ∷ 3 ∷ 0 ∷ 1 ∷ 0 ∷ 2 ∷ 0 ∷ 1 ∷ 0 ∷ 4 ∷ 0 ∷ 1 ∷ 0 ∷ 2 ∷ 0 ∷ 1 ∷ 0 ∷ 3 ∷ 0 ∷ 1 ∷ 0 ∷ 2 ∷ 0 ∷ 1 ∷ 0 ∷ 6 ∷ 0 ∷ 1 ∷ 0 ∷ 2 ∷ 0 ∷ 1 ∷ 0 ∷ 3 ∷ 0 ∷ 1 ∷ 0 ∷ 2 ∷ 0 ∷ 1 ∷ 0 ∷ 4 ∷ 0 ∷ 1 ∷ 0 ∷ 2 ∷ 0 ∷ 1 ∷ 0 ∷ 3 ∷ 0 ∷ 1 ∷ 0 ∷ 2 ∷ 0 ∷ 1 ∷ 0 ∷ 5 ∷ 0 ∷ 1 ∷ 0 ∷ 2 ∷ 0 ∷ 1 ∷ 0 ∷ 3 ∷ 0 ∷ 1 ∷ 0 ∷ 2 ∷ 0 ∷ 1 ∷ 0 ∷ 4 ∷ 0 ∷ 1 ∷ 0 ∷ 2 ∷ 0 ∷ 1 ∷ 0 ∷ 3 ∷ 0 ∷ 1 ∷ 0 ∷ 2 ∷ 0 ∷ 1 ∷ 0 ∷ 7 ∷ 0 ∷ 1 ∷ 0 ∷ 2 ∷ 0 ∷ 1 ∷ 0 ∷ 3 ∷ 0 ∷ 1 ∷ 0 ∷ 2 ∷ 0 ∷ 1 ∷ 0 ∷ 4 ∷ 0 ∷ 1 ∷ 0 ∷ 2 ∷ 0 ∷ 1 ∷ 0 ∷ 3 ∷ 0 ∷ 1 ∷ 0 ∷ 2 ∷ 0 ∷ 1 ∷ 0 ∷ 5 ∷ 0 ∷ 1 ∷ 0 ∷ 2 ∷ 0 ∷ 1 ∷ 0 ∷ 3 ∷ 0 ∷ 1 ∷ 0 ∷ 2 ∷ 0 ∷ 1 ∷ 0 ∷ 4 ∷ 0 ∷ 1 ∷ 0 ∷ 2 ∷ 0 ∷ 1 ∷ 0 ∷ 3 ∷ 0 ∷ 1 ∷ 0 ∷ 2 ∷ 0 ∷ 1 ∷ 0 ∷ 6 ∷ 0 ∷ 1 ∷ 0 ∷ 2 ∷ 0 ∷ 1 ∷ 0 ∷ 3 ∷ 0 ∷ 1 ∷ 0 ∷ 2 ∷ 0 ∷ 1 ∷ 0 ∷ 4 ∷ 0 ∷ 1 ∷ 0 ∷ 2 ∷ 0 ∷ 1 ∷ 0 ∷ 3 ∷ 0 ∷ 1 ∷ 0 ∷ 2 ∷ 0 ∷ 1 ∷ 0 ∷ 5 ∷ 0 ∷ 1 ∷ 0 ∷ 2 ∷ 0 ∷ 1 ∷ 0 ∷ 3 ∷ 0 ∷ 1 ∷ 0 ∷ 2 ∷ 0 ∷ 1 ∷ 0 ∷ 4 ∷ 0 ∷ 1 ∷ 0 ∷ 2 ∷ 0 ∷ 1 ∷ 0 ∷ 3 ∷ 0 ∷ 1 ∷ 0 ∷ 2 ∷ 0 ∷ 1 ∷ 0 ∷ []

-- by computation it is the list of the lowest places, so each entry has the rule
pub entry_is : (n : ℕ) → n < 256 → get_or places n 0 ≡ lowest_place n
unfolding places lowest_place
entry_is n h =
    let all : places ≡ map lowest_place (range_with_len 0 256) = refl in
    ap (λ xs. get_or xs n 0) all ∙ get_or-map-range_with_len lowest_place 0 256 n n 0 h (omega arith)

-- the rule counts the 0s below the lowest 1 as std does
zeros_are : (k n : ℕ) → zeros_below k n ≡ count_trailing_zeros k n
unfolding count_trailing_zeros
zeros_are zero n = refl
zeros_are (suc k) n =
    let rest = count_trailing_zeros k (n / 2) in
    ⊎_elim
    (λ (e : n % 2 ≡ 0).
    let off : on n 0 ≡ false = ne_eqb (bit n 0) 1 (omega (arith, bit_first n)) in
    cond-false (on n 0) 0 (suc (zeros_below k (n / 2))) off ∙ ap suc (zeros_are k (n / 2)) ∙ sym (ap (λ d. under d rest) e))
    (λ (ne : n % 2 ≡ 0 → ⊥).
    let one : n % 2 ≡ 1 = omega (arith, ne) in
    cond-true (on n 0) 0 (suc (zeros_below k (n / 2))) (eq-eqb (bit n 0) 1 (bit_first n ∙ one)) ∙ sym (ap (λ d. under d rest) one))
    (cases_eq (n % 2) 0)

-- r is a place of the byte n that has a 1, and below it there is none
pub record Lowest (n r : ℕ) : Type 0 where
  pub small : r < 8
  pub there : on n r ≡ true
  pub first : (k : ℕ) → k < r → bit n k ≡ 0

pub lowest_holds : (n : ℕ) → 0 < n → n < 256 → Lowest n (lowest_place n)
unfolding lowest_place
lowest_holds n p h =
    let z = bit_at-trailing_zeros w8 n p h in
    let is : lowest_place n ≡ trailing_zeros w8 n = cond-false (eqb n 0) 0 (zeros_below 8 n) (ne_eqb n 0 (omega arith)) ∙ zeros_are 8 n in
    subst (Lowest n) (sym is) (record { small = z.0; there = eq-eqb (bit n (trailing_zeros w8 n)) 1 z.1; first = z.2 })

pub lowest_small : (n : ℕ) → n < 256 → lowest_place n < 8
unfolding lowest_place
lowest_small n h = ⊎_elim (λ (z : n ≡ 0). subst (λ (k : ℕ). lowest_place k < 8) (sym z) (omega arith)) (λ (ne : n ≡ 0 → ⊥). (lowest_holds n (omega arith) h).small) (cases_eq n 0)
