-- Task vectors in code: one bit set, one bit cleared, the highest.
use Rattle.std.proofs.Common.{◌≡◌, ℕ, zero, suc, ◌+◌, ◌-◌, ◌*◌, ◌/◌, ◌%◌, ◌^◌, ◌<◌, ◌≤◌, min, Bool, true, false, cond, not, ◌&&◌, ◌||◌, eqb, ltb, Some, None, Option, sym, refl, ap, ◌∙◌, subst, ⊎_elim, mod-lt, arith, pow_pos, pow_mono, shr_lt}
use mathlib.Core.Path.{fun_ext}
use lib.Bits.{bit_and, bit_or, or_lt, and_le_l}
use lib.Count.{leading_top}
use lib.Pow.{pow-lt, split}
use Rattle.std.proofs.lemmas.Bool.{cases_eq, cases_lt, lt-ltb, le-ltb, eq-eqb, ne_eqb, and_parts, ltb-true, eqb-true, eqb-false, cases_Bool, cases_order, both_ways, cond-true, cond-false, or_parts, or_from, not-false, not-true, or_cases, false≢true}
use Rattle.std.proofs.lemmas.Bool.Decides.{nat_tests}
use Rattle.std.proofs.lemmas.Option.{same_Some}
use Rattle.vectors.specs.Vectors.{on, in_vector, vector_of, with, without, highest, some, strays}
use Rattle.std.specs.Int.{w64, bit_not}
use Rattle.std.proofs.lemmas.Nat.Bits.{bit_at_and, bit_at_not, same_from_bits_below}
use Rattle.vectors.proofs.Bits.{bit, bit_mod, bit_zero, bit_above, bit_top, on_or, shifted, shifted_is, switch_on, switch_off_low}

-- a change of one number in a set of numbers below n: f says what becomes of it, by whether a number is t and whether it was there
pub changed_below : (n t : ℕ) (f : Bool → Bool → Bool) (a b : ℕ → Bool) → ((o : Bool) → f false o ≡ o) → t < n
    → ((k : ℕ) → k < n → a k ≡ f (eqb k t) (b k)) → ◌≡◌ {A = ℕ → Bool} (λ k. ltb k n && a k) (λ k. f (eqb k t) (ltb k n && b k))
changed_below n t f a b none h e = fun_ext (λ k. ⊎_elim
    (λ (l : k < n). ap (λ x. x && a k) (lt-ltb k n l) ∙ e k l ∙ ap (λ x. f (eqb k t) (x && b k)) (sym (lt-ltb k n l)))
    (λ (l : n ≤ k).
    ap (λ x. x && a k) (le-ltb k n l)
    ∙ sym (ap (λ x. f (eqb k t) (x && b k)) (le-ltb k n l) ∙ ap (λ x. f x false) (ne_eqb k t (omega arith)) ∙ none false))
    (cases_lt k n))

pub in_none : (t : ℕ) → in_vector 0 t ≡ false
in_none t = let e = bit_zero t in grind (arith, nat_tests)

pub in_below : (v c t : ℕ) → v < 2 ^ c → in_vector v t ≡ true → t < c
in_below v c t h e = ⊎_elim (λ l. l) (λ l. let z = bit_above v c t h l in grind (arith, nat_tests)) (cases_lt t c)

-- the highest, by the tests
pub highest_none : (n : ℕ) (m : ℕ → Bool) → ((k : ℕ) → k < n → m k ≡ false) → highest n m ≡ None
unfolding highest
highest_none zero m h = refl
highest_none (suc n) m h = cond-false (m n) (Some n) (highest n m) (h n (omega arith)) ∙ highest_none n m (λ k l. h k (omega arith))

pub highest_is : (n j : ℕ) (m : ℕ → Bool) → j < n → m j ≡ true → ((k : ℕ) → j < k → k < n → m k ≡ false) → highest n m ≡ Some j
unfolding highest
highest_is zero j m l e h = absurd (omega arith)
highest_is (suc n) j m l e h = ⊎_elim
    (λ (q : j ≡ n). subst (λ (x : ℕ). highest (suc n) m ≡ Some x) (sym q) (cond-true (m n) (Some n) (highest n m) (subst (λ (x : ℕ). m x ≡ true) q e)))
    (λ ne. cond-false (m n) (Some n) (highest n m) (h n (omega arith) (omega arith)) ∙ highest_is n j m (omega arith) e (λ k a b. h k a (omega arith)))
    (cases_eq j n)

pub highest_empty : (c : ℕ) → highest c (in_vector 0) ≡ None
highest_empty c = highest_none c (in_vector 0) (λ k l. in_none k)

-- the greatest power of 2 that is not above a vector of c bits shows its highest task
pub highest_power : (v c j : ℕ) → v < 2 ^ c → c ≤ 64 → 2 ^ j ≤ v → v < 2 ^ suc j → highest c (in_vector v) ≡ Some j
highest_power v c j h s low up =
    let big : v < 2 ^ 64 = omega (arith, pow_mono s) in
    let one : bit v j ≡ 1 = bit_top v j low up in
    let small : j < 64 = ⊎_elim (λ (l : j < 64). l) (λ (l : 64 ≤ j). absurd (omega (arith, pow_mono l))) (cases_lt j 64) in
    let here : in_vector v j ≡ true = grind (arith, nat_tests) in
    highest_is c j (in_vector v) (in_below v c j h here) here (λ k a b. let z : bit v k ≡ 0 = bit_above v (suc j) k up a in grind (arith, nat_tests))

-- `word | (1 << t)` and `word & !(1 << t)`

pub code_with : (v t : ℕ) → t < 64 → in_vector (bit_or v (shifted 64 t)) ≡ with t (in_vector v)
code_with v t h = changed_below 64 t (λ e o. e || o) (on (bit_or v (shifted 64 t))) (on v) (λ o. refl) h (λ k l. switch_on 64 v t k h)

pub code_without : (v t : ℕ) → t < 64 → in_vector (bit_and v (bit_not w64 (shifted 64 t))) ≡ without t (in_vector v)
code_without v t h = changed_below 64 t (λ e o. not e && o) (on (bit_and v (bit_not w64 (shifted 64 t)))) (on v) (λ o. refl) h (λ k l. switch_off_low 64 v t k h l)

pub with_below : (v t c : ℕ) → t < c → c ≤ 64 → v < 2 ^ c → bit_or v (shifted 64 t) < 2 ^ c
with_below v t c h s l = rw (shifted_is 64 t (omega arith)) (or_lt c v (2 ^ t) l (pow-lt h))

-- what is not there is not taken
pub without_none : (t : ℕ) (m : ℕ → Bool) → m t ≡ false → m ≡ without t m
without_none t m e = fun_ext (λ k. ⊎_elim
    (λ (q : k ≡ t). let z : m k ≡ false = subst (λ (x : ℕ). m x ≡ false) (sym q) e in grind (arith, nat_tests))
    (λ ne. grind (arith, nat_tests))
    (cases_eq k t))

pub in_past : (v c t : ℕ) → v < 2 ^ c → c ≤ t → in_vector v t ≡ false
in_past v c t h l = let z = bit_above v c t h l in grind (arith, nat_tests)

-- v has a task that w lacks
module _ (v w : ℕ) (big : v < 2 ^ 64) (wide : w < 2 ^ 64) where
  abbrev lacks : ℕ → Bool
  lacks t = in_vector v t && not (in_vector w t)

  rest_bit : (k : ℕ) → k < 64 → bit (bit_and v (bit_not w64 w)) k ≡ min (bit v k) (1 - bit w k)
  rest_bit k h = bit_at_and v (bit_not w64 w) k ∙ ap (min (bit v k)) (bit_at_not w64 w k wide h)

  rest_false : (n : ℕ) → n ≤ 64 → some n lacks ≡ false → (k : ℕ) → k < n → bit (bit_and v (bit_not w64 w)) k ≡ 0
  unfolding some
  rest_false zero l e k h = absurd (omega arith)
  rest_false (suc n) l e k h =
      let p = or_parts (lacks n) (some n lacks) e in
      ⊎_elim
      (λ (q : k ≡ n). let b = rest_bit k (omega arith) in let z = p.0 in let a : in_vector v k && not (in_vector w k) ≡ false = subst (λ (x : ℕ). in_vector v x && not (in_vector w x) ≡ false) (sym q) z in grind (arith, nat_tests))
      (λ ne. rest_false n (omega arith) p.1 k (omega arith))
      (cases_eq k n)

  rest_true : (n : ℕ) → n ≤ 64 → bit_and v (bit_not w64 w) ≡ 0 → some n lacks ≡ false
  unfolding some
  rest_true zero l e = refl
  rest_true (suc n) l e =
      let b = rest_bit n (omega arith) in
      let z : bit (bit_and v (bit_not w64 w)) n ≡ 0 = ap (λ x. bit x n) e ∙ bit_zero n in
      or_from (in_vector v n && not (in_vector w n)) (some n lacks) (grind (arith, nat_tests)) (rest_true n (omega arith) e)

pub strays_is : (v w : ℕ) → v < 2 ^ 64 → w < 2 ^ 64 → not (eqb (bit_and v (bit_not w64 w)) 0) ≡ strays v (in_vector w)
strays_is v w big wide = ⊎_elim
    (λ (e : bit_and v (bit_not w64 w) ≡ 0). let f = rest_true v w big wide 64 (omega arith) e in grind (arith, nat_tests))
    (λ ne. ⊎_elim
    (λ (t : strays v (in_vector w) ≡ true). grind (arith, nat_tests))
    (λ (f : strays v (in_vector w) ≡ false). absurd (ne (same_from_bits_below 64 (bit_and v (bit_not w64 w)) 0 (omega (arith, and_le_l v (bit_not w64 w))) (omega arith) (λ k l. rest_false v w big wide 64 (omega arith) f k l ∙ sym (bit_zero k)))))
    (cases_Bool (strays v (in_vector w))))
    (cases_eq (bit_and v (bit_not w64 w)) 0)

-- the greatest member below n
pub record Greatest (n : ℕ) (m : ℕ → Bool) (w : ℕ) : Type 0 where
  pub member : m w ≡ true
  pub within : w < n
  pub top : (k : ℕ) → k < n → m k ≡ true → k ≤ w

pub highest_some : (n : ℕ) (m : ℕ → Bool) (w : ℕ) → highest n m ≡ Some w → Greatest n m w
unfolding highest
highest_some zero m w e = absurd (let z : ◌≡◌ {A = ℕ} 0 1 = cc in omega arith)
highest_some (suc n) m w e = go (highest_some n m w) (m n) refl e
  where
    go : (highest n m ≡ Some w → Greatest n m w) → (b : Bool) → m n ≡ b → cond b (Some n) (highest n m) ≡ Some w → Greatest (suc n) m w
    go ih true q f =
        let x : n ≡ w = same_Some n w f in
        record { member = subst (λ (k : ℕ). m k ≡ true) x q; within = omega arith; top = λ k h _. omega arith }
    go ih false q f =
        let g = ih f in
        record {
          member = g.member;
          within = omega arith;
          top = λ k h e.
              ⊎_elim (λ (z : k ≡ n). absurd (both_ways (m n) q (subst (λ (i : ℕ). m i ≡ true) z e)))
              (⊎_elim (λ (z : k < n). g.top k z e) (λ (z : n < k). omega arith)) (cases_order k n);
        }

-- what is highest is a member and below the bound, and nothing above it is a member
pub highest_tells : (n w : ℕ) (m : ℕ → Bool) → highest n m ≡ Some w → (w < n) × (m w ≡ true)
highest_tells n w m e = let g = highest_some n m w e in (g.within, g.member)

pub none_above : (n x : ℕ) (m : ℕ → Bool) → highest n m ≡ Some x → (k : ℕ) → x < k → k < n → m k ≡ false
none_above n x m e k a l = ⊎_elim (λ (y : m k ≡ true). absurd (omega (arith, (highest_some n m x e).top k l y))) (λ (f : m k ≡ false). f) (cases_Bool (m k))

pub in_or : (a b k : ℕ) → in_vector (bit_or a b) k ≡ (in_vector b k || in_vector a k)
in_or a b k = let e = on_or a b k in grind (arith, nat_tests)

ok_from : (x y : Bool) → x ≡ true → (x && not y) ≡ false → y ≡ true
ok_from true y e f = not-false y f
ok_from false y e f = absurd (false≢true e)

pub in_small : (v t : ℕ) → in_vector v t ≡ true → t < 64
in_small v t e = ltb-true t 64 (and_parts (ltb t 64) (on v t) e).0

none_some : (n : ℕ) (m : ℕ → Bool) → some n m ≡ false → (t : ℕ) → t < n → m t ≡ false
unfolding some
none_some zero m e t l = absurd (omega arith)
none_some (suc n) m e t l =
    let p = or_parts (m n) (some n m) e in
    ⊎_elim (λ (q : t ≡ n). ap m q ∙ p.0) (λ ne. none_some n m p.1 t (omega arith)) (cases_eq t n)

-- where none strays, each passes
pub none_strays : (v : ℕ) (ok : ℕ → Bool) → strays v ok ≡ false → (t : ℕ) → in_vector v t ≡ true → ok t ≡ true
none_strays v ok e t y = ok_from (in_vector v t) (ok t) y (none_some 64 (λ k. in_vector v k && not (ok k)) e t (in_small v t y))

pub highest_empties : (n : ℕ) (m : ℕ → Bool) → highest n m ≡ None → (k : ℕ) → k < n → m k ≡ false
unfolding highest
highest_empties zero m e k l = absurd (omega arith)
highest_empties (suc n) m e k l = ⊎_elim
    (λ (y : m n ≡ true). let z : ◌≡◌ {A = ℕ} 0 1 = (let s : ◌≡◌ {A = Option ℕ} (Some n) None = sym (cond-true (m n) (Some n) (highest n m) y) ∙ e in cc) in absurd (omega arith))
    (λ (f : m n ≡ false). ⊎_elim
    (λ (q : k ≡ n). ap m q ∙ f)
    (λ ne. highest_empties n m (sym (cond-false (m n) (Some n) (highest n m) f) ∙ e) k (omega arith))
    (cases_eq k n))
    (cases_Bool (m n))

-- a vector with no highest task has none
pub empty_vector : (v : ℕ) → highest 64 (in_vector v) ≡ None → (k : ℕ) → in_vector v k ≡ false
empty_vector v e k = ⊎_elim (λ (y : in_vector v k ≡ true). highest_empties 64 (in_vector v) e k (in_small v k y)) (λ f. f) (cases_Bool (in_vector v k))

-- a vector is less without one of its tasks
pub without_less : (v t : ℕ) → in_vector v t ≡ true → bit_and v (bit_not w64 (shifted 64 t)) < v
without_less v t y =
    let w = bit_and v (bit_not w64 (shifted 64 t)) in
    ⊎_elim
    (λ (q : w ≡ v).
    let e : in_vector w t ≡ without t (in_vector v) t = ap (λ (f : ℕ → Bool). f t) (code_without v t (in_small v t y)) in
    absurd (false≢true (sym (e ∙ ap (λ b. not b && in_vector v t) (eq-eqb t t refl)) ∙ ap (λ x. in_vector x t) q ∙ y)))
    (λ (ne : w ≡ v → ⊥). omega (arith, and_le_l v (bit_not w64 (shifted 64 t)), ne))
    (cases_eq w v)

some_one : (n : ℕ) (m : ℕ → Bool) → some n m ≡ true → (t : ℕ) × (m t ≡ true)
unfolding some
some_one zero m e = absurd (false≢true e)
some_one (suc n) m e = ⊎_elim (λ (z : m n ≡ true). (n, z)) (λ (z : some n m ≡ true). some_one n m z) (or_cases (m n) (some n m) e)

-- where one strays, it is in the vector and fails the test
pub one_strays : (v : ℕ) (ok : ℕ → Bool) → strays v ok ≡ true → (t : ℕ) × (in_vector v t ≡ true) × (ok t ≡ false)
one_strays v ok e =
    let x = some_one 64 (λ t. in_vector v t && not (ok t)) e in
    let p = and_parts (in_vector v x.0) (not (ok x.0)) x.1 in
    (x.0, p.0, not-true (ok x.0) p.1)

-- a number of n bits is the vector of the places where it has a 1
pub vector_is : (n v : ℕ) (m : ℕ → Bool) → v < 2 ^ n → ((k : ℕ) → k < n → on v k ≡ m k) → v ≡ vector_of n m
unfolding vector_of
vector_is zero v m h e = omega arith
vector_is (suc n) v m h e =
    let q : ℕ = v / 2 ^ n in
    let low : v % 2 ^ n ≡ vector_of n m = vector_is n (v % 2 ^ n) m (mod-lt v (pow_pos n)) (λ k l. ap (λ x. eqb x 1) (bit_mod v n k l) ∙ e k (omega arith)) in
    let whole : q * 2 ^ n + v % 2 ^ n ≡ v = split v n in
    let few : q < 2 = shr_lt 1 n (subst (λ (i : ℕ). v < 2 ^ i) (omega arith) h) in
    let top : on v n ≡ m n = e n (omega arith) in
    ⊎_elim
    (λ (y : m n ≡ true).
    let one : q % 2 ≡ 1 = eqb-true (q % 2) 1 (top ∙ y) in
    let is : q ≡ 1 = omega arith in
    sym whole ∙ ap (λ x. x * 2 ^ n + v % 2 ^ n) is ∙ omega (arith, low, cond-true (m n) (2 ^ n) 0 y))
    (λ (f : m n ≡ false).
    let no : q % 2 ≡ 1 → ⊥ = eqb-false (q % 2) 1 (top ∙ f) in
    let is : q ≡ 0 = omega (arith, no) in
    sym whole ∙ ap (λ x. x * 2 ^ n + v % 2 ^ n) is ∙ omega (arith, low, cond-false (m n) (2 ^ n) 0 f))
    (cases_Bool (m n))

-- the same of a vector of tasks
pub vector_tells : (v : ℕ) (m : ℕ → Bool) → v < 2 ^ 64 → in_vector v ≡ m → v ≡ vector_of 64 m
vector_tells v m h e = vector_is 64 v m h (λ k l. sym (ap (λ b. b && on v k) (lt-ltb k 64 l)) ∙ ap (λ (f : ℕ → Bool). f k) e)

-- a vector of c bits has its highest task below c
pub highest_fits : (v c : ℕ) → c ≤ 64 → v < 2 ^ c → highest c (in_vector v) ≡ highest 64 (in_vector v)
highest_fits v c s h = ⊎_elim
    (λ (z : v ≡ 0). ap (λ x. highest c (in_vector x)) z ∙ highest_empty c ∙ sym (ap (λ x. highest 64 (in_vector x)) z ∙ highest_empty 64))
    (λ (ne : v ≡ 0 → ⊥).
    let big : v < 2 ^ 64 = omega (arith, pow_mono s) in
    let top = leading_top 64 v (omega arith) big in
    highest_power v c top.0 h s top.2 top.3 ∙ sym (highest_power v 64 top.0 big (omega arith) top.2 top.3))
    (cases_eq v 0)
