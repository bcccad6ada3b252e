-- Bits of numbers by the test `on`, and what `|`, `&`, `!` and `<<` do to them, over any width. Of a bit as a number std
-- tells, but for a complement in a width that no type has.
use Rattle.std.proofs.Common.{◌≡◌, ℕ, zero, suc, ◌+◌, ◌-◌, ◌*◌, ◌/◌, ◌%◌, ◌^◌, ◌<◌, ◌≤◌, false, not, ◌&&◌, ◌||◌, eqb, sym, ap, ◌∙◌, ⊎_elim, pow-suc, arith}
use lib.Bits.{bit_and, bit_or}
use lib.Pow.{pow-lt, field, mod-mod-pow}
use Rattle.std.proofs.lemmas.Nat.{one_shl}
use Rattle.std.proofs.lemmas.Nat.Bits.{bit_at-suc, bit_at_and, bit_at_or}
use Rattle.std.proofs.lemmas.Bool.{cases_eq, cases_lt, eq-eqb, ne_eqb}
use Rattle.std.proofs.lemmas.Bool.Decides.{nat_tests}
use Rattle.vectors.specs.Vectors.{on}
-- std's names in short, as proofs of other crates cite them
pub use Rattle.std.specs.Int.{bit_at as bit}
pub use Rattle.std.proofs.lemmas.Nat.Bits.{bit_at_lowest as bit_first, bit_at-zero as bit_zero, bit_at_above as bit_above, bit_at-pow_same as bit_one, bit_at-pow_other as bit_apart}
pub use Rattle.std.proofs.Math.Bool.{and-false as and_false, or-false as or_false}

-- the bits of a half
pub bit_half : (a k : ℕ) → bit (a / 2) k ≡ bit a (suc k)
bit_half a k = sym (bit_at-suc a k)

pub bit_top : (v j : ℕ) → 2 ^ j ≤ v → v < 2 ^ suc j → bit v j ≡ 1
bit_top v zero h l = omega (arith, bit_first v)
bit_top v (suc j) h l =
    let e = pow-suc 2 j in let f = pow-suc 2 (suc j) in
    let s : bit (v / 2) j ≡ 1 = bit_top (v / 2) j (omega arith) (omega arith) in
    sym (bit_half v j) ∙ s

-- a number and its complement differ in each bit
pub bit_other : (w k a b : ℕ) → a + b + 1 ≡ 2 ^ w → k < w → bit a k + bit b k ≡ 1
bit_other zero k a b e h = absurd (omega arith)
bit_other (suc w) zero a b e h = omega (arith, bit_first a, bit_first b, pow-suc 2 w)
bit_other (suc w) (suc k) a b e h =
    let e' : a / 2 + b / 2 + 1 ≡ 2 ^ w = omega (arith, pow-suc 2 w) in
    let s : bit (a / 2) k + bit (b / 2) k ≡ 1 = bit_other w k (a / 2) (b / 2) e' (omega arith) in
    omega (arith, bit_half a k, bit_half b k)

pub bit_not : (w k a : ℕ) → a < 2 ^ w → k < w → bit ((2 ^ w - 1) - a) k ≡ 1 - bit a k
bit_not w k a h l =
    let e : a + ((2 ^ w - 1) - a) + 1 ≡ 2 ^ w = omega arith in
    omega (arith, bit_other w k a ((2 ^ w - 1) - a) e l)

-- the low bits of a number are those of its remainder
pub bit_mod : (n w k : ℕ) → k < w → bit (n % 2 ^ w) k ≡ bit n k
bit_mod n w k h =
    let e : w ≡ (w - k) + k = omega arith in
    let f : w - k ≡ (w - k - 1) + 1 = omega arith in
    ap (λ x. n % 2 ^ x / 2 ^ k % 2) e ∙ ap (λ x. x % 2) (field n (w - k) k) ∙ ap (λ x. n / 2 ^ k % 2 ^ x % 2) f ∙ mod-mod-pow (n / 2 ^ k) (w - k - 1) 1

-- the same by the test `on`

pub on_or : (a b k : ℕ) → on (bit_or a b) k ≡ (on b k || on a k)
on_or a b k = let e = bit_at_or a b k in grind (arith, nat_tests)

pub on_and : (a b k : ℕ) → on (bit_and a b) k ≡ (on b k && on a k)
on_and a b k = let e = bit_at_and a b k in grind (arith, nat_tests)

pub on_not : (w k a : ℕ) → a < 2 ^ w → k < w → on ((2 ^ w - 1) - a) k ≡ not (on a k)
on_not w k a h l = let e = bit_not w k a h l in grind (arith, nat_tests)

pub on_above : (a w k : ℕ) → a < 2 ^ w → w ≤ k → on a k ≡ false
on_above a w k h l = ne_eqb (bit a k) 1 (omega (arith, bit_above a w k h l))

pub on_one : (t k : ℕ) → on (2 ^ t) k ≡ eqb k t
on_one t k =
    ⊎_elim
    (λ (e : k ≡ t). eq-eqb (bit (2 ^ t) k) 1 (ap (bit (2 ^ t)) e ∙ bit_one t) ∙ sym (eq-eqb k t e))
    (λ (ne : k ≡ t → ⊥). ne_eqb (bit (2 ^ t) k) 1 (omega (arith, bit_apart t k ne)) ∙ sym (ne_eqb k t ne))
    (cases_eq k t)

-- as code writes `1 << t`, in w bits
abbrev pub shifted : ℕ → ℕ → ℕ
shifted w t = (1 * 2 ^ t) % 2 ^ w

pub shifted_is : (w t : ℕ) → t < w → shifted w t ≡ 2 ^ t
shifted_is w t h = one_shl t w h

-- `x | (1 << k)` switches bit k on, and `x & !(1 << k)` switches it off
pub switch_on : (w x k j : ℕ) → k < w → on (bit_or x (shifted w k)) j ≡ (eqb j k || on x j)
switch_on w x k j h = ap (λ n. on (bit_or x n) j) (shifted_is w k h) ∙ on_or x (2 ^ k) j ∙ ap (λ b. b || on x j) (on_one k j)

-- below the width
pub switch_off_low : (w x k j : ℕ) → k < w → j < w → on (bit_and x ((2 ^ w - 1) - shifted w k)) j ≡ (not (eqb j k) && on x j)
switch_off_low w x k j h l =
    ap (λ n. on (bit_and x ((2 ^ w - 1) - n)) j) (shifted_is w k h) ∙ on_and x ((2 ^ w - 1) - 2 ^ k) j
    ∙ ap (λ b. b && on x j) (on_not w j (2 ^ k) (pow-lt h) l ∙ ap not (on_one k j))

pub switch_off : (w x k j : ℕ) → x < 2 ^ w → k < w → on (bit_and x ((2 ^ w - 1) - shifted w k)) j ≡ (not (eqb j k) && on x j)
switch_off w x k j small h =
    ⊎_elim
    (λ (l : j < w). switch_off_low w x k j h l)
    (λ (l : w ≤ j).
    let off = on_above x w j small l in
    on_and x ((2 ^ w - 1) - shifted w k) j ∙ ap (λ b. on ((2 ^ w - 1) - shifted w k) j && b) off ∙ and_false (on ((2 ^ w - 1) - shifted w k) j)
    ∙ sym (ap (λ b. not (eqb j k) && b) off ∙ and_false (not (eqb j k))))
    (cases_lt j w)
