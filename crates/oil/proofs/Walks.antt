-- A position, byte by byte.
use Rattle.std.proofs.Common.{◌≡◌, ℕ, ◌+◌, ◌<◌, ◌≤◌, not, eqb, List, [], ◌∷◌, reverse, length, get_or, take, count_by, sym, ap, ◌∙◌, ⊎_elim, arith, length-take}
use mathlib.Core.List.{reverse-append}
use Rattle.std.proofs.lemmas.List.{take_more, length-reverse}
use Rattle.std.proofs.lemmas.List.Sums.{prefix_len-le-length, count_by-le-length, count_by_more_yes, count_by_more_no}
use Rattle.std.proofs.lemmas.Bool.{cases_Bool, cond-true, cond-false}
use Rattle.std.specs.List.{prefix_len}
use Rattle.oil.specs.declared.position.Position.{Position}
use Rattle.oil.specs.Positions.{is_feed, in_line, behind, moved}

at : ℕ → ℕ → Position
at line column = record { line = line; column = column }

pub behind_more : (xs : List ℕ) (i : ℕ) → i < length xs → behind (take (i + 1) xs) ≡ moved (behind (take i xs)) (get_or xs i 0)
unfolding at
behind_more xs i l =
    let b = get_or xs i 0 in
    let front = take i xs in
    let run = prefix_len in_line (reverse front) in
    let column : prefix_len in_line (reverse (take (i + 1) xs)) ≡ prefix_len in_line (b ∷ reverse front) = ap (λ ys. prefix_len in_line (reverse ys)) (take_more xs i 0 l) ∙ ap (prefix_len in_line) (reverse-append front (b ∷ [])) in
    ⊎_elim
    (λ y.
    let lines : 1 + count_by is_feed (take (i + 1) xs) ≡ 1 + count_by is_feed front + 1 = omega (arith, count_by_more_yes is_feed xs i 0 l y) in
    let columns : 1 + prefix_len in_line (reverse (take (i + 1) xs)) ≡ 1 = omega (arith, column, cond-false (in_line b) (1 + run) 0 (ap not y)) in
    ap (λ n. at n (1 + prefix_len in_line (reverse (take (i + 1) xs)))) lines ∙ ap (at (1 + count_by is_feed front + 1)) columns ∙ sym (cond-true (eqb b 10) (at (1 + count_by is_feed front + 1) 1) (at (1 + count_by is_feed front) (1 + run + 1)) y))
    (λ n.
    let lines : 1 + count_by is_feed (take (i + 1) xs) ≡ 1 + count_by is_feed front = omega (arith, count_by_more_no is_feed xs i 0 l n) in
    let columns : 1 + prefix_len in_line (reverse (take (i + 1) xs)) ≡ 1 + run + 1 = omega (arith, column, cond-true (in_line b) (1 + run) 0 (ap not n)) in
    ap (λ k. at k (1 + prefix_len in_line (reverse (take (i + 1) xs)))) lines ∙ ap (at (1 + count_by is_feed front)) columns ∙ sym (cond-false (eqb b 10) (at (1 + count_by is_feed front + 1) 1) (at (1 + count_by is_feed front) (1 + run + 1)) n))
    (cases_Bool (eqb b 10))

-- a position is no larger than what lies before it
pub behind_le : (xs : List ℕ) (i : ℕ) → ((behind (take i xs)).line ≤ 1 + i) × ((behind (take i xs)).column ≤ 1 + i)
behind_le xs i =
    let a = count_by-le-length is_feed (take i xs) in
    let b = prefix_len-le-length in_line (reverse (take i xs)) in
    let c = length-reverse (take i xs) in
    let e = length-take i xs in
    (omega arith, omega arith)
