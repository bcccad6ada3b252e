-- Records that are settled by the line ends before them.
use Rattle.std.proofs.Common.{◌≡◌, ℕ, suc, ◌+◌, ◌≤◌, Bool, true, false, cond, eqb, List, [], ◌∷◌, ◌++◌, take, sym, refl, ap, ◌∙◌, zero-add, one-add}
use Rattle.std.proofs.lemmas.List.{take-take}
use Rattle.std.proofs.lemmas.List.Sums.{sum_by-cons, sum_by-append}
use Rattle.texts.specs.Pieces.{pieces, pieces_from}
use Rattle.texts.specs.Records.{without_return, among_lines, records, feeds, Settled}
use Rattle.texts.proofs.Cuts.{pieces_some_from}

-- A line that an LF ended is a record, whatever follows.
lines_first : (l : List ℕ) (ps : List (List ℕ)) → (first : List ℕ) × (rest : List (List ℕ)) × (ps ≡ first ∷ rest) → among_lines (l ∷ ps) ≡ without_return l ∷ among_lines ps
lines_first l ps h = ap (λ x. among_lines (l ∷ x)) h.2 ∙ ap (λ x. without_return l ∷ among_lines x) (sym h.2)

abbrev from : List ℕ → List ℕ → List (List ℕ)
from begun bs = among_lines (pieces_from 10 begun bs)

turn : (t : Bool) (k : ℕ) (begun : List ℕ) (ps qs : List (List ℕ)) (xs ys : List (List ℕ)) →
    ((first : List ℕ) × (rest : List (List ℕ)) × (ps ≡ first ∷ rest)) → ((first : List ℕ) × (rest : List (List ℕ)) × (qs ≡ first ∷ rest)) →
    take k (among_lines ps) ≡ take k (among_lines qs) → take k (among_lines xs) ≡ take k (among_lines ys) →
    take (cond t 1 0 + k) (among_lines (cond t (begun ∷ ps) xs)) ≡ take (cond t 1 0 + k) (among_lines (cond t (begun ∷ qs) ys))
turn true k begun ps qs xs ys p q same other =
    ap (λ n. take n (among_lines (begun ∷ ps))) (one-add k) ∙ ap (take (suc k)) (lines_first begun ps p)
    ∙ ap (λ l. without_return begun ∷ l) same
    ∙ sym (ap (λ n. take n (among_lines (begun ∷ qs))) (one-add k) ∙ ap (take (suc k)) (lines_first begun qs q))
turn false k begun ps qs xs ys p q same other = ap (λ n. take n (among_lines xs)) (zero-add k) ∙ other ∙ sym (ap (λ n. take n (among_lines ys)) (zero-add k))

settled_from : (begun bs more : List ℕ) → take (feeds bs) (from begun (bs ++ more)) ≡ take (feeds bs) (from begun bs)
settled_from begun [] more = refl
settled_from begun (b ∷ bs) more =
    let here : feeds (b ∷ bs) ≡ cond (eqb b 10) 1 0 + feeds bs = sum_by-cons (λ x. cond (eqb x 10) 1 0) b bs in
    ap (λ n. take n (from begun ((b ∷ bs) ++ more))) here
    ∙ turn (eqb b 10) (feeds bs) begun (pieces_from 10 [] (bs ++ more)) (pieces_from 10 [] bs) (pieces_from 10 (begun ++ b ∷ []) (bs ++ more)) (pieces_from 10 (begun ++ b ∷ []) bs)
    (pieces_some_from 10 [] (bs ++ more)) (pieces_some_from 10 [] bs) (settled_from [] bs more) (settled_from (begun ++ b ∷ []) bs more)
    ∙ sym (ap (λ n. take n (from begun (b ∷ bs))) here)

pub settled : (bs : List ℕ) (n : ℕ) → n ≤ feeds bs → Settled n bs
unfolding records pieces
settled bs n le more =
    sym (take-take n (feeds bs) (from [] (bs ++ more)) le) ∙ ap (take n) (settled_from [] bs more) ∙ take-take n (feeds bs) (from [] bs) le

pub feeds_append : (a b : List ℕ) → feeds (a ++ b) ≡ feeds a + feeds b
feeds_append a b = sum_by-append (λ x. cond (eqb x 10) 1 0) a b
