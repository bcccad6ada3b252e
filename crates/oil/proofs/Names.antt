-- Names as the table holds them.
use Rattle.std.proofs.Common.{◌≡◌, ℕ, zero, suc, ◌<◌, ◌≤◌, false, cond, eqb, List, [], ◌∷◌, ◌++◌, length, take, drop, get_or, set, replicate, Some, None, sym, refl, ap, ◌∙◌, ⊎_elim, arith}
use Rattle.std.proofs.lemmas.Bool.{cases_Bool, cond-true, cond-false, ne_eqb, true≢false, false_from_ne_true}
use Rattle.std.proofs.lemmas.Slice.Eq.{bytes_eq-Decides}
use Rattle.std.specs.Str.{bytes_eq}
use Rattle.std.proofs.lemmas.List.{take-replicate}
use Rattle.letters.proofs.Named.{Full, Named}
use Rattle.oil.specs.declared.table.NameRecord.{NameRecord}
use Rattle.oil.specs.Table.{key_of, no_key, blank, find}

-- the bytes before the first zero
pub strip : List ℕ → List ℕ
strip [] = []
strip (b ∷ bs) = cond (eqb b 0) [] (b ∷ strip bs)

-- a short name is followed by the end of the zeros
filled : (n : List ℕ) (k : ℕ) → length n ≤ k → k ≤ 32 → n ++ drop (length n) (replicate k 0) ≡ take k (n ++ no_key)
filled [] k l h = sym (take-replicate k 32 0 h)
filled (b ∷ bs) zero l h = absurd (omega arith)
filled (b ∷ bs) (suc k) l h = ap (λ r. b ∷ r) (filled bs k (omega arith) (omega arith))

pub key_is : (n : List ℕ) → length n ≤ 32 → n ++ drop (length n) no_key ≡ key_of n
key_is n l = filled n 32 l (omega arith)

strip_zeros : (k : ℕ) → strip (replicate k 0) ≡ []
unfolding strip
strip_zeros zero = refl
strip_zeros (suc k) = refl

strip_filled : (n : List ℕ) (k : ℕ) → Full n → length n ≤ k → k ≤ 32 → strip (take k (n ++ no_key)) ≡ n
unfolding strip
strip_filled [] k f l h = ap strip (take-replicate k 32 0 h) ∙ strip_zeros k
strip_filled (b ∷ bs) zero f l h = absurd (omega arith)
strip_filled (b ∷ bs) (suc k) f l h = cond-false (eqb b 0) [] (b ∷ strip (take k (bs ++ no_key))) (ne_eqb b 0 f.0) ∙ ap (λ r. b ∷ r) (strip_filled bs k f.1 (omega arith) (omega arith))

pub key_same : (n m : List ℕ) → Named n → Named m → key_of n ≡ key_of m → n ≡ m
key_same n m h g e = sym (strip_filled n 32 h.full h.short (omega arith)) ∙ ap strip e ∙ strip_filled m 32 g.full g.short (omega arith)

pub key_some : (n : List ℕ) → Named n → key_of n ≡ no_key → ⊥
key_some n h e =
    let z : n ≡ [] = sym (strip_filled n 32 h.full h.short (omega arith)) ∙ ap strip e ∙ strip_zeros 32 in
    let l = ap length z in
    let s = h.some in
    omega arith

pub same_no : (a b : List ℕ) → (a ≡ b → ⊥) → bytes_eq a b ≡ false
same_no a b h = false_from_ne_true (bytes_eq a b) (λ y. h ((bytes_eq-Decides a b).0 y))

-- a record written where the table is blank is found by its name, and by no other
pub find_set : (names : List NameRecord) (j : ℕ) (r : NameRecord) (k : List ℕ) → j < length names → get_or names j blank ≡ blank → find names r.name ≡ None → (k ≡ no_key → ⊥) → find (set names j r) k ≡ cond (bytes_eq r.name k) (Some r) (find names k)
find_set [] j r k l b f ne = absurd (omega arith)
find_set (x ∷ xs) zero r k l b f ne =
    let e : find (x ∷ xs) k ≡ find xs k = ap (λ y. cond (bytes_eq y.name k) (Some y) (find xs k)) b ∙ cond-false (bytes_eq no_key k) (Some blank) (find xs k) (same_no no_key k (λ q. ne (sym q))) in
    ap (λ y. cond (bytes_eq r.name k) (Some r) y) (sym e)
find_set (x ∷ xs) (suc j) r k l b f ne =
    ⊎_elim
    (λ y. absurd (let e = sym (cond-true (bytes_eq x.name r.name) (Some x) (find xs r.name) y) ∙ f in let z : ◌≡◌ {A = ℕ} 0 1 = cc in omega arith))
    (λ n.
    let g : find xs r.name ≡ None = sym (cond-false (bytes_eq x.name r.name) (Some x) (find xs r.name) n) ∙ f in
    let ih = find_set xs j r k (omega arith) b g ne in
    ⊎_elim
    (λ y.  -- x has the name k, so that r has another
    let no : bytes_eq r.name k ≡ false = same_no r.name k (λ q. true≢false (sym ((bytes_eq-Decides x.name r.name).1 ((bytes_eq-Decides x.name k).0 y ∙ sym q)) ∙ n)) in
    cond-true (bytes_eq x.name k) (Some x) (find (set xs j r) k) y
    ∙ sym (cond-true (bytes_eq x.name k) (Some x) (find xs k) y)
    ∙ sym (cond-false (bytes_eq r.name k) (Some r) (find (x ∷ xs) k) no))
    (λ m.
    cond-false (bytes_eq x.name k) (Some x) (find (set xs j r) k) m
    ∙ ih
    ∙ ap (λ y. cond (bytes_eq r.name k) (Some r) y) (sym (cond-false (bytes_eq x.name k) (Some x) (find xs k) m)))
    (cases_Bool (bytes_eq x.name k)))
    (cases_Bool (bytes_eq x.name r.name))

-- the keys of two names are the same exactly if the names are
pub key_tests : (n m : List ℕ) → Named n → Named m → bytes_eq (key_of n) (key_of m) ≡ bytes_eq n m
key_tests n m h g =
    ⊎_elim
    (λ y. (bytes_eq-Decides (key_of n) (key_of m)).1 (ap key_of ((bytes_eq-Decides n m).0 y)) ∙ sym y)
    (λ no. same_no (key_of n) (key_of m) (λ e. true≢false (sym ((bytes_eq-Decides n m).1 (key_same n m h g e)) ∙ no)) ∙ sym no)
    (cases_Bool (bytes_eq n m))
