-- The rows of a two-level set, and the group byte that is tied to them.
use Rattle.std.proofs.Common.{◌≡◌, ℕ, ◌+◌, ◌-◌, ◌*◌, ◌<◌, ◌≤◌, Bool, true, false, not, eqb, ltb, ◌≢◌, List, length, get_or, set, Some, None, sym, ap, ◌∙◌, subst, ⊎_elim, arith, get_or-set_other, get_or-set_same}
use Rattle.std.proofs.lemmas.Bool.{cases_eq, lt-ltb, eq-eqb, ne_eqb, and_from, and_right, not-true, not-false, both_ways, eqb-true}
use Rattle.std.proofs.lemmas.Bool.Decides.{nat_tests}
use Rattle.vectors.specs.Vectors.{on, highest}
use Rattle.vectors.proofs.Bits.{bit, bit_zero}
use Rattle.vectors.proofs.Vectors.{changed_below, highest_is, highest_none}
use Rattle.sets.specs.Rows.{row, place, in_rows}
use Rattle.sets.specs.Lowest.{lowest_place}
use Rattle.sets.proofs.LowestOnes.{Lowest, lowest_holds}

-- where a row has a bit, it is not 0, and the other way round
pub on_some : (x k : ℕ) → on x k ≡ true → eqb x 0 ≡ false
on_some x k e = ne_eqb x 0 (λ q. let z : bit x k ≡ 0 = ap (λ n. bit n k) q ∙ bit_zero k in omega (arith, eqb-true (bit x k) 1 e))

-- row i written, where bit b is that of task t: what becomes of the row's bits becomes of the tasks that lie there
pub rows_changed : (f : Bool → Bool → Bool) (rs : List ℕ) (t i b x : ℕ) → ((o : Bool) → f false o ≡ o) → t < 64 → length rs ≡ 8 → ◌≡◌ {A = ℕ × ℕ} (i, b) (row t, place t)
    → ((k : ℕ) → on x k ≡ f (eqb k b) (on (get_or rs i 0) k)) → in_rows (set rs i x) ≡ (λ k. f (eqb k t) (in_rows rs k))
rows_changed f rs t i b x none h long there e =
    let ei : i ≡ row t = ap (λ p. p.0) there in
    let eb : b ≡ place t = ap (λ p. p.1) there in
    changed_below 64 t f (λ k. on (get_or (set rs i x) (row k) 0) (place k)) (λ k. on (get_or rs (row k) 0) (place k)) none h
    (λ k l. ⊎_elim
    (λ (q : row k ≡ i).
    let inside : i < length rs = omega arith in
    let s : get_or (set rs i x) (row k) 0 ≡ x = ap (λ j. get_or (set rs i x) j 0) q ∙ rw get_or-set_same in
    let same : eqb (place k) b ≡ eqb k t = grind (arith, nat_tests) in
    ap (λ y. on y (place k)) s ∙ e (place k) ∙ ap (λ j. f (eqb (place k) b) (on (get_or rs j 0) (place k))) (sym q)
    ∙ ap (λ z. f z (on (get_or rs (row k) 0) (place k))) same)
    (λ (ne : row k ≢ i).
    let s : get_or (set rs i x) (row k) 0 ≡ get_or rs (row k) 0 = rw get_or-set_other in
    let apart : eqb k t ≡ false = ne_eqb k t (λ q. ne (ap row q ∙ sym ei)) in
    ap (λ y. on y (place k)) s ∙ sym (ap (λ z. f z (on (get_or rs (row k) 0) (place k))) apart ∙ none (on (get_or rs (row k) 0) (place k))))
    (cases_eq (row k) i))

-- a group byte that is tied to its rows
abbrev pub Tied : ℕ → List ℕ → Type 0
Tied g rs = (i : ℕ) → i < 8 → on g i ≡ not (eqb (get_or rs i 0) 0)

-- one row and its bit written
pub tied_set : (g h : ℕ) (rs : List ℕ) (i x : ℕ) (b : Bool) → i < length rs → not (eqb x 0) ≡ b → ((j : ℕ) → (j ≡ i → ⊥) → on h j ≡ on g j) → on h i ≡ b → Tied g rs → Tied h (set rs i x)
tied_set g h rs i x b long e other here tied j l = ⊎_elim
    (λ (q : j ≡ i).
    let s : get_or (set rs i x) j 0 ≡ x = ap (λ k. get_or (set rs i x) k 0) q ∙ rw get_or-set_same in
    ap (on h) q ∙ here ∙ sym e ∙ ap (λ y. not (eqb y 0)) (sym s))
    (λ (ne : j ≢ i).
    let s : get_or (set rs i x) j 0 ≡ get_or rs j 0 = rw get_or-set_other in
    other j ne ∙ tied j l ∙ ap (λ y. not (eqb y 0)) (sym s))
    (cases_eq j i)

pub highest_rows : (g i b : ℕ) (rs : List ℕ) → Tied g rs → 0 < g → g < 256 → get_or rs i 0 < 256 → i ≡ lowest_place g → b ≡ lowest_place (get_or rs i 0) → (63 - (i * 8 + b) < 64) × (i * 8 + b ≤ 63) × (highest 64 (in_rows rs) ≡ Some (63 - (i * 8 + b)))
highest_rows g i b rs tied pos byte row_byte ei eb =
    let lg : Lowest g i = subst (Lowest g) (sym ei) (lowest_holds g pos byte) in
    let si : i < 8 = lg.small in
    let ne : get_or rs i 0 ≡ 0 → ⊥ = λ q. let a : not (eqb (get_or rs i 0) 0) ≡ true = sym (tied i si) ∙ lg.there in let z : eqb (get_or rs i 0) 0 ≡ true = eq-eqb (get_or rs i 0) 0 q in both_ways (eqb (get_or rs i 0) 0) (not-true (eqb (get_or rs i 0) 0) a) z in
    let p : 0 < get_or rs i 0 = omega arith in
    let lr : Lowest (get_or rs i 0) b = subst (Lowest (get_or rs i 0)) (sym eb) (lowest_holds (get_or rs i 0) p row_byte) in
    let sb : b < 8 = lr.small in
    let t = 63 - (i * 8 + b) in
    let rt : row t ≡ i = omega arith in
    let pt : place t ≡ b = omega arith in
    let here : in_rows rs t ≡ true = and_from (ltb t 64) (on (get_or rs (row t) 0) (place t)) (lt-ltb t 64 (omega arith)) (ap (λ j. on (get_or rs j 0) (place t)) rt ∙ ap (on (get_or rs i 0)) pt ∙ lr.there) in (
      omega arith,
      omega arith,
      highest_is 64 t (in_rows rs) (omega arith) here (λ k a l. and_right (ltb k 64) (on (get_or rs (row k) 0) (place k)) (⊎_elim
          (λ (q : row k ≡ i).
          let z : bit (get_or rs i 0) (place k) ≡ 0 = lr.first (place k) (omega arith) in
          ap (λ j. on (get_or rs j 0) (place k)) q ∙ ne_eqb (bit (get_or rs i 0) (place k)) 1 (omega arith))
          (λ (nq : row k ≢ i).
          let z : bit g (row k) ≡ 0 = lg.first (row k) (omega arith) in
          let w : not (eqb (get_or rs (row k) 0) 0) ≡ false = sym (tied (row k) (omega arith)) ∙ ne_eqb (bit g (row k)) 1 (omega arith) in
          let v : get_or rs (row k) 0 ≡ 0 = eqb-true (get_or rs (row k) 0) 0 (not-false (eqb (get_or rs (row k) 0) 0) w) in
          ap (λ y. on y (place k)) v ∙ ne_eqb (bit 0 (place k)) 1 (omega (arith, bit_zero (place k))))
          (cases_eq (row k) i))),
    )

pub no_rows : (g : ℕ) (rs : List ℕ) → Tied g rs → g ≡ 0 → highest 64 (in_rows rs) ≡ None
no_rows g rs tied e = highest_none 64 (in_rows rs) (λ k l.
    let z : on g (row k) ≡ false = ap (λ x. on x (row k)) e ∙ ne_eqb (bit 0 (row k)) 1 (omega (arith, bit_zero (row k))) in
    let w : not (eqb (get_or rs (row k) 0) 0) ≡ false = sym (tied (row k) (omega arith)) ∙ z in
    let v : get_or rs (row k) 0 ≡ 0 = eqb-true (get_or rs (row k) 0) 0 (not-false (eqb (get_or rs (row k) 0) 0) w) in
    and_right (ltb k 64) (on (get_or rs (row k) 0) (place k)) (ap (λ y. on y (place k)) v ∙ ne_eqb (bit 0 (place k)) 1 (omega (arith, bit_zero (place k)))))
