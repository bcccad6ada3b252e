-- The records of an input are its only reading by line ends.
use Rattle.std.proofs.Common.{◌≡◌, ℕ, ◌+◌, ◌-◌, ◌<◌, Bool, true, false, cond, eqb, ◌⊎◌, List, [], ◌∷◌, ◌++◌, length, get_or, take, sym, refl, ap, ◌∙◌, subst, inl, inr, ⊎_elim, append_assoc, arith, length-append, Option, Some, None, Bor, MatchOption, unwrap_or}
use Rattle.std.proofs.lemmas.List.{nil_from_length, take_more, take_all, take_at, length_push, get_or_push}
use Rattle.std.proofs.lemmas.Bool.{eqb-true, eqb-false, eq-eqb, ne_eqb, cond-true, cond-false}
use Rattle.texts.specs.Pieces.{Lacks, pieces}
use Rattle.texts.specs.Records.{without_return, among_lines, records}
use Rattle.texts.specs.Readings.{NoReturn, Begins, Reading, ReadByLineEnds}
use Rattle.texts.proofs.Cuts.{lacks_take, pieces_some, pieces_cut, pieces_last, AllLack, pieces_lack, rejoin, rejoined}

-- The CR that ends a line.
module _ (l : List ℕ) where
  pub return_cut : get_or l (length l - 1) 0 ≡ 13 → without_return l ≡ take (length l - 1) l
  unfolding without_return
  return_cut e = cond-true _ _ _ (eq-eqb _ 13 e)

  pub return_none : (get_or l (length l - 1) 0 ≡ 13 → ⊥) → without_return l ≡ l
  unfolding without_return
  return_none e = cond-false _ _ _ (ne_eqb _ 13 e)

last_split : (l : List ℕ) → get_or l (length l - 1) 0 ≡ 13 → l ≡ take (length l - 1) l ++ 13 ∷ []
last_split [] e = absurd (omega arith)
last_split (x ∷ xs) e =
    let l : List ℕ = x ∷ xs in
    let lt : length l - 1 < length l = omega arith in
    let more : length l - 1 + 1 ≡ length l = omega arith in
    sym (take_all (length l) l (omega arith)) ∙ ap (λ n. take n l) (sym more) ∙ take_more l (length l - 1) 0 lt ∙ ap (λ b. take (length l - 1) l ++ b ∷ []) e

no_last : (l : List ℕ) → (get_or l (length l - 1) 0 ≡ 13 → ⊥) → NoReturn l
no_last l other front e =
    let n : length l - 1 ≡ length front = omega (arith, ap length e, length_push front 13) in
    other (ap (λ i. get_or l i 0) n ∙ ap (λ k. get_or k (length front) 0) e ∙ get_or_push front 13 0 (length front) refl)

returned : (r : List ℕ) → without_return (r ++ 13 ∷ []) ≡ r
returned r =
    let n : length (r ++ 13 ∷ []) - 1 ≡ length r = omega (arith, length_push r 13) in
    return_cut (r ++ 13 ∷ []) (ap (λ i. get_or (r ++ 13 ∷ []) i 0) n ∙ get_or_push r 13 0 (length r) refl)
    ∙ ap (λ i. take i (r ++ 13 ∷ [])) n ∙ take_at r (13 ∷ []) (length r) refl

kept : (r : List ℕ) → NoReturn r → without_return r ≡ r
kept r none = return_none r (λ e. none (take (length r - 1) r) (last_split r e))

-- What is left of a line when a search for a CR at its end took it away.
pub without_end : (l : List ℕ) (r : Option (Bor (List ℕ))) (d : Bor (List ℕ)) → MatchOption r (NoReturn l) (λ x. l ≡ x.now ++ 13 ∷ []) → d.now ≡ l → (unwrap_or r d).now ≡ without_return l
without_end l None d none is = is ∙ sym (kept l none)
without_end l (Some x) d e is = sym (ap without_return e ∙ returned x.now)

-- A line up to an LF is a record and its end.
abbrev Stripped : List ℕ → List ℕ → Type 0
Stripped l r = Lacks 10 r × ((l ≡ r ++ 13 ∷ []) ⊎ ((r ≡ l) × NoReturn l))

stripped : (l : List ℕ) → Lacks 10 l → Stripped l (without_return l)
unfolding without_return
stripped l h = go (eqb (get_or l (length l - 1) 0) 13) refl where
  go : (t : Bool) → eqb (get_or l (length l - 1) 0) 13 ≡ t → Stripped l (cond t (take (length l - 1) l) l)
  go true is = (lacks_take 10 (length l - 1) l h, inl (last_split l (eqb-true _ 13 is)))
  go false is = (h, inr (refl, no_last l (eqb-false _ 13 is)))

pub begins_line : (l rest : List ℕ) → Lacks 10 l → Begins (without_return l) rest (l ++ 10 ∷ rest)
begins_line l rest h =
    let r = without_return l in
    let s = stripped l h in (
      s.0,
      inl (⊎_elim
          (λ e. inl (ap (λ k. k ++ 10 ∷ rest) e ∙ append_assoc r (13 ∷ []) (10 ∷ rest)))
          (λ p. inr (ap (λ k. k ++ 10 ∷ rest) (sym p.0), subst NoReturn (sym p.0) p.1))
          s.1),
    )

-- The same, of bytes and a record known by equations.
pub begins_ended : (l r rest bs : List ℕ) → Lacks 10 l → bs ≡ l ++ 10 ∷ rest → r ≡ without_return l → Begins r rest bs
begins_ended l r rest bs h whole is = subst (λ k. Begins k rest bs) (sym is) (subst (Begins _ rest) (sym whole) (begins_line l rest h))

-- The records of a line that an LF ends, and of one that the end does.
records_line : (l rest : List ℕ) → Lacks 10 l → records (l ++ 10 ∷ rest) ≡ without_return l ∷ records rest
unfolding records
records_line l rest h =
    let some = pieces_some 10 rest in
    ap among_lines (pieces_cut 10 l rest h ∙ ap (λ ps. l ∷ ps) some.2) ∙ ap (λ ps. without_return l ∷ among_lines ps) (sym some.2)

records_last : (l : List ℕ) → Lacks 10 l → 0 < length l → records l ≡ l ∷ []
unfolding records
records_last l h some = ap among_lines (pieces_last 10 l h) ∙ cond-false (eqb (length l) 0) [] (l ∷ []) (ne_eqb _ 0 (λ e. omega arith))

pub records_nothing : (bs : List ℕ) → length bs ≡ 0 → records bs ≡ []
unfolding records
records_nothing bs none = ap records (nil_from_length bs none) ∙ ap among_lines (pieces_last 10 [] tt)

no_return_lacks : (r : List ℕ) → Lacks 10 r → Lacks 10 (r ++ 13 ∷ [])
no_return_lacks [] h = ((λ e. omega arith), tt)
no_return_lacks (x ∷ r) h = (h.0, no_return_lacks r h.1)

-- What begins an input is its first record.
pub records_begin : (r rest bs : List ℕ) → Begins r rest bs → records bs ≡ r ∷ records rest
records_begin r rest bs b =
    ⊎_elim
    (λ ended. ⊎_elim
    (λ e. ap records (e ∙ sym (append_assoc r (13 ∷ []) (10 ∷ rest))) ∙ records_line (r ++ 13 ∷ []) rest (no_return_lacks r b.0) ∙ ap (λ x. x ∷ records rest) (returned r))
    (λ p. ap records p.0 ∙ records_line r rest b.0 ∙ ap (λ x. x ∷ records rest) (kept r p.1))
    ended)
    (λ last. ap records last.0 ∙ records_last r b.0 last.2 ∙ ap (λ l. r ∷ l) (sym (records_nothing rest (ap length last.1))))
    b.1

only : (rs : List (List ℕ)) (bs : List ℕ) → Reading rs bs → rs ≡ records bs
only [] bs h = sym (records_nothing bs (ap length h))
only (r ∷ rs) bs h = ap (λ l. r ∷ l) (only rs h.0 h.2) ∙ sym (records_begin r h.0 bs h.1)

reading_last : (l : List ℕ) → Lacks 10 l → Reading (among_lines (l ∷ [])) l
reading_last [] h = refl
reading_last (x ∷ l) h =
    let whole = x ∷ l in
    let one : Reading (whole ∷ []) whole = ([], (h, inr (refl, refl, omega arith)), refl) in
    subst (λ rs. Reading rs whole) (sym (cond-false (eqb (length whole) 0) [] (whole ∷ []) (ne_eqb _ 0 (λ e. omega arith)))) one

reading_lines : (ls : List (List ℕ)) → AllLack 10 ls → Reading (among_lines ls) (rejoin 10 ls)
reading_lines [] h = refl
reading_lines (l ∷ []) h = reading_last l h.0
reading_lines (l ∷ m ∷ ls) h = (rejoin 10 (m ∷ ls), begins_line l (rejoin 10 (m ∷ ls)) h.0, reading_lines (m ∷ ls) h.1)

reading : (bs : List ℕ) → Reading (records bs) bs
unfolding records
reading bs = subst (Reading (among_lines (pieces 10 bs))) (rejoined 10 bs) (reading_lines (pieces 10 bs) (pieces_lack 10 bs))

pub read_by_line_ends : (bs : List ℕ) → ReadByLineEnds bs
read_by_line_ends bs = record { is = reading bs; only = λ rs h. only rs bs h }

pub begins_shorter : (r rest bs : List ℕ) → Begins r rest bs → length rest < length bs
begins_shorter r rest bs b =
    ⊎_elim
    (λ ended. ⊎_elim
    (λ e. omega (arith, ap length e, length-append r (13 ∷ 10 ∷ rest)))
    (λ p. omega (arith, ap length p.0, length-append r (10 ∷ rest)))
    ended)
    (λ last. omega (arith, ap length last.0, ap length last.1, last.2))
    b.1
