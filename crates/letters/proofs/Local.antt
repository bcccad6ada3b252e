-- A token of one text is one of another that agrees with it for long enough.
use Rattle.std.proofs.Common.{◌≡◌, ℕ, zero, suc, ◌+◌, ◌-◌, ◌*◌, ◌≤◌, false, cond, eqb, leb, List, [], ◌∷◌, take, drop, Some, None, Ok, Err, Option, sym, refl, ap, ◌∙◌, subst, ⊎_elim, arith, drop-drop}
use Rattle.std.proofs.lemmas.Bool.{cases_Bool, cond-true, cond-false, cond_both}
use Rattle.std.specs.List.{prefix_len}
use Rattle.letters.specs.declared.token.Mark.{Mark}
use Rattle.letters.specs.declared.token.Token.{Token}
use Rattle.letters.specs.Bytes.{name_start, name_byte, is_digit, in_string}
use Rattle.letters.specs.Blanks.{begins, blanks}
use Rattle.letters.specs.Tokens.{Lexed, digits, number_at, mark_of, mark_at, head_token, token_at, bytes_of}
use Rattle.letters.specs.Extents.{extent, end_from, place_from}
use Rattle.letters.proofs.Near.{Near, near_drop, lex_local}

pub near_less : (e n : ℕ) (xs ys : List ℕ) → e ≤ n → Near n xs ys → Near e xs ys
near_less zero zero xs ys l h = h
near_less zero (suc n) xs [] l h = tt
near_less zero (suc n) [] (y ∷ ys) l h = h
near_less zero (suc n) (x ∷ xs) (y ∷ ys) l h = h.0
near_less (suc e) zero xs ys l h = absurd (omega arith)
near_less (suc e) (suc n) [] [] l h = tt
near_less (suc e) (suc n) [] (y ∷ ys) l h = h
near_less (suc e) (suc n) (x ∷ xs) [] l h = h
near_less (suc e) (suc n) (x ∷ xs) (y ∷ ys) l h = (h.0, near_less e n xs ys (omega arith) h.1)

pub near_same : (n : ℕ) (xs ys : List ℕ) → Near n xs ys → take n ys ≡ take n xs
near_same zero xs ys h = refl
near_same (suc n) [] [] h = refl
near_same (suc n) [] (y ∷ ys) h = absurd h
near_same (suc n) (x ∷ xs) [] h = absurd h
near_same (suc n) (x ∷ xs) (y ∷ ys) h = ap (λ z. z ∷ take n ys) (sym h.0) ∙ ap (λ z. x ∷ z) (near_same n xs ys h.1)

-- where a token ends, and where a fault stands
abbrev pub Ends : ℕ → List ℕ → Lexed → Type 0
Ends place xs (Ok t) = (t.place ≡ place) × (t.end ≡ place + extent xs)
Ends place xs (Err f) = f.place ≡ place

digits_end : (count value : ℕ) (bs : List ℕ) (r : Option (ℕ × ℕ)) → digits count value bs ≡ r → (v c : ℕ) → r ≡ Some (v, c) → c ≡ count + prefix_len is_digit bs
digits_end count value [] r e v c is =
    let p : ◌≡◌ {A = ℕ × ℕ} (value, count) (v, c) = cc in
    let q : count ≡ c = ap (λ (x : ℕ × ℕ). x.1) p in
    omega arith
digits_end count value (b ∷ bs) r e v c is =
    ⊎_elim
    (λ y. ⊎_elim
    (λ n. absurd (let f = sym (cond-true (is_digit b) _ _ y ∙ cond-true (eqb count 9) _ _ n) ∙ e ∙ is in let z : ◌≡◌ {A = ℕ} 0 1 = cc in omega arith))
    (λ n. let ih = digits_end (count + 1) (value * 10 + (b - 48)) bs r (sym (cond-true (is_digit b) _ _ y ∙ cond-false (eqb count 9) _ _ n) ∙ e) v c is in
    let l = cond-true (is_digit b) (1 + prefix_len is_digit bs) 0 y in omega arith)
    (cases_Bool (eqb count 9)))
    (λ n. let f = sym (cond-false (is_digit b) _ _ n) ∙ e ∙ is in
    let p : ◌≡◌ {A = ℕ × ℕ} (value, count) (v, c) = cc in
    let q : count ≡ c = ap (λ (x : ℕ × ℕ). x.1) p in
    let l = cond-false (is_digit b) (1 + prefix_len is_digit bs) 0 n in
    omega arith)
    (cases_Bool (is_digit b))

ends_number : (place b : ℕ) (bs : List ℕ) (r : Option (ℕ × ℕ)) → digits 1 (b - 48) bs ≡ r → extent (b ∷ bs) ≡ 1 + prefix_len is_digit bs → Ends place (b ∷ bs) (number_at place r)
ends_number place b bs None e x = refl
ends_number place b bs (Some v) e x = let d = digits_end 1 (b - 48) bs (Some v) e v.0 v.1 refl in (refl, omega arith)

ends_mark : (place b : ℕ) (bs : List ℕ) (m : Option Mark) → extent (b ∷ bs) ≡ 1 → Ends place (b ∷ bs) (mark_at place m)
ends_mark place b bs None x = refl
ends_mark place b bs (Some m) x = (refl, omega arith)

pub ends_token : (place : ℕ) (xs : List ℕ) → Ends place xs (head_token place xs)
ends_token place [] = (refl, refl)
ends_token place (b ∷ bs) =
    cond_both (name_start b) _ _ (Ends place (b ∷ bs))
    (λ y. let x : extent (b ∷ bs) ≡ 1 + prefix_len name_byte bs = cond-true (name_start b) _ _ y in
    cond_both (leb (1 + prefix_len name_byte bs) 32) _ _ (Ends place (b ∷ bs)) (λ _. (refl, omega arith)) (λ _. refl))
    (λ n. cond_both (is_digit b) _ _ (Ends place (b ∷ bs))
    (λ y. ends_number place b bs (digits 1 (b - 48) bs) refl (cond-false (name_start b) _ _ n ∙ cond-true (is_digit b) _ _ y))
    (λ m. cond_both (eqb b 34) _ _ (Ends place (b ∷ bs))
    (λ y. let w = prefix_len in_string bs in
    let x : extent (b ∷ bs) ≡ 1 + (w + cond (begins 34 (drop w bs)) 1 0) = cond-false (name_start b) _ _ n ∙ cond-false (is_digit b) _ _ m ∙ cond-true (eqb b 34) _ _ y in
    cond_both (leb w 32) _ _ (Ends place (b ∷ bs))
    (λ _. cond_both (begins 34 (drop w bs)) _ _ (Ends place (b ∷ bs))
    (λ t. let z : ◌≡◌ {A = ℕ} (cond {A = ℕ} (begins 34 (drop w bs)) 1 0) 1 = cond-true (begins 34 (drop w bs)) 1 0 t in (refl, omega arith)) (λ _. refl))
    (λ _. refl))
    (λ k. let x : extent (b ∷ bs) ≡ 1 = cond-false (name_start b) _ _ n ∙ cond-false (is_digit b) _ _ m ∙ cond-false (eqb b 34) _ _ k in
    ends_mark place b bs (mark_of b) x)))

module _ (text : List ℕ) where
  -- the token that was read ends where the text says
  abbrev pub Whole : Token → Type 0
  Whole t = (t.place ≤ t.end) × (t.end ≡ end_from text t.place)

  pub lex_whole : (pos : ℕ) (t : Token) → token_at text pos ≡ Ok t → (pos ≤ t.place) × Whole t × (t.place ≡ place_from text pos)
  lex_whole pos t e =
      let k = blanks false (drop pos text) in
      let g = subst (Ends (pos + k) (drop k (drop pos text))) e (ends_token (pos + k) (drop k (drop pos text))) in
      let a = g.0 in
      let b = g.1 in
      let dd = ap extent (drop-drop k pos text) in
      let ee = ap (λ n. extent (drop n text)) g.0 in
      (omega arith, (omega arith, omega arith), g.0)

module _ (text other : List ℕ) (high : ℕ) (near : Near high text other) where
  -- the token of the text from pos on ends early enough, so that the other text has it too
  pub lex_near : (pos : ℕ) → end_from text (place_from text pos) ≤ high → token_at other pos ≡ token_at text pos
  lex_near pos l =
      let k = blanks false (drop pos text) in
      let dd = ap extent (drop-drop k pos text) in
      lex_local text other pos (near_drop pos (k + extent (drop k (drop pos text))) text other (near_less (pos + (k + extent (drop k (drop pos text)))) high text other (omega arith) near))

  pub bytes_near : (t : Token) → t.place ≤ t.end → t.end ≤ high → bytes_of other t ≡ bytes_of text t
  bytes_near t l h =
      near_same (t.end - t.place) (drop t.place text) (drop t.place other) (near_drop t.place (t.end - t.place) text other (near_less (t.place + (t.end - t.place)) high text other (omega arith) near))
