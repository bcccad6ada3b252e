-- How far a token goes, and what the bytes of a name are.
use Rattle.std.proofs.Common.{◌≡◌, ℕ, suc, ◌+◌, ◌-◌, ◌*◌, ◌<◌, ◌≤◌, Bool, true, false, eqb, leb, List, [], ◌∷◌, length, take, drop, Some, None, Ok, Err, Option, sym, refl, ap, ◌∙◌, subst, ⊎_elim, arith, length-drop, drop-drop}
use Rattle.std.proofs.lemmas.Bool.{cases_Bool, cond-true, cond-false, cond_both, leb-true, true≢false, false≢true}
use Rattle.std.proofs.lemmas.List.Folds.{length-prefix_len}
use Rattle.std.proofs.lemmas.List.Sums.{prefix_len-le-length}
use Rattle.std.specs.List.{prefix_len}
use Rattle.letters.specs.declared.token.What.TheVariants as what
use Rattle.letters.specs.declared.token.Mark.{Mark}
use Rattle.letters.specs.declared.token.Token.{Token}
use Rattle.letters.specs.Bytes.{name_start, name_byte, is_digit, in_string}
use Rattle.letters.specs.Blanks.{begins, skip, counted, blanks}
use Rattle.letters.specs.Extents.{place_from}
use Rattle.letters.specs.Tokens.{Lexed, token, unlawful, digits, number_at, name_at, string_at, mark_of, mark_at, head_token, token_at, is_end, is_name, bytes_of}

-- no byte is zero
abbrev pub Full : List ℕ → Type 0
Full [] = Unit {0}
Full (b ∷ bs) = (b ≡ 0 → ⊥) × Full bs

-- a name that a text can have
pub record Named (n : List ℕ) : Type 0 where
  pub full : Full n
  pub short : length n ≤ 32
  pub some : 0 < length n

-- how far a token goes, and what a name holds
abbrev Goes : ℕ → List ℕ → Lexed → Type 0
Goes place xs (Err f) = Unit {0}
Goes place xs (Ok t) = (t.place ≡ place) × (place ≤ t.end) × (t.end ≤ place + length xs) × (is_end t.what ≡ false → place < t.end) × (is_name t.what ≡ true → Named (take (t.end - t.place) xs))

full_leading : (xs : List ℕ) → Full (take (prefix_len name_byte xs) xs)
full_leading [] = tt
full_leading (x ∷ xs) =
    cond_both (name_byte x) (1 + prefix_len name_byte xs) 0 (λ n. Full (take n (x ∷ xs)))
    (λ y. let e : suc (prefix_len name_byte xs) ≡ 1 + prefix_len name_byte xs = omega arith in subst (λ n. Full (take n (x ∷ xs))) e (let f : Full (x ∷ take (prefix_len name_byte xs) xs) = ((λ e. true≢false (sym y ∙ ap name_byte e)), full_leading xs) in f))
    (λ _. tt)

goes_name : (place b : ℕ) (bs : List ℕ) → name_start b ≡ true → Goes place (b ∷ bs) (name_at place (1 + prefix_len name_byte bs))
goes_name place b bs y =
    cond_both (leb (1 + prefix_len name_byte bs) 32) (token what.Name place (1 + prefix_len name_byte bs)) (unlawful place) (Goes place (b ∷ bs))
    (λ s. let l = prefix_len-le-length name_byte bs in
    let small = leb-true (1 + prefix_len name_byte bs) 32 s in
    let e : place + (1 + prefix_len name_byte bs) - place ≡ suc (prefix_len name_byte bs) = omega arith in
    let short = length-prefix_len name_byte bs in
    (refl, omega arith, omega arith, (λ _. omega arith), (λ _. subst (λ n. Named (take n (b ∷ bs))) (sym e) (record { full = ((λ z. true≢false (sym y ∙ ap name_start z)), full_leading bs); short = omega arith; some = omega arith }))))
    (λ _. tt)

digits_in : (count value : ℕ) (bs : List ℕ) (r : Option (ℕ × ℕ)) → digits count value bs ≡ r → (v c : ℕ) → r ≡ Some (v, c) → (count ≤ c) × (c ≤ count + length bs)
digits_in count value [] r e v c is =
    let p : ◌≡◌ {A = ℕ × ℕ} (value, count) (v, c) = cc in
    let q : count ≡ c = ap (λ (x : ℕ × ℕ). x.1) p in
    (omega arith, omega arith)
digits_in count value (b ∷ bs) r e v c is =
    ⊎_elim
    (λ y. ⊎_elim
    (λ n. absurd (let f = sym (cond-true (is_digit b) _ _ y ∙ cond-true (eqb count 9) _ _ n) ∙ e ∙ is in let z : ◌≡◌ {A = ℕ} 0 1 = cc in omega arith))
    (λ n. let ih = digits_in (count + 1) (value * 10 + (b - 48)) bs r (sym (cond-true (is_digit b) _ _ y ∙ cond-false (eqb count 9) _ _ n) ∙ e) v c is in (omega arith, omega arith))
    (cases_Bool (eqb count 9)))
    (λ n. let f = sym (cond-false (is_digit b) _ _ n) ∙ e ∙ is in
    let p : ◌≡◌ {A = ℕ × ℕ} (value, count) (v, c) = cc in
    let q : count ≡ c = ap (λ (x : ℕ × ℕ). x.1) p in
    (omega arith, omega arith))
    (cases_Bool (is_digit b))

goes_number : (place b : ℕ) (bs : List ℕ) (r : Option (ℕ × ℕ)) → digits 1 (b - 48) bs ≡ r → Goes place (b ∷ bs) (number_at place r)
goes_number place b bs None e = tt
goes_number place b bs (Some x) e =
    let d = digits_in 1 (b - 48) bs (Some x) e x.0 x.1 refl in
    (refl, omega arith, omega arith, (λ _. omega arith), (λ f. absurd (false≢true f)))

begins_some : (c : ℕ) (xs : List ℕ) → begins c xs ≡ true → 0 < length xs
begins_some c [] h = absurd (false≢true h)
begins_some c (x ∷ xs) h = omega arith

goes_text : (place b : ℕ) (bs : List ℕ) (n : ℕ) → Goes place (b ∷ bs) (string_at place n (drop n bs))
goes_text place b bs n =
    cond_both (leb n 32) _ _ (Goes place (b ∷ bs))
    (λ _. cond_both (begins 34 (drop n bs)) _ _ (Goes place (b ∷ bs))
    (λ y. let l = begins_some 34 (drop n bs) y in
    let d = length-drop n bs in
    (refl, omega arith, omega arith, (λ _. omega arith), (λ f. absurd (false≢true f))))
    (λ _. tt))
    (λ _. tt)

goes_mark : (place b : ℕ) (bs : List ℕ) (m : Option Mark) → Goes place (b ∷ bs) (mark_at place m)
goes_mark place b bs None = tt
goes_mark place b bs (Some m) = (refl, omega arith, omega arith, (λ _. omega arith), (λ f. absurd (false≢true f)))

goes_token : (place : ℕ) (xs : List ℕ) → Goes place xs (head_token place xs)
goes_token place [] = (refl, omega arith, omega arith, (λ e. absurd (true≢false e)), (λ f. absurd (false≢true f)))
goes_token place (b ∷ bs) =
    cond_both (name_start b) _ _ (Goes place (b ∷ bs))
    (λ y. goes_name place b bs y)
    (λ _. cond_both (is_digit b) _ _ (Goes place (b ∷ bs))
    (λ _. goes_number place b bs (digits 1 (b - 48) bs) refl)
    (λ _. cond_both (eqb b 34) _ _ (Goes place (b ∷ bs))
    (λ _. goes_text place b bs (prefix_len in_string bs))
    (λ _. goes_mark place b bs (mark_of b))))

pub lex_goes : (text : List ℕ) (pos : ℕ) (t : Token) → token_at text pos ≡ Ok t → (pos ≤ t.end) × (is_end t.what ≡ false → (pos < t.end) × (t.end ≤ length text)) × (is_name t.what ≡ true → Named (bytes_of text t))
lex_goes text pos t h =
    let k = blanks false (drop pos text) in
    let xs = drop k (drop pos text) in
    let g = subst (Goes (pos + k) xs) h (goes_token (pos + k) xs) in
    let a = length-drop k (drop pos text) in
    let b = length-drop pos text in
    let same : xs ≡ drop t.place text = drop-drop k pos text ∙ ap (λ n. drop n text) (sym g.0) in (
      omega (arith, g.1),
      (λ e. let l = g.3 e in let m = g.2 in (omega arith, omega arith)),
      (λ e. subst (λ ys. Named (take (t.end - t.place) ys)) same (g.4 e)),
    )

blanks_go : (xs : List ℕ) → ((n : Bool) → blanks n xs ≤ length xs) → (o : Option Bool) → counted o (λ n. blanks n xs) ≤ suc (length xs)
blanks_go xs ih None = omega arith
blanks_go xs ih (Some n) = let l = ih n in omega arith

pub blanks_le : (c : Bool) (xs : List ℕ) → blanks c xs ≤ length xs
blanks_le c [] = omega arith
blanks_le c (x ∷ xs) = blanks_go xs (λ n. blanks_le n xs) (skip c x xs)

-- a token, or the place where none begins, lies in the text
pub place_le : (text : List ℕ) (pos : ℕ) → pos ≤ length text → place_from text pos ≤ length text
place_le text pos l = let b = blanks_le false (drop pos text) in let d = length-drop pos text in omega arith

pub lex_bound : (text : List ℕ) (pos : ℕ) (t : Token) → pos ≤ length text → token_at text pos ≡ Ok t → t.end ≤ length text
lex_bound text pos t l h =
    let k = blanks false (drop pos text) in
    let xs = drop k (drop pos text) in
    let g = subst (Goes (pos + k) xs) h (goes_token (pos + k) xs) in
    let p = place_le text pos l in
    let a = length-drop k (drop pos text) in
    let b = length-drop pos text in
    omega (arith, g.2)
