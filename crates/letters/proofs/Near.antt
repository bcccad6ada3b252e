-- A token is what it is by the bytes up to the one after it.
use Rattle.std.proofs.Common.{◌≡◌, ℕ, zero, suc, ◌+◌, ◌-◌, ◌*◌, ◌<◌, ◌≤◌, Bool, true, false, cond, ◌&&◌, eqb, leb, List, [], ◌∷◌, length, take, drop, Some, None, Option, sym, refl, ap, ◌∙◌, subst, ⊎_elim, arith}
use Rattle.std.proofs.lemmas.List.{drop-take}
use Rattle.std.proofs.lemmas.Bool.{cases_Bool, cond-true, cond-false, true≢false, false≢true, and_parts, and_left, and_right, and_cases}
use Rattle.std.specs.List.{prefix_len}
use Rattle.letters.specs.declared.token.What.TheVariants as what
use Rattle.letters.specs.Bytes.{name_start, name_byte, is_digit, is_blank, in_string}
use Rattle.letters.specs.Blanks.{begins, skip, counted, blanks}
use Rattle.letters.specs.Tokens.{token, unlawful, digits, number_at, name_at, string_at, head_token, token_at}
use Rattle.letters.specs.Extents.{extent, place_from}

-- the texts have the same first e bytes, and the other ends there or goes on with the same byte
abbrev pub Near : ℕ → List ℕ → List ℕ → Type 0
Near zero xs [] = Unit {0}
Near zero [] (y ∷ ys) = ⊥
Near zero (x ∷ xs) (y ∷ ys) = x ≡ y
Near (suc e) [] [] = Unit {0}
Near (suc e) [] (y ∷ ys) = ⊥
Near (suc e) (x ∷ xs) [] = ⊥
Near (suc e) (x ∷ xs) (y ∷ ys) = (x ≡ y) × Near e xs ys

pub near_take : (e : ℕ) (xs ys : List ℕ) → take (suc e) ys ≡ take (suc e) xs → Near e xs ys
near_take zero [] [] h = tt
near_take zero [] (y ∷ ys) h = let l = ap length h in absurd (omega arith)
near_take zero (x ∷ xs) [] h = tt
near_take zero (x ∷ xs) (y ∷ ys) h = cc
near_take (suc e) [] [] h = tt
near_take (suc e) [] (y ∷ ys) h = let l = ap length h in absurd (omega arith)
near_take (suc e) (x ∷ xs) [] h = let l = ap length h in absurd (omega arith)
near_take (suc e) (x ∷ xs) (y ∷ ys) h =
    let a : x ≡ y = cc in
    let b : take (suc e) ys ≡ take (suc e) xs = cc in
    (a, near_take e xs ys b)

pub near_cut : (e n : ℕ) (xs : List ℕ) → e ≤ n → Near e xs (take n xs)
near_cut zero zero [] l = tt
near_cut zero (suc n) [] l = tt
near_cut zero zero (x ∷ xs) l = tt
near_cut zero (suc n) (x ∷ xs) l = refl
near_cut (suc e) zero xs l = absurd (omega arith)
near_cut (suc e) (suc n) [] l = tt
near_cut (suc e) (suc n) (x ∷ xs) l = (refl, near_cut e n xs (omega arith))

pub near_drop : (k e : ℕ) (xs ys : List ℕ) → Near (k + e) xs ys → Near e (drop k xs) (drop k ys)
near_drop zero e xs ys h = let q : 0 + e ≡ e = omega arith in subst (λ n. Near n xs ys) q h
near_drop (suc k) e [] [] h = near_nil e
  where
    near_nil : (n : ℕ) → Near n [] []
    near_nil zero = tt
    near_nil (suc n) = tt
near_drop (suc k) e [] (y ∷ ys) h = let q : suc k + e ≡ suc (k + e) = omega arith in absurd (subst (λ n. Near n [] (y ∷ ys)) q h)
near_drop (suc k) e (x ∷ xs) [] h = let q : suc k + e ≡ suc (k + e) = omega arith in absurd (subst (λ n. Near n (x ∷ xs) []) q h)
near_drop (suc k) e (x ∷ xs) (y ∷ ys) h = let q : suc k + e ≡ suc (k + e) = omega arith in near_drop k e xs ys (subst (λ n. Near n (x ∷ xs) (y ∷ ys)) q h).1

-- at a place where the other text goes on, it goes on as this one
near_first : (e c : ℕ) (xs ys : List ℕ) → Near e xs ys → begins c ys ≡ true → begins c xs ≡ true
near_first zero c xs [] h f = absurd (false≢true f)
near_first zero c [] (y ∷ ys) h f = absurd h
near_first zero c (x ∷ xs) (y ∷ ys) h f = ap (λ n. eqb n c) h ∙ f
near_first (suc e) c [] [] h f = f
near_first (suc e) c [] (y ∷ ys) h f = absurd h
near_first (suc e) c (x ∷ xs) [] h f = absurd h
near_first (suc e) c (x ∷ xs) (y ∷ ys) h f = ap (λ n. eqb n c) h.0 ∙ f

near_first_on : (e c : ℕ) (xs ys : List ℕ) → Near (suc e) xs ys → begins c ys ≡ begins c xs
near_first_on e c [] [] h = refl
near_first_on e c [] (y ∷ ys) h = absurd h
near_first_on e c (x ∷ xs) [] h = absurd h
near_first_on e c (x ∷ xs) (y ∷ ys) h = ap (λ n. eqb n c) (sym h.0)

-- a run that ends within
near_leading : (p : ℕ → Bool) (e : ℕ) (xs ys : List ℕ) → prefix_len p xs ≤ e → Near e xs ys → prefix_len p ys ≡ prefix_len p xs
near_leading p zero [] [] l h = refl
near_leading p zero [] (y ∷ ys) l h = absurd h
near_leading p zero (x ∷ xs) [] l h = omega arith
near_leading p zero (x ∷ xs) (y ∷ ys) l h =
    ⊎_elim (λ t. let g = cond-true (p x) (1 + prefix_len p xs) 0 t in absurd (omega arith))
    (λ n. cond-false (p y) (1 + prefix_len p ys) 0 (ap p (sym h) ∙ n) ∙ sym (cond-false (p x) (1 + prefix_len p xs) 0 n)) (cases_Bool (p x))
near_leading p (suc e) [] [] l h = refl
near_leading p (suc e) [] (y ∷ ys) l h = absurd h
near_leading p (suc e) (x ∷ xs) [] l h = absurd h
near_leading p (suc e) (x ∷ xs) (y ∷ ys) l h =
    ⊎_elim
    (λ t. let g = cond-true (p x) (1 + prefix_len p xs) 0 t in
    cond-true (p y) (1 + prefix_len p ys) 0 (ap p (sym h.0) ∙ t) ∙ ap (λ n. 1 + n) (near_leading p e xs ys (omega arith) h.1) ∙ sym g)
    (λ n. cond-false (p y) (1 + prefix_len p ys) 0 (ap p (sym h.0) ∙ n) ∙ sym (cond-false (p x) (1 + prefix_len p xs) 0 n)) (cases_Bool (p x))

near_digits : (e count value : ℕ) (xs ys : List ℕ) → prefix_len is_digit xs ≤ e → Near e xs ys → digits count value ys ≡ digits count value xs
near_digits zero count value [] [] l h = refl
near_digits zero count value [] (y ∷ ys) l h = absurd h
near_digits zero count value (x ∷ xs) [] l h =
    ⊎_elim (λ t. let g = cond-true (is_digit x) (1 + prefix_len is_digit xs) 0 t in absurd (omega arith))
    (λ n. sym (cond-false (is_digit x) _ _ n)) (cases_Bool (is_digit x))
near_digits zero count value (x ∷ xs) (y ∷ ys) l h =
    ⊎_elim (λ t. let g = cond-true (is_digit x) (1 + prefix_len is_digit xs) 0 t in absurd (omega arith))
    (λ n. cond-false (is_digit y) _ _ (ap is_digit (sym h) ∙ n) ∙ sym (cond-false (is_digit x) _ _ n)) (cases_Bool (is_digit x))
near_digits (suc e) count value [] [] l h = refl
near_digits (suc e) count value [] (y ∷ ys) l h = absurd h
near_digits (suc e) count value (x ∷ xs) [] l h = absurd h
near_digits (suc e) count value (x ∷ xs) (y ∷ ys) l h =
    ⊎_elim
    (λ t. let g = cond-true (is_digit x) (1 + prefix_len is_digit xs) 0 t in
    let ih = near_digits e (count + 1) (value * 10 + (x - 48)) xs ys (omega arith) h.1 in
    cond-true (is_digit y) _ _ (ap is_digit (sym h.0) ∙ t)
    ∙ ap (λ b. cond (eqb count 9) None (digits (count + 1) (value * 10 + (b - 48)) ys)) (sym h.0)
    ∙ ap (λ r. cond (eqb count 9) None r) ih
    ∙ sym (cond-true (is_digit x) _ _ t))
    (λ n. cond-false (is_digit y) _ _ (ap is_digit (sym h.0) ∙ n) ∙ sym (cond-false (is_digit x) _ _ n)) (cases_Bool (is_digit x))

-- the bytes of a token after its first
abbrev more : ℕ → List ℕ → ℕ
more b bs =
    cond (name_start b) (prefix_len name_byte bs)
    (cond (is_digit b) (prefix_len is_digit bs)
    (cond (eqb b 34) (prefix_len in_string bs + cond (begins 34 (drop (prefix_len in_string bs) bs)) 1 0) 0))

suc_cond : (b : Bool) (m n k : ℕ) → k ≡ suc n → cond b (1 + m) k ≡ suc (cond b m n)
suc_cond true m n k e = omega arith
suc_cond false m n k e = e

extent_more : (b : ℕ) (bs : List ℕ) → extent (b ∷ bs) ≡ suc (more b bs)
extent_more b bs =
    suc_cond (name_start b) (prefix_len name_byte bs) _ _
    (suc_cond (is_digit b) (prefix_len is_digit bs) _ _
    (suc_cond (eqb b 34) (prefix_len in_string bs + cond (begins 34 (drop (prefix_len in_string bs) bs)) 1 0) 0 1 refl))

-- what a string is by: how many bytes it has, and whether it is closed
text_local : (place n : ℕ) (xs ys : List ℕ) → Near (cond (begins 34 xs) 1 0) xs ys → string_at place n ys ≡ string_at place n xs
text_local place n xs ys h =
    let same : begins 34 ys ≡ begins 34 xs =
    ⊎_elim
    (λ t. near_first_on 0 34 xs ys (subst (λ k. Near k xs ys) (cond-true (begins 34 xs) 1 0 t) h))
    (λ f. ⊎_elim (λ t. absurd (true≢false (sym (near_first 0 34 xs ys (subst (λ k. Near k xs ys) (cond-false (begins 34 xs) 1 0 f) h) t) ∙ f))) (λ g. g ∙ sym f) (cases_Bool (begins 34 ys)))
    (cases_Bool (begins 34 xs)) in
    ap (λ f. cond (leb n 32) (cond f (token what.Quoted place (n + 2)) (unlawful place)) (unlawful place)) same

head_local : (place b : ℕ) (bs cs : List ℕ) → Near (more b bs) bs cs → head_token place (b ∷ cs) ≡ head_token place (b ∷ bs)
head_local place b bs cs h =
    ⊎_elim
    (λ y. let g : Near (prefix_len name_byte bs) bs cs = subst (λ k. Near k bs cs) (cond-true (name_start b) _ _ y) h in
    cond-true (name_start b) _ _ y ∙ ap (λ n. name_at place (1 + n)) (near_leading name_byte (prefix_len name_byte bs) bs cs (omega arith) g) ∙ sym (cond-true (name_start b) _ _ y))
    (λ n. let h1 = subst (λ k. Near k bs cs) (cond-false (name_start b) _ _ n) h in
    cond-false (name_start b) _ _ n
    ∙ ⊎_elim
    (λ y. let g : Near (prefix_len is_digit bs) bs cs = subst (λ k. Near k bs cs) (cond-true (is_digit b) _ _ y) h1 in
    cond-true (is_digit b) _ _ y ∙ ap (number_at place) (near_digits (prefix_len is_digit bs) 1 (b - 48) bs cs (omega arith) g) ∙ sym (cond-true (is_digit b) _ _ y))
    (λ m. let h2 = subst (λ k. Near k bs cs) (cond-false (is_digit b) _ _ m) h1 in
    cond-false (is_digit b) _ _ m
    ∙ ⊎_elim
    (λ y.
    let w = prefix_len in_string bs in
    let more2 = cond (begins 34 (drop w bs)) 1 0 in
    let g : Near (w + more2) bs cs = subst (λ k. Near k bs cs) (cond-true (eqb b 34) _ _ y) h2 in
    cond-true (eqb b 34) _ _ y
    ∙ ap (λ k. string_at place k (drop k cs)) (near_leading in_string (w + more2) bs cs (omega arith) g)
    ∙ text_local place w (drop w bs) (drop w cs) (near_drop w more2 bs cs g)
    ∙ sym (cond-true (eqb b 34) _ _ y))
    (λ k. cond-false (eqb b 34) _ _ k ∙ sym (cond-false (eqb b 34) _ _ k))
    (cases_Bool (eqb b 34))
    ∙ sym (cond-false (is_digit b) _ _ m))
    (cases_Bool (is_digit b))
    ∙ sym (cond-false (name_start b) _ _ n))
    (cases_Bool (name_start b))

token_local : (place : ℕ) (xs ys : List ℕ) → Near (extent xs) xs ys → head_token place ys ≡ head_token place xs
token_local place [] [] h = refl
token_local place [] (y ∷ ys) h = absurd h
token_local place (x ∷ xs) [] h = absurd (subst (λ k. Near k (x ∷ xs) []) (extent_more x xs) h)
token_local place (x ∷ xs) (y ∷ ys) h =
    let g = subst (λ k. Near k (x ∷ xs) (y ∷ ys)) (extent_more x xs) h in
    ap (λ z. head_token place (z ∷ ys)) (sym g.0) ∙ head_local place x xs ys g.1

slashes_local : (x e : ℕ) (xs ys : List ℕ) → Near e xs ys → ((eqb x 47 && begins 47 xs) ≡ true → 0 < e) → (eqb x 47 && begins 47 ys) ≡ (eqb x 47 && begins 47 xs)
slashes_local x e xs ys h f =
    ⊎_elim
    (λ t. on e (f t) h)
    (λ n. ⊎_elim (λ a. and_left (eqb x 47) (begins 47 ys) a) (λ b. and_right (eqb x 47) (begins 47 ys) (⊎_elim (λ t. absurd (true≢false (sym (near_first e 47 xs ys h t) ∙ b))) (λ g. g) (cases_Bool (begins 47 ys)))) (and_cases (eqb x 47) (begins 47 xs) n) ∙ sym n)
    (cases_Bool (eqb x 47 && begins 47 xs))
  where
    on : (k : ℕ) → 0 < k → Near k xs ys → (eqb x 47 && begins 47 ys) ≡ (eqb x 47 && begins 47 xs)
    on zero l g = absurd (omega arith)
    on (suc k) l g = ap (λ b. eqb x 47 && b) (near_first_on k 47 xs ys g)

skip_local : (c : Bool) (x e : ℕ) (xs ys : List ℕ) → Near e xs ys → (c ≡ false → (eqb x 47 && begins 47 xs) ≡ true → 0 < e) → skip c x ys ≡ skip c x xs
skip_local true x e xs ys h f = refl
skip_local false x e xs ys h f = ap (λ b. cond b (Some true) (cond (is_blank x) (Some false) None)) (slashes_local x e xs ys h (f refl))

comment_some : (xs : List ℕ) → begins 47 xs ≡ true → 0 < blanks true xs
comment_some [] h = absurd (false≢true h)
comment_some (x ∷ xs) h = omega arith

blanks_go : (c : Bool) (x : ℕ) (xs : List ℕ) → ((n : Bool) (zs : List ℕ) → Near (blanks n xs + extent (drop (blanks n xs) xs)) xs zs → blanks n zs ≡ blanks n xs) → (ys : List ℕ) (o : Option Bool) → skip c x xs ≡ o → Near (counted o (λ n. blanks n xs) + extent (drop (counted o (λ n. blanks n xs)) (x ∷ xs))) (x ∷ xs) ys → blanks c ys ≡ counted o (λ n. blanks n xs)
blanks_go c x xs ih [] None e h = refl
blanks_go c x xs ih (y ∷ ys) None e h =
    let q : 0 + extent (x ∷ xs) ≡ suc (more x xs) = let z = extent_more x xs in omega arith in
    let g = subst (λ k. Near k (x ∷ xs) (y ∷ ys)) q h in
    let s : skip c x ys ≡ skip c x xs = skip_local c x (more x xs) xs ys g.1 (λ cf t. absurd (let w : skip c x xs ≡ Some true = ap (λ b. skip b x xs) cf ∙ cond-true (eqb x 47 && begins 47 xs) _ _ t in let z : ◌≡◌ {A = ℕ} 0 1 = cc in omega arith)) in
    ap (λ z. blanks c (z ∷ ys)) (sym g.0) ∙ ap (λ r. counted r (λ n. blanks n ys)) (s ∙ e)
blanks_go c x xs ih [] (Some n) e h =
    let q : 1 + blanks n xs + extent (drop (1 + blanks n xs) (x ∷ xs)) ≡ suc (blanks n xs + extent (drop (1 + blanks n xs) (x ∷ xs))) = omega arith in
    absurd (subst (λ k. Near k (x ∷ xs) []) q h)
blanks_go c x xs ih (y ∷ ys) (Some n) e h =
    let d : 1 + blanks n xs ≡ suc (blanks n xs) = omega arith in
    let q : 1 + blanks n xs + extent (drop (1 + blanks n xs) (x ∷ xs)) ≡ suc (blanks n xs + extent (drop (blanks n xs) xs)) = let z = ap (λ k. extent (drop k (x ∷ xs))) d in omega arith in
    let g = subst (λ k. Near k (x ∷ xs) (y ∷ ys)) q h in
    let s : skip c x ys ≡ skip c x xs = skip_local c x (blanks n xs + extent (drop (blanks n xs) xs)) xs ys g.1
    (λ cf t.
    let w : Some n ≡ Some true = sym e ∙ ap (λ b. skip b x xs) cf ∙ cond-true (eqb x 47 && begins 47 xs) _ _ t in
    let nt : n ≡ true = cc in
    let some = comment_some xs (and_parts (eqb x 47) (begins 47 xs) t).1 in
    let same = ap (λ b. blanks b xs) nt in
    omega arith) in
    ap (λ z. blanks c (z ∷ ys)) (sym g.0) ∙ ap (λ r. counted r (λ m. blanks m ys)) (s ∙ e) ∙ ap (λ k. 1 + k) (ih n ys g.1)

blanks_local : (c : Bool) (xs ys : List ℕ) → Near (blanks c xs + extent (drop (blanks c xs) xs)) xs ys → blanks c ys ≡ blanks c xs
blanks_local c [] [] h = refl
blanks_local c [] (y ∷ ys) h = absurd h
blanks_local c (x ∷ xs) ys h = blanks_go c x xs (λ n zs g. blanks_local n xs zs g) ys (skip c x xs) refl h

pub lex_local : (text other : List ℕ) (pos : ℕ) → Near (blanks false (drop pos text) + extent (drop (blanks false (drop pos text)) (drop pos text))) (drop pos text) (drop pos other) → token_at other pos ≡ token_at text pos
lex_local text other pos h =
    let k = blanks false (drop pos text) in
    ap (λ n. head_token (pos + n) (drop n (drop pos other))) (blanks_local false (drop pos text) (drop pos other) h)
    ∙ token_local (pos + k) (drop k (drop pos text)) (drop k (drop pos other)) (near_drop k (extent (drop k (drop pos text))) (drop pos text) (drop pos other) h)

-- a text that is cut where its next token begins has nothing but blanks there
cut_go : (c : Bool) (x : ℕ) (xs : List ℕ) → ((n : Bool) → blanks n (take (blanks n xs) xs) ≡ blanks n xs) → (o : Option Bool) → skip c x xs ≡ o → blanks c (take (counted o (λ n. blanks n xs)) (x ∷ xs)) ≡ counted o (λ n. blanks n xs)
cut_go c x xs ih None e = refl
cut_go c x xs ih (Some n) e =
    let k = blanks n xs in
    let d : 1 + k ≡ suc k = omega arith in
    let s : skip c x (take k xs) ≡ skip c x xs = skip_local c x k xs (take k xs) (near_cut k k xs (omega arith))
    (λ cf t.
    let w : Some n ≡ Some true = sym e ∙ ap (λ b. skip b x xs) cf ∙ cond-true (eqb x 47 && begins 47 xs) _ _ t in
    let nt : n ≡ true = cc in
    let some = comment_some xs (and_parts (eqb x 47) (begins 47 xs) t).1 in
    let same = ap (λ b. blanks b xs) nt in
    omega arith) in
    ap (λ j. blanks c (take j (x ∷ xs))) d ∙ ap (λ r. counted r (λ m. blanks m (take k xs))) (s ∙ e) ∙ ap (λ j. 1 + j) (ih n)

cut_blanks : (c : Bool) (xs : List ℕ) → blanks c (take (blanks c xs) xs) ≡ blanks c xs
cut_blanks c [] = refl
cut_blanks c (x ∷ xs) = cut_go c x xs (λ n. cut_blanks n xs) (skip c x xs) refl

pub lex_cut : (text : List ℕ) (pos : ℕ) → token_at (take (place_from text pos) text) pos ≡ token what.End (place_from text pos) 0
lex_cut text pos =
    let k = blanks false (drop pos text) in
    let none : k ≡ k + 0 = omega arith in
    ap (λ ys. head_token (pos + blanks false ys) (drop (blanks false ys) ys)) (drop-take pos k text)
    ∙ ap (λ n. head_token (pos + n) (drop n (take k (drop pos text)))) (cut_blanks false (drop pos text))
    ∙ ap (head_token (pos + k)) (ap (λ n. drop k (take n (drop pos text))) none ∙ drop-take k 0 (drop pos text))
