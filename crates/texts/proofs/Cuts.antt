-- Laws of bytes cut at a byte.
use Rattle.std.proofs.Common.{◌≡◌, ℕ, zero, suc, ◌+◌, ◌<◌, ◌==◌, ◌≤◌, not, Some, None, arith, Bool, true, false, cond, eqb, List, [], ◌∷◌, ◌++◌, length, get_or, take, drop, sym, refl, ap, ◌∙◌, subst, append_assoc, append-nil}
use Rattle.std.proofs.lemmas.List.{take-append-drop, drop_more}
use Rattle.std.specs.List.{position, position_or_len}
use Rattle.std.proofs.lemmas.List.Quantifiers.{position-Some}
use Rattle.std.proofs.lemmas.Bool.{eqb-true, eqb-false, eq-eqb, ne_eqb, cond-true, cond-false}
use Rattle.texts.specs.Pieces.{Lacks, pieces, pieces_from}

lacks_push : (b : ℕ) (xs : List ℕ) (x : ℕ) → Lacks b xs → (x ≡ b → ⊥) → Lacks b (xs ++ x ∷ [])
lacks_push b [] x h other = (other, tt)
lacks_push b (y ∷ xs) x h other = (h.0, lacks_push b xs x h.1 other)

-- Where a search for b ends.
pub there : (b : ℕ) (xs : List ℕ) (i : ℕ) → position (λ x. x == b) xs ≡ Some i → (i < length xs) × (get_or xs i 0 ≡ b)
there b xs i e = let p = position-Some (λ x. x == b) xs i 0 e in (p.0, eqb-true _ b p.1)

lacks_below : (b n : ℕ) (xs : List ℕ) → ((k : ℕ) → k < n → get_or xs k 0 ≡ b → ⊥) → Lacks b (take n xs)
lacks_below b zero xs h = tt
lacks_below b (suc n) [] h = tt
lacks_below b (suc n) (x ∷ xs) h = (h 0 (omega arith), lacks_below b n xs (λ k l. h (suc k) (omega arith)))

pub lacks_before : (b : ℕ) (xs : List ℕ) (i : ℕ) → position (λ x. x == b) xs ≡ Some i → Lacks b (take i xs)
lacks_before b xs i e = lacks_below b i xs (λ k l. eqb-false _ b ((position-Some (λ x. x == b) xs i 0 e).2 k l))

lacks_past : (b : ℕ) (xs : List ℕ) → length xs ≤ position_or_len (λ x. x == b) xs → Lacks b xs
lacks_past b [] h = tt
lacks_past b (x ∷ xs) h = go (x == b) refl h (lacks_past b xs)
  where
    go : (t : Bool) → (x == b) ≡ t → suc (length xs) ≤ cond (not t) (1 + position_or_len (λ y. y == b) xs) 0 → (length xs ≤ position_or_len (λ y. y == b) xs → Lacks b xs) → Lacks b (x ∷ xs)
    go true is le more = absurd (omega arith)
    go false is le more = (eqb-false x b is, more (omega arith))

pub lacks_all : (b : ℕ) (xs : List ℕ) → position (λ x. x == b) xs ≡ None → Lacks b xs
lacks_all b xs e = lacks_past b xs (grind arith)

pub lacks_take : (b n : ℕ) (xs : List ℕ) → Lacks b xs → Lacks b (take n xs)
lacks_take b zero xs h = tt
lacks_take b (suc n) [] h = tt
lacks_take b (suc n) (x ∷ xs) h = (h.0, lacks_take b n xs h.1)

-- A list around one of its bytes.
pub around : (xs : List ℕ) (i b : ℕ) → i < length xs → get_or xs i 0 ≡ b → xs ≡ take i xs ++ b ∷ drop (i + 1) xs
around xs i b lt is = sym (take-append-drop i xs) ∙ ap (λ l. take i xs ++ l) (drop_more xs i 0 lt ∙ ap (λ x. x ∷ drop (i + 1) xs) is)

-- Bytes that are not b go to the piece that is begun.
walk : (b : ℕ) (begun l more : List ℕ) → Lacks b l → pieces_from b begun (l ++ more) ≡ pieces_from b (begun ++ l) more
walk b begun [] more h = ap (λ k. pieces_from b k more) (sym (append-nil begun))
walk b begun (x ∷ l) more h =
    cond-false _ _ _ (ne_eqb x b h.0) ∙ walk b (begun ++ x ∷ []) l more h.1 ∙ ap (λ k. pieces_from b k more) (append_assoc begun (x ∷ []) l)

pub pieces_cut : (b : ℕ) (first rest : List ℕ) → Lacks b first → pieces b (first ++ b ∷ rest) ≡ first ∷ pieces b rest
unfolding pieces
pieces_cut b first rest h = walk b [] first (b ∷ rest) h ∙ cond-true _ _ _ (eq-eqb b b refl)

pub pieces_last : (b : ℕ) (bs : List ℕ) → Lacks b bs → pieces b bs ≡ bs ∷ []
unfolding pieces
pieces_last b bs h = ap (pieces_from b []) (sym (append-nil bs)) ∙ walk b [] bs [] h

-- There is a first piece.
abbrev pub SomePiece : List (List ℕ) → Type 0
SomePiece ps = (first : List ℕ) × (rest : List (List ℕ)) × (ps ≡ first ∷ rest)

either : (t : Bool) (x : List ℕ) (xs ys : List (List ℕ)) → SomePiece ys → SomePiece (cond t (x ∷ xs) ys)
either true x xs ys h = (x, xs, refl)
either false x xs ys h = h

pub pieces_some_from : (b : ℕ) (begun bs : List ℕ) → SomePiece (pieces_from b begun bs)
pieces_some_from b begun [] = (begun, [], refl)
pieces_some_from b begun (x ∷ bs) = either (eqb x b) begun (pieces_from b [] bs) (pieces_from b (begun ++ x ∷ []) bs) (pieces_some_from b (begun ++ x ∷ []) bs)

pub pieces_some : (b : ℕ) (bs : List ℕ) → (first : List ℕ) × (rest : List (List ℕ)) × (pieces b bs ≡ first ∷ rest)
unfolding pieces
pieces_some b bs = pieces_some_from b [] bs

-- Every piece lacks the byte at which it was cut.
abbrev pub AllLack : ℕ → List (List ℕ) → Type 0
AllLack b [] = Unit {0}
AllLack b (p ∷ ps) = Lacks b p × AllLack b ps

lack_either : (t : Bool) (b x : ℕ) (begun : List ℕ) (ps qs : List (List ℕ)) → eqb x b ≡ t → Lacks b begun → AllLack b ps → ((x ≡ b → ⊥) → AllLack b qs) → AllLack b (cond t (begun ∷ ps) qs)
lack_either true b x begun ps qs is h on go = (h, on)
lack_either false b x begun ps qs is h on go = go (eqb-false x b is)

lack_from : (b : ℕ) (begun bs : List ℕ) → Lacks b begun → AllLack b (pieces_from b begun bs)
lack_from b begun [] h = (h, tt)
lack_from b begun (x ∷ bs) h =
    lack_either (eqb x b) b x begun (pieces_from b [] bs) (pieces_from b (begun ++ x ∷ []) bs) refl h (lack_from b [] bs tt) (λ other. lack_from b (begun ++ x ∷ []) bs (lacks_push b begun x h other))

pub pieces_lack : (b : ℕ) (bs : List ℕ) → AllLack b (pieces b bs)
unfolding pieces
pieces_lack b bs = lack_from b [] bs tt

-- The pieces with b between them.
abbrev pub rejoin : ℕ → List (List ℕ) → List ℕ
rejoin b [] = []
rejoin b (p ∷ []) = p
rejoin b (p ∷ q ∷ ps) = p ++ b ∷ rejoin b (q ∷ ps)

rejoin_more : (b : ℕ) (p : List ℕ) (ps : List (List ℕ)) → SomePiece ps → rejoin b (p ∷ ps) ≡ p ++ b ∷ rejoin b ps
rejoin_more b p ps h = let P : List (List ℕ) → Type 0 = λ l. rejoin b (p ∷ l) ≡ p ++ b ∷ rejoin b l in subst P (sym h.2) refl

rejoin_either : (t : Bool) (b x : ℕ) (begun bs : List ℕ) (ps qs : List (List ℕ)) → eqb x b ≡ t → SomePiece ps → rejoin b ps ≡ bs → rejoin b qs ≡ (begun ++ x ∷ []) ++ bs →
    rejoin b (cond t (begun ∷ ps) qs) ≡ begun ++ x ∷ bs
rejoin_either true b x begun bs ps qs is some e f = rejoin_more b begun ps some ∙ ap (λ l. begun ++ b ∷ l) e ∙ ap (λ y. begun ++ y ∷ bs) (sym (eqb-true x b is))
rejoin_either false b x begun bs ps qs is some e f = f ∙ append_assoc begun (x ∷ []) bs

rejoined_from : (b : ℕ) (begun bs : List ℕ) → rejoin b (pieces_from b begun bs) ≡ begun ++ bs
rejoined_from b begun [] = sym (append-nil begun)
rejoined_from b begun (x ∷ bs) = rejoin_either (eqb x b) b x begun bs (pieces_from b [] bs) (pieces_from b (begun ++ x ∷ []) bs) refl (pieces_some_from b [] bs) (rejoined_from b [] bs) (rejoined_from b (begun ++ x ∷ []) bs)

pub rejoined : (b : ℕ) (bs : List ℕ) → rejoin b (pieces b bs) ≡ bs
unfolding pieces
rejoined b bs = rejoined_from b [] bs
