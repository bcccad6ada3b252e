-- The grammar takes every text that some objects have.
use Rattle.std.proofs.Common.{◌≡◌, ℕ, ◌<◌, ◌≤◌, true, false, cond, ◌&&◌, List, [], ◌∷◌, ◌++◌, length, Some, None, Ok, Err, codes, Option, Result, sym, refl, ap, ◌∙◌, subst, arith}
use Rattle.std.proofs.lemmas.Bool.{true≢false, cond-true, cond-false}
use Rattle.std.proofs.lemmas.Slice.Eq.{bytes_eq-Decides}
use Rattle.std.specs.Str.{bytes_eq}
use Rattle.letters.specs.declared.token.What.{What}
use Rattle.letters.specs.declared.token.What.TheVariants as what
use Rattle.letters.specs.declared.token.Token.{Token}
use Rattle.grammar.specs.declared.fault.GrammarFault.{GrammarFault}
use Rattle.grammar.specs.declared.slot.Slot.{Slot}
use Rattle.grammar.specs.declared.slot.Slot.TheVariants as slot
use Rattle.grammar.specs.declared.word.Word.TheVariants as words
use Rattle.grammar.specs.declared.item.Kind.{Kind}
use Rattle.grammar.specs.declared.item.Kind.TheVariants as kind
use Rattle.grammar.specs.declared.item.State.{State}
use Rattle.grammar.specs.declared.item.State.TheVariants as state
use Rattle.grammar.specs.declared.item.Item.TheVariants as item
use Rattle.grammar.specs.declared.item.Step.{Step}
use Rattle.letters.specs.declared.token.Mark.{Mark}
use Rattle.letters.specs.declared.token.Mark.TheVariants as marks
use Rattle.letters.specs.Tokens.{same_mark, token_at, bytes_of, is_name, is_quoted, is_mark, is_end}
use Rattle.grammar.specs.Faults.{and_then, lifted, misplaced}
use Rattle.grammar.specs.Slots.{lexed, spelt, admits, expected, followed}
use Rattle.grammar.specs.Items.{if_name, named, if_number, numeral_at, heading, template, step, declared_at, object_at, referred_at, reference_at, attribute_at, judged_at, item_at}
use Rattle.grammar.proofs.Through.{through, lexed_ok}
use Rattle.letters.proofs.Named.{Named, lex_goes}
use Rattle.grammar.specs.Language.{Sign, word, num, str, mark, sign_by, sign_of, Scan, stop, reads, AtEnd}
use Rattle.grammar.proofs.Accepts.{slot_sign, Fixed, AllFixed, signs_then}

-- a mark is the same as itself
mark_self : (m : Mark) → same_mark m m ≡ true
mark_self marks.Open = refl
mark_self marks.Close = refl
mark_self marks.Equals = refl
mark_self marks.Semicolon = refl

word_back : (b : List ℕ) (w : List ℕ) (x : What) → is_end x ≡ false → sign_by b x ≡ word w → (is_name x && bytes_eq b w) ≡ true
word_back b w what.Name e h = let s : b ≡ w = cc in (bytes_eq-Decides b w).1 s
word_back b w (what.Number n) e h = let z : ◌≡◌ {A = ℕ} 0 1 = cc in absurd (omega arith)
word_back b w what.Quoted e h = let z : ◌≡◌ {A = ℕ} 0 1 = cc in absurd (omega arith)
word_back b w (what.Mark c) e h = let z : ◌≡◌ {A = ℕ} 0 1 = cc in absurd (omega arith)
word_back b w what.End e h = absurd (true≢false e)

mark_back : (b : List ℕ) (m : Mark) (x : What) → is_end x ≡ false → sign_by b x ≡ mark m → is_mark m x ≡ true
mark_back b m what.Name e h = let z : ◌≡◌ {A = ℕ} 0 1 = cc in absurd (omega arith)
mark_back b m (what.Number n) e h = let z : ◌≡◌ {A = ℕ} 0 1 = cc in absurd (omega arith)
mark_back b m what.Quoted e h = let z : ◌≡◌ {A = ℕ} 0 1 = cc in absurd (omega arith)
mark_back b m (what.Mark c) e h = let s : m ≡ c = cc in ap (same_mark m) (sym s) ∙ mark_self m
mark_back b m what.End e h = absurd (true≢false e)

text_back : (b v : List ℕ) (x : What) → is_end x ≡ false → sign_by b x ≡ str v → (is_quoted x && bytes_eq b v) ≡ true
text_back b v what.Name e h = let z : ◌≡◌ {A = ℕ} 0 1 = cc in absurd (omega arith)
text_back b v (what.Number n) e h = let z : ◌≡◌ {A = ℕ} 0 1 = cc in absurd (omega arith)
text_back b v what.Quoted e h = let s : b ≡ v = cc in (bytes_eq-Decides b v).1 s
text_back b v (what.Mark c) e h = let z : ◌≡◌ {A = ℕ} 0 1 = cc in absurd (omega arith)
text_back b v what.End e h = absurd (true≢false e)

pub admits_back : (text : List ℕ) (s : Slot) (t : Token) → Fixed s → is_end t.what ≡ false → sign_of text t ≡ slot_sign s → admits text s t ≡ true
admits_back text (slot.Word w) t f e h = word_back (bytes_of text t) (spelt w) t.what e h
admits_back text (slot.Mark m) t f e h = mark_back (bytes_of text t) m t.what e h
admits_back text slot.AnyName t f e h = absurd f
admits_back text slot.Version t f e h = text_back (bytes_of text t) (34 ∷ 50 ∷ 46 ∷ 53 ∷ 34 ∷ []) t.what e h
admits_back text slot.End t f e h = absurd f

module _ (text : List ℕ) where
  -- the first token of some
  pub first_token : (pos q : ℕ) (l : List Sign) (x : Sign) (us : List Sign) → Scan text pos l q → l ≡ x ∷ us → (t : Token) × (lexed text pos ≡ Ok t) × (is_end t.what ≡ false) × (sign_of text t ≡ x) × Scan text t.end us q
  first_token pos q l x us stop e = let z : ◌≡◌ {A = ℕ} 0 1 = cc in absurd (omega arith)
  first_token pos q l x us (reads {ss = ss} t lx ne sc) e =
      let a : sign_of text t ≡ x = cc in
      let b : ss ≡ us = cc in
      (t, ap lifted lx, ne, a, subst (λ z. Scan text t.end z q) b sc)

  pub lex_on : (pos : ℕ) (t : Token) → lexed text pos ≡ Ok t → is_end t.what ≡ false → (pos < t.end) × (t.end ≤ length text)
  lex_on pos t h e = (lex_goes text pos t (lexed_ok (token_at text pos) t h)).1 e

  -- a token before the end of the text
  pub scan_room : (pos q : ℕ) (x : Sign) (us : List Sign) → Scan text pos (x ∷ us) q → pos < length text
  scan_room pos q x us sc =
      let t = first_token pos q (x ∷ us) x us sc refl in
      let l = lex_on pos t.0 t.1 t.2 in
      omega arith

  pub one_back : (s : Slot) (pos q : ℕ) (us : List Sign) → Fixed s → Scan text pos (slot_sign s ∷ us) q → (p : ℕ) × (expected text s pos ≡ Ok p) × Scan text p us q × (pos < p)
  one_back s pos q us f sc =
      let x = first_token pos q (slot_sign s ∷ us) (slot_sign s) us sc refl in
      let a = admits_back text s x.0 f x.2 x.3 in
      (x.0.end, ap (λ r. and_then r (λ t. cond (admits text s t) (Ok t.end) (Err (misplaced t.place)))) x.1 ∙ ap (λ b. cond b (Ok x.0.end) (Err (misplaced x.0.place))) a, x.4, (lex_on pos x.0 x.1 x.2).0)

  pub fixed_back : (ss : List Slot) (pos q : ℕ) (us : List Sign) → AllFixed ss → Scan text pos (signs_then ss us) q → (p : ℕ) × (followed text ss pos ≡ Ok p) × Scan text p us q × (pos ≤ p)
  fixed_back [] pos q us f sc = (pos, refl, sc, omega arith)
  fixed_back (s ∷ ss) pos q us f sc =
      let x = one_back s pos q (signs_then ss us) f.0 sc in
      let y = fixed_back ss x.0 q us f.1 x.2 in
      (y.0, ap (λ r. and_then r (λ p. followed text ss p)) x.1 ∙ y.1, y.2, (let l = x.3 in let m = y.3 in omega arith))

  as_name_back : (t : Token) (b n : List ℕ) (x : What) → is_end x ≡ false → sign_by b x ≡ word n → (if_name t x ≡ Ok t) × (b ≡ n) × (is_name x ≡ true)
  as_name_back t b n what.Name e h = (refl, cc, refl)
  as_name_back t b n (what.Number m) e h = let z : ◌≡◌ {A = ℕ} 0 1 = cc in absurd (omega arith)
  as_name_back t b n what.Quoted e h = let z : ◌≡◌ {A = ℕ} 0 1 = cc in absurd (omega arith)
  as_name_back t b n (what.Mark c) e h = let z : ◌≡◌ {A = ℕ} 0 1 = cc in absurd (omega arith)
  as_name_back t b n what.End e h = absurd (true≢false e)

  pub named_back : (pos q : ℕ) (n : List ℕ) (us : List Sign) → Scan text pos (word n ∷ us) q → (t : Token) × (named text pos ≡ Ok t) × (bytes_of text t ≡ n) × Scan text t.end us q × (pos < t.end) × Named n
  named_back pos q n us sc =
      let x = first_token pos q (word n ∷ us) (word n) us sc refl in
      let y = as_name_back x.0 (bytes_of text x.0) n x.0.what x.2 x.3 in
      (x.0, ap (λ r. and_then r (λ t. if_name t t.what)) x.1 ∙ y.0, y.1, x.4, (lex_on pos x.0 x.1 x.2).0, subst Named y.1 ((lex_goes text pos x.0 (lexed_ok (token_at text pos) x.0 x.1)).2 y.2))

  -- Beside as_name_back: what is a name's is another thing to say than what is a number's, so each has its cases.
  as_numeral_back : (t : Token) (b : List ℕ) (n : ℕ) (x : What) → is_end x ≡ false → sign_by b x ≡ num n → if_number t x ≡ Ok (n, t)
  as_numeral_back t b n (what.Number m) e h = let s : m ≡ n = cc in ap (λ k. Ok (k, t)) s
  as_numeral_back t b n what.Name e h = let z : ◌≡◌ {A = ℕ} 0 1 = cc in absurd (omega arith)
  as_numeral_back t b n what.Quoted e h = let z : ◌≡◌ {A = ℕ} 0 1 = cc in absurd (omega arith)
  as_numeral_back t b n (what.Mark c) e h = let z : ◌≡◌ {A = ℕ} 0 1 = cc in absurd (omega arith)
  as_numeral_back t b n what.End e h = absurd (true≢false e)

  pub numeral_back : (pos q n : ℕ) (us : List Sign) → Scan text pos (num n ∷ us) q → (t : Token) × (numeral_at text pos ≡ Ok (n, t)) × Scan text t.end us q × (pos < t.end)
  numeral_back pos q n us sc =
      let x = first_token pos q (num n ∷ us) (num n) us sc refl in
      let y = as_numeral_back x.0 (bytes_of text x.0) n x.0.what x.2 x.3 in
      (x.0, ap (λ r. and_then r (λ t. if_number t t.what)) x.1 ∙ y, x.4, (lex_on pos x.0 x.1 x.2).0)

  abbrev pub kind_bytes : Kind → List ℕ
  kind_bytes kind.Resource = codes "RESOURCE"
  kind_bytes kind.Event = codes "EVENT"
  kind_bytes kind.Task = codes "TASK"

  abbrev heading_by_bytes : List ℕ → What → Option Kind
  heading_by_bytes b x =
      cond (is_name x && bytes_eq b (spelt words.Resource)) (Some kind.Resource)
      (cond (is_name x && bytes_eq b (spelt words.Event)) (Some kind.Event)
      (cond (is_name x && bytes_eq b (spelt words.Task)) (Some kind.Task) None))

  spelt_heading : (k : Kind) → heading_by_bytes (kind_bytes k) what.Name ≡ Some k
  spelt_heading kind.Resource = refl
  spelt_heading kind.Event = refl
  spelt_heading kind.Task = refl

  heading_by : (k : Kind) (b : List ℕ) (x : What) → is_end x ≡ false → sign_by b x ≡ word (kind_bytes k) → (heading_by_bytes b x ≡ Some k) × (is_mark marks.Close x ≡ false)
  heading_by k b what.Name e h = let s : b ≡ kind_bytes k = cc in (ap (λ y. heading_by_bytes y what.Name) s ∙ spelt_heading k, refl)
  heading_by k b (what.Number n) e h = let z : ◌≡◌ {A = ℕ} 0 1 = cc in absurd (omega arith)
  heading_by k b what.Quoted e h = let z : ◌≡◌ {A = ℕ} 0 1 = cc in absurd (omega arith)
  heading_by k b (what.Mark c) e h = let z : ◌≡◌ {A = ℕ} 0 1 = cc in absurd (omega arith)
  heading_by k b what.End e h = absurd (true≢false e)

  pub open_object : (k : Kind) (p q : ℕ) (n : List ℕ) (us : List Sign) → Scan text p (word (kind_bytes k) ∷ word n ∷ us) q → (t : Token) × (object_at text p ≡ step (item.Declares k t) (state.Declared k) t.end) × Scan text t.end us q × (p < t.end) × (bytes_of text t ≡ n) × Named n
  open_object k p q n us sc =
      let x = first_token p q (word (kind_bytes k) ∷ word n ∷ us) (word (kind_bytes k)) (word n ∷ us) sc refl in
      let t = x.0 in
      let y = named_back t.end q n us x.4 in
      let hd = heading_by k (bytes_of text t) t.what x.2 x.3 in
      let closing = and_then (followed text (slot.Mark marks.Semicolon ∷ slot.End ∷ []) t.end) (λ r. step item.End state.Closed r) in (
        y.0,
        ap (λ r. and_then r (λ u. cond (admits text (slot.Mark marks.Close) u) (and_then (followed text (slot.Mark marks.Semicolon ∷ slot.End ∷ []) u.end) (λ z. step item.End state.Closed z)) (declared_at text u (heading text u)))) x.1
            ∙ cond-false (admits text (slot.Mark marks.Close) t) closing (declared_at text t (heading text t)) hd.1
            ∙ ap (declared_at text t) hd.0
            ∙ ap (λ r. and_then r (λ m. step (item.Declares k m) (state.Declared k) m.end)) y.1,
        y.3,
        (let l = lex_on p t x.1 x.2 in let m = y.4 in omega arith),
        y.2,
        y.5,
      )

  nothing_left : (l : List Sign) (p q : ℕ) → l ≡ [] → Scan text p l q → p ≡ q
  nothing_left l p q e stop = refl
  nothing_left l p q e (reads t lx ne sc) = let z : ◌≡◌ {A = ℕ} 0 1 = cc in absurd (omega arith)

  end_expected : (q : ℕ) → AtEnd text q → (r : ℕ) × (expected text slot.End q ≡ Ok r)
  end_expected q at =
      let t = at.0 in
      (t.end, ap (λ r. and_then (lifted r) (λ u. cond (admits text slot.End u) (Ok u.end) (Err (misplaced u.place)))) at.1 ∙ cond-true (is_end t.what) (Ok t.end) (Err (misplaced t.place)) at.2)

  pub close_text : (p q : ℕ) → Scan text p (mark marks.Close ∷ mark marks.Semicolon ∷ []) q → AtEnd text q → (r : ℕ) × (object_at text p ≡ step item.End state.Closed r)
  close_text p q sc at =
      let x = first_token p q (mark marks.Close ∷ mark marks.Semicolon ∷ []) (mark marks.Close) (mark marks.Semicolon ∷ []) sc refl in
      let t = x.0 in
      let a = admits_back text (slot.Mark marks.Close) t tt x.2 x.3 in
      let y = one_back (slot.Mark marks.Semicolon) t.end q [] tt x.4 in
      let same = nothing_left [] y.0 q refl y.2 in
      let z = end_expected q at in
      let e : followed text (slot.Mark marks.Semicolon ∷ slot.End ∷ []) t.end ≡ Ok z.0 =
      ap (λ r. and_then r (λ m. followed text (slot.End ∷ []) m)) y.1 ∙ ap (λ m. followed text (slot.End ∷ []) m) same ∙ ap (λ r. and_then r (λ m. followed text [] m)) z.1 in
      let closing = and_then (followed text (slot.Mark marks.Semicolon ∷ slot.End ∷ []) t.end) (λ r. step item.End state.Closed r) in (
        z.0,
        ap (λ r. and_then r (λ u. cond (admits text (slot.Mark marks.Close) u) (and_then (followed text (slot.Mark marks.Semicolon ∷ slot.End ∷ []) u.end) (λ z. step item.End state.Closed z)) (declared_at text u (heading text u)))) x.1
            ∙ cond-true (admits text (slot.Mark marks.Close) t) closing (declared_at text t (heading text t)) a
            ∙ ap (λ r. and_then r (λ m. step item.End state.Closed m)) e,
      )

  abbrev attribute : Token → Result Step GrammarFault
  attribute u = cond (admits text (slot.Mark marks.Close) u) (step item.Closes state.Closed u.end) (reference_at text u (heading text u))

  pub close_task : (p q : ℕ) (us : List Sign) → Scan text p (mark marks.Close ∷ us) q → (r : ℕ) × (attribute_at text p ≡ step item.Closes state.Closed r) × Scan text r us q × (p < r)
  close_task p q us sc =
      let x = first_token p q (mark marks.Close ∷ us) (mark marks.Close) us sc refl in
      let t = x.0 in
      let a = admits_back text (slot.Mark marks.Close) t tt x.2 x.3 in
      (t.end, ap (λ r. and_then r attribute) x.1 ∙ cond-true (admits text (slot.Mark marks.Close) t) (step item.Closes state.Closed t.end) (reference_at text t (heading text t)) a, x.4, (lex_on p t x.1 x.2).0)

  pub refer_to : (k : Kind) (p q : ℕ) (n : List ℕ) (us : List Sign) → ((t : Token) → reference_at text t (Some k) ≡ referred_at text t k) → Scan text p (word (kind_bytes k) ∷ mark marks.Equals ∷ word n ∷ us) q → (t : Token) × (attribute_at text p ≡ step (item.Refers k t) state.Referred t.end) × Scan text t.end us q × (p < t.end) × (bytes_of text t ≡ n) × Named n
  refer_to k p q n us ok sc =
      let x = first_token p q (word (kind_bytes k) ∷ mark marks.Equals ∷ word n ∷ us) (word (kind_bytes k)) (mark marks.Equals ∷ word n ∷ us) sc refl in
      let t = x.0 in
      let hd = heading_by k (bytes_of text t) t.what x.2 x.3 in
      let m = one_back (slot.Mark marks.Equals) t.end q (word n ∷ us) tt x.4 in
      let y = named_back m.0 q n us m.2 in (
        y.0,
        ap (λ r. and_then r attribute) x.1
            ∙ cond-false (admits text (slot.Mark marks.Close) t) (step item.Closes state.Closed t.end) (reference_at text t (heading text t)) hd.1
            ∙ ap (reference_at text t) hd.0 ∙ ok t
            ∙ ap (λ r. and_then r (λ z. and_then (named text z) (λ v. step (item.Refers k v) state.Referred v.end))) m.1
            ∙ ap (λ r. and_then r (λ v. step (item.Refers k v) state.Referred v.end)) y.1,
        y.3,
        (let l = lex_on p t x.1 x.2 in let a = m.3 in let b = y.4 in omega arith),
        y.2,
        y.5,
      )

  pub item_of : (s : State) (pos p : ℕ) (st : Step) → followed text (template s) pos ≡ Ok p → judged_at text s p ≡ Ok st → item_at text s pos ≡ Ok st
  item_of s pos p st f j = ap (λ r. and_then r (λ z. judged_at text s z)) f ∙ j

  pub followed_join : (a b : List Slot) (pos m p : ℕ) → followed text a pos ≡ Ok m → followed text b m ≡ Ok p → followed text (a ++ b) pos ≡ Ok p
  followed_join [] b pos m p f g = let e : pos ≡ m = cc in ap (λ z. followed text b z) e ∙ g
  followed_join (s ∷ a) b pos m p f g =
      let x = through (expected text s pos) (λ r. followed text a r) m f in
      ap (λ r. and_then r (λ z. followed text (a ++ b) z)) x.1 ∙ followed_join a b x.0 m p x.2 g

  pub name_admitted : (b n : List ℕ) (x : What) → is_end x ≡ false → sign_by b x ≡ word n → is_name x ≡ true
  name_admitted b n what.Name e h = refl
  name_admitted b n (what.Number m) e h = let z : ◌≡◌ {A = ℕ} 0 1 = cc in absurd (omega arith)
  name_admitted b n what.Quoted e h = let z : ◌≡◌ {A = ℕ} 0 1 = cc in absurd (omega arith)
  name_admitted b n (what.Mark c) e h = let z : ◌≡◌ {A = ℕ} 0 1 = cc in absurd (omega arith)
  name_admitted b n what.End e h = absurd (true≢false e)
