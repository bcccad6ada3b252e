-- An item is what it is by the bytes up to the one after it.
use Rattle.std.proofs.Common.{◌≡◌, ℕ, ◌+◌, ◌≤◌, Bool, true, false, cond, ◌&&◌, ◌⊎◌, List, [], ◌∷◌, drop, Some, None, Ok, Err, Option, Result, refl, ap, ◌∙◌, subst, inl, inr, ⊎_elim, arith, MatchResult}
use Rattle.std.proofs.lemmas.Bool.{cond_both}
use Rattle.std.specs.Str.{bytes_eq}
use Rattle.letters.specs.declared.token.Token.{Token}
use Rattle.grammar.specs.declared.fault.GrammarFault.{GrammarFault}
use Rattle.grammar.specs.declared.slot.Slot.{Slot}
use Rattle.grammar.specs.declared.slot.Slot.TheVariants as slot
use Rattle.grammar.specs.declared.word.Word.TheVariants as words
use Rattle.grammar.specs.declared.item.Kind.{Kind}
use Rattle.grammar.specs.declared.item.Kind.TheVariants as kind
use Rattle.grammar.specs.declared.item.State.{State}
use Rattle.grammar.specs.declared.item.State.TheVariants as state
use Rattle.grammar.specs.declared.item.Item.TheVariants as item
use Rattle.grammar.specs.declared.item.Step.{Step}
use Rattle.letters.specs.declared.token.Mark.TheVariants as marks
use Rattle.letters.specs.Blanks.{blanks}
use Rattle.letters.specs.Tokens.{is_name, is_quoted, Lexed, token_at}
use Rattle.grammar.specs.Faults.{and_then, misplaced, lifted}
use Rattle.grammar.specs.Slots.{spelt, lexed, admits, expected, followed}
use Rattle.grammar.specs.Items.{if_name, named, if_number, numeral_at, heading, template, step, declared_at, object_at, referred_at, reference_at, attribute_at, judged_at, item_at}
use Rattle.letters.specs.Extents.{end_from, place_from}
use Rattle.letters.proofs.Near.{Near}
use Rattle.grammar.proofs.Through.{name_both, number_both}
use Rattle.letters.proofs.Local.{lex_near, bytes_near, Whole, lex_whole, Ends, ends_token}

module _ (text other : List ℕ) (high : ℕ) (near : Near high text other) where
  -- a part of the text was read from pos on, and the other text has the same part if it ends early enough
  abbrev pub Agrees : {X : Type 0} → (X → ℕ) → ℕ → Result X GrammarFault → Result X GrammarFault → Type 0
  Agrees end pos mine yours =
      MatchResult mine (λ x. (pos ≤ end x) × (end x ≤ high → yours ≡ Ok x)) (λ f. (pos ≤ f.place) × (end_from text f.place ≤ high → yours ≡ Err f))

  -- .. or right after the token t, or at it
  abbrev Fits : {X : Type 0} → (X → ℕ) → Token → Result X GrammarFault → Result X GrammarFault → Type 0
  Fits end t mine yours =
      MatchResult mine (λ x. (t.end ≤ end x) × (end x ≤ high → yours ≡ Ok x)) (λ f. ((f.place ≡ t.place) ⊎ (t.end ≤ f.place)) × (end_from text f.place ≤ high → yours ≡ Err f))

  agrees_then : {X Y : Type 0} (ex : X → ℕ) (ey : Y → ℕ) (pos : ℕ) (a b : Result X GrammarFault) (f g : X → Result Y GrammarFault) → Agrees ex pos a b → ((x : X) → Agrees ey (ex x) (f x) (g x)) → Agrees ey pos (and_then a f) (and_then b g)
  agrees_then ex ey pos (Err e) b f g h k = (h.0, λ l. ap (λ r. and_then r g) (h.1 l))
  agrees_then ex ey pos (Ok x) b f g h k = on (f x) (k x)
    where
      on : (r : Result _ GrammarFault) → Agrees ey (ex x) r (g x) → Agrees ey pos r (and_then b g)
      on (Ok y) m = (let l = h.0 in let n = m.0 in omega arith, λ l. ap (λ r. and_then r g) (h.1 (let n = m.0 in omega arith)) ∙ m.1 l)
      on (Err e) m = (let l = h.0 in let n = m.0 in omega arith, λ l. ap (λ r. and_then r g) (h.1 (let n = m.0 in omega arith)) ∙ m.1 l)

  fits_like : {X : Type 0} (end : X → ℕ) (t : Token) (a b c : Result X GrammarFault) → Whole text t → (t.end ≤ high → c ≡ b) → Fits end t a b → Fits end t a c
  fits_like end t (Ok x) b c w same h = (h.0, λ l. same (let n = h.0 in omega arith) ∙ h.1 l)
  fits_like end t (Err f) b c w same h =
      (h.0, λ l. same (⊎_elim (λ e. let x = ap (λ n. end_from text n) e in let y = w.1 in omega arith) (λ n. omega arith) h.0) ∙ h.1 l)

  fits_agrees : {X : Type 0} (end : X → ℕ) (t : Token) (a b : Result X GrammarFault) → Agrees end t.end a b → Fits end t a b
  fits_agrees end t (Ok x) b h = h
  fits_agrees end t (Err f) b h = (inr h.0, h.1)

  token_then : {X : Type 0} (end : X → ℕ) (pos : ℕ) (f g : Token → Result X GrammarFault) → ((t : Token) → Whole text t → Fits end t (f t) (g t)) → Agrees end pos (and_then (lexed text pos) f) (and_then (lexed other pos) g)
  token_then {X} end pos f g h = on (token_at text pos) refl
    where
      judged : (t : Token) (r : Result X GrammarFault) → token_at text pos ≡ Ok t → Fits end t r (g t) → Agrees end pos r (and_then (lexed other pos) g)
      judged t (Ok x) e k =
          let w = lex_whole text pos t e in
          let a = w.0 in
          let b = w.1.0 in
          let c = w.1.1 in
          let n = k.0 in
          let q = ap (λ m. end_from text m) w.2 in
          (omega arith, λ l. ap (λ r. and_then (lifted r) g) (lex_near text other high near pos (omega arith) ∙ e) ∙ k.1 l)
      judged t (Err d) e k =
          let w = lex_whole text pos t e in
          let a = w.0 in
          let b = w.1.0 in
          let c = w.1.1 in
          let q = ap (λ m. end_from text m) w.2 in (
            ⊎_elim (λ s. omega arith) (λ s. omega arith) k.0,
            λ l. let fit : t.end ≤ high = ⊎_elim (λ s. let z = ap (λ m. end_from text m) s in omega arith) (λ s. omega arith) k.0 in
                ap (λ r. and_then (lifted r) g) (lex_near text other high near pos (omega arith) ∙ e) ∙ k.1 l,
          )

      on : (r : Lexed) → token_at text pos ≡ r → Agrees end pos (and_then (lifted r) f) (and_then (lexed other pos) g)
      on (Err d) e =
          let k = blanks false (drop pos text) in
          let at : d.place ≡ place_from text pos = subst (Ends (pos + k) (drop k (drop pos text))) e (ends_token (pos + k) (drop k (drop pos text))) in
          let q = ap (λ m. end_from text m) at in
          (omega arith, λ l. ap (λ r. and_then (lifted r) g) (lex_near text other high near pos (omega arith) ∙ e))
      on (Ok t) e = judged t (f t) e (h t (lex_whole text pos t e).1)

  pub admits_near : (s : Slot) (t : Token) → Whole text t → t.end ≤ high → admits other s t ≡ admits text s t
  admits_near (slot.Word w) t k l = ap (λ b. is_name t.what && bytes_eq b (spelt w)) (bytes_near text other high near t k.0 l)
  admits_near (slot.Mark m) t k l = refl
  admits_near slot.AnyName t k l = refl
  admits_near slot.Version t k l = ap (λ b. is_quoted t.what && bytes_eq b (34 ∷ 50 ∷ 46 ∷ 53 ∷ 34 ∷ [])) (bytes_near text other high near t k.0 l)
  admits_near slot.End t k l = refl

  abbrev pub here : ℕ → ℕ
  here p = p

  expected_agrees : (s : Slot) (pos : ℕ) → Agrees here pos (expected text s pos) (expected other s pos)
  expected_agrees s pos = token_then here pos _ _
      (λ t w. fits_like here t (cond (admits text s t) (Ok t.end) (Err (misplaced t.place))) (cond (admits text s t) (Ok t.end) (Err (misplaced t.place))) _ w
      (λ l. ap (λ b. cond b (Ok t.end) (Err (misplaced t.place))) (admits_near s t w l))
      (cond_both (admits text s t) (Ok t.end) (Err (misplaced t.place)) (λ r. Fits here t r r) (λ _. (omega arith, λ _. refl)) (λ _. (inl refl, λ _. refl))))

  pub followed_agrees : (ss : List Slot) (pos : ℕ) → Agrees here pos (followed text ss pos) (followed other ss pos)
  followed_agrees [] pos = (omega arith, λ _. refl)
  followed_agrees (s ∷ ss) pos = agrees_then here here pos (expected text s pos) (expected other s pos) (λ p. followed text ss p) (λ p. followed other ss p) (expected_agrees s pos) (λ p. followed_agrees ss p)

  abbrev token_end : Token → ℕ
  token_end t = t.end

  named_agrees : (pos : ℕ) → Agrees token_end pos (named text pos) (named other pos)
  named_agrees pos = token_then token_end pos (λ t. if_name t t.what) (λ t. if_name t t.what) (λ t w. name_both (λ r. Fits token_end t r r) t t.what (omega arith, λ _. refl) (inl refl, λ _. refl))

  abbrev numeral_end : ℕ × Token → ℕ
  numeral_end p = p.1.end

  numeral_agrees : (pos : ℕ) → Agrees numeral_end pos (numeral_at text pos) (numeral_at other pos)
  numeral_agrees pos = token_then numeral_end pos (λ t. if_number t t.what) (λ t. if_number t t.what) (λ t w. number_both (λ r. Fits numeral_end t r r) t t.what (λ n. (omega arith, λ _. refl)) (inl refl, λ _. refl))

  pub heading_near : (t : Token) → Whole text t → t.end ≤ high → heading other t ≡ heading text t
  heading_near t w l =
      ap (λ b. cond b (Some kind.Resource) (cond (admits other (slot.Word words.Event) t) (Some kind.Event) (cond (admits other (slot.Word words.Task) t) (Some kind.Task) None))) (admits_near (slot.Word words.Resource) t w l)
      ∙ ap (λ b. cond (admits text (slot.Word words.Resource) t) (Some kind.Resource) (cond b (Some kind.Event) (cond (admits other (slot.Word words.Task) t) (Some kind.Task) None))) (admits_near (slot.Word words.Event) t w l)
      ∙ ap (λ b. cond (admits text (slot.Word words.Resource) t) (Some kind.Resource) (cond (admits text (slot.Word words.Event) t) (Some kind.Event) (cond b (Some kind.Task) None))) (admits_near (slot.Word words.Task) t w l)

  abbrev pub step_end : Step → ℕ
  step_end st = st.pos

  fits_cond : (t : Token) (c : Bool) (a b x y : Result Step GrammarFault) → Fits step_end t a x → Fits step_end t b y → Fits step_end t (cond c a b) (cond c x y)
  fits_cond t true a b x y h g = h
  fits_cond t false a b x y h g = g

  declared_fits : (t : Token) (k : Option Kind) → Fits step_end t (declared_at text t k) (declared_at other t k)
  declared_fits t None = (inl refl, λ _. refl)
  declared_fits t (Some k) = fits_agrees step_end t _ _
      (agrees_then token_end step_end t.end (named text t.end) (named other t.end) (λ n. step (item.Declares k n) (state.Declared k) n.end) (λ n. step (item.Declares k n) (state.Declared k) n.end) (named_agrees t.end) (λ n. (omega arith, λ _. refl)))

  referred_fits : (t : Token) (k : Kind) → Fits step_end t (referred_at text t k) (referred_at other t k)
  referred_fits t k = fits_agrees step_end t _ _
      (agrees_then here step_end t.end (expected text (slot.Mark marks.Equals) t.end) (expected other (slot.Mark marks.Equals) t.end)
      (λ p. and_then (named text p) (λ n. step (item.Refers k n) state.Referred n.end)) (λ p. and_then (named other p) (λ n. step (item.Refers k n) state.Referred n.end))
      (expected_agrees (slot.Mark marks.Equals) t.end)
      (λ p. agrees_then token_end step_end p (named text p) (named other p) (λ n. step (item.Refers k n) state.Referred n.end) (λ n. step (item.Refers k n) state.Referred n.end) (named_agrees p) (λ n. (omega arith, λ _. refl))))

  reference_fits : (t : Token) (k : Option Kind) → Fits step_end t (reference_at text t k) (reference_at other t k)
  reference_fits t None = (inl refl, λ _. refl)
  reference_fits t (Some kind.Resource) = referred_fits t kind.Resource
  reference_fits t (Some kind.Event) = referred_fits t kind.Event
  reference_fits t (Some kind.Task) = (inl refl, λ _. refl)

  abbrev ending : List Slot
  ending = slot.Mark marks.Semicolon ∷ slot.End ∷ []

  object_agrees : (pos : ℕ) → Agrees step_end pos (object_at text pos) (object_at other pos)
  object_agrees pos = token_then step_end pos _ _
      (λ t w. fits_cond t (admits text (slot.Mark marks.Close) t)
      (and_then (followed text ending t.end) (λ p. step item.End state.Closed p)) (declared_at text t (heading text t))
      (and_then (followed other ending t.end) (λ p. step item.End state.Closed p)) (declared_at other t (heading other t))
      (fits_agrees step_end t _ _ (agrees_then here step_end t.end (followed text ending t.end) (followed other ending t.end) (λ p. step item.End state.Closed p) (λ p. step item.End state.Closed p) (followed_agrees ending t.end) (λ p. (omega arith, λ _. refl))))
      (fits_like step_end t (declared_at text t (heading text t)) (declared_at other t (heading text t)) (declared_at other t (heading other t)) w (λ l. ap (declared_at other t) (heading_near t w l)) (declared_fits t (heading text t))))

  attribute_agrees : (pos : ℕ) → Agrees step_end pos (attribute_at text pos) (attribute_at other pos)
  attribute_agrees pos = token_then step_end pos _ _
      (λ t w. fits_cond t (admits text (slot.Mark marks.Close) t)
      (step item.Closes state.Closed t.end) (reference_at text t (heading text t))
      (step item.Closes state.Closed t.end) (reference_at other t (heading other t))
      (omega arith, λ _. refl)
      (fits_like step_end t (reference_at text t (heading text t)) (reference_at other t (heading text t)) (reference_at other t (heading other t)) w (λ l. ap (reference_at other t) (heading_near t w l)) (reference_fits t (heading text t))))

  judged_agrees : (s : State) (pos : ℕ) → Agrees step_end pos (judged_at text s pos) (judged_at other s pos)
  judged_agrees state.Start pos = object_agrees pos
  judged_agrees (state.Declared kind.Resource) pos = object_agrees pos
  judged_agrees (state.Declared kind.Event) pos = object_agrees pos
  judged_agrees (state.Declared kind.Task) pos =
      agrees_then numeral_end step_end pos (numeral_at text pos) (numeral_at other pos) (λ p. step (item.Priority p.0 p.1) state.Prioritized p.1.end) (λ p. step (item.Priority p.0 p.1) state.Prioritized p.1.end) (numeral_agrees pos) (λ p. (omega arith, λ _. refl))
  judged_agrees state.Prioritized pos =
      agrees_then numeral_end step_end pos (numeral_at text pos) (numeral_at other pos) (λ p. step (item.Activation p.0 p.1) state.Activated p.1.end) (λ p. step (item.Activation p.0 p.1) state.Activated p.1.end) (numeral_agrees pos) (λ p. (omega arith, λ _. refl))
  judged_agrees state.Activated pos = attribute_agrees pos
  judged_agrees state.Referred pos = attribute_agrees pos
  judged_agrees state.Closed pos = object_agrees pos

  -- an item that ends early enough, or a fault, is one of the other text too
  pub item_agrees : (s : State) (pos : ℕ) → Agrees step_end pos (item_at text s pos) (item_at other s pos)
  item_agrees s pos = agrees_then here step_end pos (followed text (template s) pos) (followed other (template s) pos) (λ p. judged_at text s p) (λ p. judged_at other s p) (followed_agrees (template s) pos) (λ p. judged_agrees s p)
