-- How an item stands in its text.
use Rattle.std.proofs.Common.{◌≡◌, ℕ, zero, suc, ◌<◌, ◌≤◌, false, cond, List, [], ◌∷◌, length, Some, None, Ok, Option, sym, refl, ap, ◌∙◌, subst, ⊎_elim, arith}
use Rattle.std.proofs.lemmas.Bool.{cases_Bool, cond-true, cond-false}
use Rattle.letters.specs.declared.token.Token.{Token}
use Rattle.grammar.specs.declared.slot.Slot.{Slot}
use Rattle.grammar.specs.declared.slot.Slot.TheVariants as slot
use Rattle.grammar.specs.declared.item.Kind.{Kind}
use Rattle.grammar.specs.declared.item.Kind.TheVariants as kind
use Rattle.grammar.specs.declared.item.State.{State}
use Rattle.grammar.specs.declared.item.State.TheVariants as state
use Rattle.grammar.specs.declared.item.Item.TheVariants as item
use Rattle.grammar.specs.declared.item.Step.{Step}
use Rattle.letters.specs.declared.token.Mark.TheVariants as marks
use Rattle.letters.specs.Tokens.{token_at, bytes_of, is_end}
use Rattle.grammar.specs.Faults.{and_then}
use Rattle.grammar.specs.Slots.{lexed, admits, expected, followed}
use Rattle.grammar.specs.Items.{if_name, named, if_number, numeral_at, heading, template, step, declared_at, object_at, referred_at, reference_at, attribute_at, judged_at, item_at}
use Rattle.letters.specs.Extents.{end_from}
use Rattle.grammar.proofs.Through.{fit, through, lexed_ok, as_name, as_numeral}
use Rattle.letters.proofs.Named.{Named, lex_goes}
use Rattle.letters.proofs.Near.{Near}
use Rattle.letters.proofs.Local.{lex_whole}
use Rattle.grammar.proofs.Agrees.{here, Agrees, followed_agrees}
use Rattle.grammar.specs.declared.item.Item.{Item}

pub near_self : (n : ℕ) (xs : List ℕ) → Near n xs xs
near_self zero [] = tt
near_self zero (x ∷ xs) = refl
near_self (suc n) [] = tt
near_self (suc n) (x ∷ xs) = (refl, near_self n xs)

module _ (text : List ℕ) where
  -- a token that is not the end
  abbrev pub Sits : ℕ → Token → Type 0
  Sits pos t = (t.place ≤ t.end) × (t.end ≡ end_from text t.place) × (pos ≤ t.place) × (pos < t.end) × (t.end ≤ length text)

  sits : (pos : ℕ) (t : Token) → lexed text pos ≡ Ok t → is_end t.what ≡ false → Sits pos t
  sits pos t h e =
      let l = lexed_ok (token_at text pos) t h in
      let w = lex_whole text pos t l in
      let g = (lex_goes text pos t l).1 e in
      (w.1.0, w.1.1, w.0, g.0, g.1)

  named_sits : (pos : ℕ) (u : Token) → named text pos ≡ Ok u → Sits pos u × Named (bytes_of text u)
  named_sits pos u h =
      let x = through (lexed text pos) (λ t. if_name t t.what) u h in
      let y = as_name x.0 u x.0.what x.2 in
      let z = (lex_goes text pos x.0 (lexed_ok (token_at text pos) x.0 x.1)).2 y.2 in
      (subst (Sits pos) y.0 (sits pos x.0 x.1 y.1), subst (λ t. Named (bytes_of text t)) y.0 z)

  numeral_sits : (pos : ℕ) (u : ℕ × Token) → numeral_at text pos ≡ Ok u → Sits pos u.1
  numeral_sits pos u h =
      let x = through (lexed text pos) (λ t. if_number t t.what) u h in
      let y = as_numeral (bytes_of text x.0) x.0 u x.0.what x.2 in
      subst (Sits pos) y.0 (sits pos x.0 x.1 y.1)

  followed_on : (ss : List Slot) (pos p : ℕ) → followed text ss pos ≡ Ok p → pos ≤ p
  followed_on ss pos p h = (subst (λ r. Agrees text text 0 (near_self 0 text) (here text text 0 (near_self 0 text)) pos r (followed text ss pos)) h (followed_agrees text text 0 (near_self 0 text) ss pos)).0

  abbrev pub ItemSits : Item → ℕ → ℕ → Type 0
  ItemSits (item.Declares k t) pos end = Sits pos t × (t.end ≡ end) × Named (bytes_of text t)
  ItemSits (item.Priority n t) pos end = Sits pos t × (t.end ≡ end)
  ItemSits (item.Activation n t) pos end = Sits pos t × (t.end ≡ end)
  ItemSits (item.Refers k t) pos end = Sits pos t × (t.end ≡ end) × Named (bytes_of text t)
  ItemSits item.Closes pos end = (pos < end) × (end ≤ length text)
  ItemSits item.End pos end = Unit {0}

  sits_less : (pos p : ℕ) (t : Token) → pos ≤ p → Sits p t → Sits pos t
  sits_less pos p t l h = (h.0, h.1, (let a = h.2 in omega arith), (let a = h.3 in omega arith), h.4)

  item_less : (pos p end : ℕ) (i : Item) → pos ≤ p → ItemSits i p end → ItemSits i pos end
  item_less pos p end (item.Declares k t) l h = (sits_less pos p t l h.0, h.1, h.2)
  item_less pos p end (item.Priority n t) l h = (sits_less pos p t l h.0, h.1)
  item_less pos p end (item.Activation n t) l h = (sits_less pos p t l h.0, h.1)
  item_less pos p end (item.Refers k t) l h = (sits_less pos p t l h.0, h.1, h.2)
  item_less pos p end item.Closes l h = ((let a = h.0 in omega arith), h.1)
  item_less pos p end item.End l h = tt

  abbrev StepSits : ℕ → Step → Type 0
  StepSits pos st = ItemSits st.item pos st.pos

  lex_up : (pos : ℕ) (t : Token) → lexed text pos ≡ Ok t → pos ≤ t.end
  lex_up pos t h = (lex_goes text pos t (lexed_ok (token_at text pos) t h)).0

  declared_sits : (p : ℕ) (t : Token) (k : Option Kind) (st : Step) → p ≤ t.end → declared_at text t k ≡ Ok st → StepSits p st
  declared_sits p t None st l h = let z : ◌≡◌ {A = ℕ} 0 1 = cc in absurd (omega arith)
  declared_sits p t (Some k) st l h =
      let x = through (named text t.end) (λ n. step (item.Declares k n) (state.Declared k) n.end) st h in
      let e : record { item = item.Declares k x.0; state = state.Declared k; pos = x.0.end } ≡ st = cc in
      subst (λ s. StepSits p s) e (let n = named_sits t.end x.0 x.1 in (sits_less p t.end x.0 l n.0, refl, n.1))

  object_sits : (p : ℕ) (st : Step) → object_at text p ≡ Ok st → StepSits p st
  object_sits p st h =
      let x = through (lexed text p) (λ t. cond (admits text (slot.Mark marks.Close) t)
      (and_then (followed text (slot.Mark marks.Semicolon ∷ slot.End ∷ []) t.end) (λ q. step item.End state.Closed q))
      (declared_at text t (heading text t))) st h in
      let t = x.0 in
      let closing = and_then (followed text (slot.Mark marks.Semicolon ∷ slot.End ∷ []) t.end) (λ q. step item.End state.Closed q) in
      let opening = declared_at text t (heading text t) in
      ⊎_elim
      (λ y.
      let c : closing ≡ Ok st = sym (cond-true (admits text (slot.Mark marks.Close) t) closing opening y) ∙ x.2 in
      let z = through (followed text (slot.Mark marks.Semicolon ∷ slot.End ∷ []) t.end) (λ q. step item.End state.Closed q) st c in
      let e : record { item = item.End; state = state.Closed; pos = z.0 } ≡ st = cc in
      subst (λ s. StepSits p s) e tt)
      (λ n. declared_sits p t (heading text t) st (lex_up p t x.1) (sym (cond-false (admits text (slot.Mark marks.Close) t) closing opening n) ∙ x.2))
      (cases_Bool (admits text (slot.Mark marks.Close) t))

  referred_sits : (p : ℕ) (t : Token) (k : Kind) (st : Step) → p ≤ t.end → referred_at text t k ≡ Ok st → StepSits p st
  referred_sits p t k st l h =
      let x = through (expected text (slot.Mark marks.Equals) t.end) (λ q. and_then (named text q) (λ n. step (item.Refers k n) state.Referred n.end)) st h in
      let y = through (named text x.0) (λ n. step (item.Refers k n) state.Referred n.end) st x.2 in
      let up = followed_on (slot.Mark marks.Equals ∷ []) t.end x.0 (ap (λ r. and_then r (λ q. followed text [] q)) x.1) in
      let e : record { item = item.Refers k y.0; state = state.Referred; pos = y.0.end } ≡ st = cc in
      subst (λ s. StepSits p s) e (let n = named_sits x.0 y.0 y.1 in (sits_less p x.0 y.0 (omega arith) n.0, refl, n.1))

  reference_sits : (p : ℕ) (t : Token) (k : Option Kind) (st : Step) → p ≤ t.end → reference_at text t k ≡ Ok st → StepSits p st
  reference_sits p t None st l h = let z : ◌≡◌ {A = ℕ} 0 1 = cc in absurd (omega arith)
  reference_sits p t (Some kind.Resource) st l h = referred_sits p t kind.Resource st l h
  reference_sits p t (Some kind.Event) st l h = referred_sits p t kind.Event st l h
  reference_sits p t (Some kind.Task) st l h = let z : ◌≡◌ {A = ℕ} 0 1 = cc in absurd (omega arith)

  attribute_sits : (p : ℕ) (st : Step) → attribute_at text p ≡ Ok st → StepSits p st
  attribute_sits p st h =
      let x = through (lexed text p) (λ t. cond (admits text (slot.Mark marks.Close) t) (step item.Closes state.Closed t.end) (reference_at text t (heading text t))) st h in
      let t = x.0 in
      let closing = step item.Closes state.Closed t.end in
      let opening = reference_at text t (heading text t) in
      ⊎_elim
      (λ y.
      let c : closing ≡ Ok st = sym (cond-true (admits text (slot.Mark marks.Close) t) closing opening y) ∙ x.2 in
      let e : record { item = item.Closes; state = state.Closed; pos = t.end } ≡ st = cc in
      let s = sits p t x.1 (fit text (slot.Mark marks.Close) t tt y).0 in
      subst (λ z. StepSits p z) e (s.3, s.4))
      (λ n. reference_sits p t (heading text t) st (lex_up p t x.1) (sym (cond-false (admits text (slot.Mark marks.Close) t) closing opening n) ∙ x.2))
      (cases_Bool (admits text (slot.Mark marks.Close) t))

  judged_sits : (s : State) (p : ℕ) (st : Step) → judged_at text s p ≡ Ok st → StepSits p st
  judged_sits state.Start p st h = object_sits p st h
  judged_sits (state.Declared kind.Resource) p st h = object_sits p st h
  judged_sits (state.Declared kind.Event) p st h = object_sits p st h
  judged_sits (state.Declared kind.Task) p st h =
      let x = through (numeral_at text p) (λ q. step (item.Priority q.0 q.1) state.Prioritized q.1.end) st h in
      let e : record { item = item.Priority x.0.0 x.0.1; state = state.Prioritized; pos = x.0.1.end } ≡ st = cc in
      subst (λ z. StepSits p z) e (numeral_sits p x.0 x.1, refl)
  judged_sits state.Prioritized p st h =
      let x = through (numeral_at text p) (λ q. step (item.Activation q.0 q.1) state.Activated q.1.end) st h in
      let e : record { item = item.Activation x.0.0 x.0.1; state = state.Activated; pos = x.0.1.end } ≡ st = cc in
      subst (λ z. StepSits p z) e (numeral_sits p x.0 x.1, refl)
  judged_sits state.Activated p st h = attribute_sits p st h
  judged_sits state.Referred p st h = attribute_sits p st h
  judged_sits state.Closed p st h = object_sits p st h

  -- an item lies in the text, from pos on, and goes on
  pub item_sits : (s : State) (pos : ℕ) (st : Step) → item_at text s pos ≡ Ok st → ItemSits st.item pos st.pos
  item_sits s pos st h =
      let j = through (followed text (template s) pos) (λ p. judged_at text s p) st h in
      item_less pos j.0 st.pos st.item (followed_on (template s) pos j.0 j.1) (judged_sits s j.0 st j.2)
