-- The grammar takes only texts that some objects have.
use Rattle.std.proofs.Common.{◌≡◌, ℕ, true, false, cond, List, [], ◌∷◌, ◌++◌, Some, None, Ok, Err, codes, Option, sym, refl, ap, ◌∙◌, subst, ⊎_elim, arith}
use Rattle.std.proofs.lemmas.Bool.{false≢true, cases_Bool, cond-true, cond-false}
use Rattle.letters.specs.declared.token.Token.{Token}
use Rattle.grammar.specs.declared.slot.Slot.{Slot}
use Rattle.grammar.specs.declared.slot.Slot.TheVariants as slot
use Rattle.grammar.specs.declared.word.Word.TheVariants as words
use Rattle.grammar.specs.declared.item.Kind.{Kind}
use Rattle.grammar.specs.declared.item.Kind.TheVariants as kind
use Rattle.grammar.specs.declared.item.State.{State}
use Rattle.grammar.specs.declared.item.State.TheVariants as state
use Rattle.grammar.specs.declared.item.Item.TheVariants as item
use Rattle.grammar.specs.declared.item.Step.{Step}
use Rattle.letters.specs.declared.token.Mark.TheVariants as marks
use Rattle.letters.specs.Tokens.{token_at, bytes_of, is_end}
use Rattle.grammar.specs.Faults.{and_then, misplaced}
use Rattle.grammar.specs.Slots.{lexed, spelt, admits, expected, followed}
use Rattle.grammar.specs.Items.{if_name, named, if_number, numeral_at, heading, template, step, declared_at, object_at, referred_at, reference_at, attribute_at, judged_at, item_at}
use Rattle.grammar.proofs.Through.{fit_name, fit, through, lexed_ok, tested, as_name, as_numeral, is_last}
use Rattle.grammar.specs.Language.{Sign, word, num, str, mark, sign_of, Scan, stop, reads, AtEnd, Spells, Reference, uses, awaits, Object, resource, event, task, reference, references, resource_rest, event_rest, activation_rest, priority_rest, task_rest, objects, unparse, Run, ends, goes}

abbrev pub slot_sign : Slot → Sign
slot_sign (slot.Word w) = word (spelt w)
slot_sign (slot.Mark m) = mark m
slot_sign slot.AnyName = str []
slot_sign slot.Version = str (34 ∷ 50 ∷ 46 ∷ 53 ∷ 34 ∷ [])
slot_sign slot.End = str []

-- a slot with one sign
abbrev pub Fixed : Slot → Type 0
Fixed (slot.Word w) = Unit {0}
Fixed (slot.Mark m) = Unit {0}
Fixed slot.AnyName = ⊥
Fixed slot.Version = Unit {0}
Fixed slot.End = ⊥

abbrev pub AllFixed : List Slot → Type 0
AllFixed [] = Unit {0}
AllFixed (s ∷ ss) = Fixed s × AllFixed ss

abbrev pub signs_then : List Slot → List Sign → List Sign
signs_then [] us = us
signs_then (s ∷ ss) us = slot_sign s ∷ signs_then ss us

fixed_fit : (text : List ℕ) (s : Slot) (t : Token) → Fixed s → admits text s t ≡ true → (is_end t.what ≡ false) × (sign_of text t ≡ slot_sign s)
fixed_fit text (slot.Word w) t n h = fit text (slot.Word w) t tt h
fixed_fit text (slot.Mark m) t n h = fit text (slot.Mark m) t tt h
fixed_fit text slot.AnyName t n h = absurd n
fixed_fit text slot.Version t n h = fit text slot.Version t tt h
fixed_fit text slot.End t n h = absurd n

module _ (text : List ℕ) where
  -- a token before others
  before : (pos p : ℕ) (t : Token) (s : Sign) (us : List Sign) (q : ℕ) → lexed text pos ≡ Ok t → is_end t.what ≡ false → sign_of text t ≡ s → t.end ≡ p → Scan text p us q → Scan text pos (s ∷ us) q
  before pos p t s us q l e is at sc =
      subst (λ x. Scan text pos (x ∷ us) q) is (reads t (lexed_ok (token_at text pos) t l) e (subst (λ x. Scan text x us q) (sym at) sc))

  one_scan : (s : Slot) (pos p : ℕ) → Fixed s → expected text s pos ≡ Ok p → (us : List Sign) (q : ℕ) → Scan text p us q → Scan text pos (slot_sign s ∷ us) q
  one_scan s pos p f h us q sc =
      let x = through (lexed text pos) (λ t. cond (admits text s t) (Ok t.end) (Err (misplaced t.place))) p h in
      let y = tested (admits text s x.0) x.0.end p (misplaced x.0.place) x.2 in
      let z = fixed_fit text s x.0 f y.0 in
      before pos p x.0 (slot_sign s) us q x.1 z.0 z.1 y.1 sc

  fixed_scan : (ss : List Slot) (pos p : ℕ) → AllFixed ss → followed text ss pos ≡ Ok p → (us : List Sign) (q : ℕ) → Scan text p us q → Scan text pos (signs_then ss us) q
  fixed_scan [] pos p f h us q sc = let e : pos ≡ p = cc in subst (λ x. Scan text x us q) (sym e) sc
  fixed_scan (s ∷ ss) pos p f h us q sc =
      let x = through (expected text s pos) (λ r. followed text ss r) p h in
      one_scan s pos x.0 f.0 x.1 (signs_then ss us) q (fixed_scan ss x.0 p f.1 x.2 us q sc)

  named_scan : (pos : ℕ) (u : Token) → named text pos ≡ Ok u → (us : List Sign) (q : ℕ) → Scan text u.end us q → Scan text pos (word (bytes_of text u) ∷ us) q
  named_scan pos u h us q sc =
      let x = through (lexed text pos) (λ t. if_name t t.what) u h in
      let y = as_name x.0 u x.0.what x.2 in
      let z = fit_name (bytes_of text x.0) x.0.what y.2 in
      before pos u.end x.0 (word (bytes_of text u)) us q x.1 z.0 (z.1 ∙ ap (λ t. word (bytes_of text t)) y.0) (ap (λ (t : Token). t.end) y.0) sc

  numeral_scan : (pos n : ℕ) (u : Token) → numeral_at text pos ≡ Ok (n, u) → (us : List Sign) (q : ℕ) → Scan text u.end us q → Scan text pos (num n ∷ us) q
  numeral_scan pos n u h us q sc =
      let x = through (lexed text pos) (λ t. if_number t t.what) (n, u) h in
      let y = as_numeral (bytes_of text x.0) x.0 (n, u) x.0.what x.2 in
      before pos u.end x.0 (num n) us q x.1 y.1 y.2 (ap (λ (t : Token). t.end) y.0) sc

  kind_word : Kind → Sign
  kind_word kind.Resource = word (codes "RESOURCE")
  kind_word kind.Event = word (codes "EVENT")
  kind_word kind.Task = word (codes "TASK")

  heading_sign : (t : Token) (k : Kind) → heading text t ≡ Some k → (is_end t.what ≡ false) × (sign_of text t ≡ kind_word k)
  unfolding kind_word
  heading_sign t k h =
      ⊎_elim
      (λ y. let e : kind.Resource ≡ k = cc (cond-true (admits text (slot.Word words.Resource) t) (Some kind.Resource) (cond (admits text (slot.Word words.Event) t) (Some kind.Event) (cond (admits text (slot.Word words.Task) t) (Some kind.Task) None)) y) in
      subst (λ x. (is_end t.what ≡ false) × (sign_of text t ≡ kind_word x)) e (fit text (slot.Word words.Resource) t tt y))
      (λ n. ⊎_elim
      (λ y. let e : kind.Event ≡ k = cc (cond-false (admits text (slot.Word words.Resource) t) (Some kind.Resource) (cond (admits text (slot.Word words.Event) t) (Some kind.Event) (cond (admits text (slot.Word words.Task) t) (Some kind.Task) None)) n, cond-true (admits text (slot.Word words.Event) t) (Some kind.Event) (cond (admits text (slot.Word words.Task) t) (Some kind.Task) None) y) in
      subst (λ x. (is_end t.what ≡ false) × (sign_of text t ≡ kind_word x)) e (fit text (slot.Word words.Event) t tt y))
      (λ m. ⊎_elim
      (λ y. let e : kind.Task ≡ k = cc (cond-false (admits text (slot.Word words.Resource) t) (Some kind.Resource) (cond (admits text (slot.Word words.Event) t) (Some kind.Event) (cond (admits text (slot.Word words.Task) t) (Some kind.Task) None)) n, cond-false (admits text (slot.Word words.Event) t) (Some kind.Event) (cond (admits text (slot.Word words.Task) t) (Some kind.Task) None) m, cond-true (admits text (slot.Word words.Task) t) (Some kind.Task) None y) in
      subst (λ x. (is_end t.what ≡ false) × (sign_of text t ≡ kind_word x)) e (fit text (slot.Word words.Task) t tt y))
      (λ l. let z : ◌≡◌ {A = ℕ} 0 1 = cc (cond-false (admits text (slot.Word words.Resource) t) (Some kind.Resource) (cond (admits text (slot.Word words.Event) t) (Some kind.Event) (cond (admits text (slot.Word words.Task) t) (Some kind.Task) None)) n, cond-false (admits text (slot.Word words.Event) t) (Some kind.Event) (cond (admits text (slot.Word words.Task) t) (Some kind.Task) None) m, cond-false (admits text (slot.Word words.Task) t) (Some kind.Task) None l) in absurd (omega arith))
      (cases_Bool (admits text (slot.Word words.Task) t)))
      (cases_Bool (admits text (slot.Word words.Event) t)))
      (cases_Bool (admits text (slot.Word words.Resource) t))

  -- the two ways of a step at the level of objects
  data ObjectStep (pos : ℕ) : Step → Type 0 where
    closes : (p q : ℕ) → Scan text pos (mark marks.Close ∷ mark marks.Semicolon ∷ []) q → AtEnd text q → ObjectStep pos (record { item = item.End; state = state.Closed; pos = p })
    opens : (k : Kind) (n : Token) → ((us : List Sign) (q : ℕ) → Scan text n.end us q → Scan text pos (kind_word k ∷ word (bytes_of text n) ∷ us) q) → ObjectStep pos (record { item = item.Declares k n; state = state.Declared k; pos = n.end })

  -- the end of the text after a mark
  last_scan : (pos p : ℕ) → followed text (slot.Mark marks.Semicolon ∷ slot.End ∷ []) pos ≡ Ok p → (q : ℕ) × Scan text pos (mark marks.Semicolon ∷ []) q × AtEnd text q
  last_scan pos p h =
      let x = through (expected text (slot.Mark marks.Semicolon) pos) (λ r. followed text (slot.End ∷ []) r) p h in
      let y = through (expected text slot.End x.0) (λ r. followed text [] r) p x.2 in
      let z = through (lexed text x.0) (λ t. cond (admits text slot.End t) (Ok t.end) (Err (misplaced t.place))) y.0 y.1 in
      let w = tested (admits text slot.End z.0) z.0.end y.0 (misplaced z.0.place) z.2 in
      (x.0, one_scan (slot.Mark marks.Semicolon) pos x.0 tt x.1 [] x.0 stop, (z.0, lexed_ok (token_at text x.0) z.0 z.1, w.0))

  object_declared : (pos : ℕ) (t : Token) (k : Option Kind) (st : Step) → heading text t ≡ k → lexed text pos ≡ Ok t → declared_at text t k ≡ Ok st → ObjectStep pos st
  object_declared pos t None st hd l h = let z : ◌≡◌ {A = ℕ} 0 1 = cc in absurd (omega arith)
  object_declared pos t (Some k) st hd l h =
      let x = through (named text t.end) (λ n. step (item.Declares k n) (state.Declared k) n.end) st h in
      let s = heading_sign t k hd in
      let e : record { item = item.Declares k x.0; state = state.Declared k; pos = x.0.end } ≡ st = cc in
      subst (λ y. ObjectStep pos y) e
      (opens k x.0 (λ us q sc. before pos t.end t (kind_word k) (word (bytes_of text x.0) ∷ us) q l s.0 s.1 refl (named_scan t.end x.0 x.1 us q sc)))

  object_step : (pos : ℕ) (st : Step) → object_at text pos ≡ Ok st → ObjectStep pos st
  object_step pos st h =
      let x = through (lexed text pos) (λ t. cond (admits text (slot.Mark marks.Close) t)
      (and_then (followed text (slot.Mark marks.Semicolon ∷ slot.End ∷ []) t.end) (λ p. step item.End state.Closed p))
      (declared_at text t (heading text t))) st h in
      let t = x.0 in
      let closing = and_then (followed text (slot.Mark marks.Semicolon ∷ slot.End ∷ []) t.end) (λ p. step item.End state.Closed p) in
      let opening = declared_at text t (heading text t) in
      ⊎_elim
      (λ y. let f = fixed_fit text (slot.Mark marks.Close) t tt y in
      let c : closing ≡ Ok st = sym (cond-true (admits text (slot.Mark marks.Close) t) closing opening y) ∙ x.2 in
      let z = through (followed text (slot.Mark marks.Semicolon ∷ slot.End ∷ []) t.end) (λ p. step item.End state.Closed p) st c in
      let l = last_scan t.end z.0 z.1 in
      let e : record { item = item.End; state = state.Closed; pos = z.0 } ≡ st = cc in
      subst (λ s. ObjectStep pos s) e (closes z.0 l.0 (before pos t.end t (mark marks.Close) (mark marks.Semicolon ∷ []) l.0 x.1 f.0 f.1 refl l.1) l.2))
      (λ n. object_declared pos t (heading text t) st refl x.1 (sym (cond-false (admits text (slot.Mark marks.Close) t) closing opening n) ∙ x.2))
      (cases_Bool (admits text (slot.Mark marks.Close) t))

  -- the two ways of a step at the level of a task's references
  data AttributeStep (pos : ℕ) : Step → Type 0 where
    closes_task : (p : ℕ) → ((us : List Sign) (q : ℕ) → Scan text p us q → Scan text pos (mark marks.Close ∷ us) q) → AttributeStep pos (record { item = item.Closes; state = state.Closed; pos = p })
    refers : (k : Kind) (n : Token) (r : Reference) → ((us : List Sign) (q : ℕ) → Scan text n.end (mark marks.Semicolon ∷ us) q → Scan text pos (reference r us) q) → AttributeStep pos (record { item = item.Refers k n; state = state.Referred; pos = n.end })

  referred_step : (pos : ℕ) (t : Token) (k : Kind) (make : List ℕ → Reference) (st : Step) → ((n : List ℕ) (us : List Sign) → reference (make n) us ≡ kind_word k ∷ mark marks.Equals ∷ word n ∷ mark marks.Semicolon ∷ us) → heading text t ≡ Some k → lexed text pos ≡ Ok t → referred_at text t k ≡ Ok st → AttributeStep pos st
  referred_step pos t k make st form hd l h =
      let x = through (expected text (slot.Mark marks.Equals) t.end) (λ p. and_then (named text p) (λ n. step (item.Refers k n) state.Referred n.end)) st h in
      let y = through (named text x.0) (λ n. step (item.Refers k n) state.Referred n.end) st x.2 in
      let s = heading_sign t k hd in
      let e : record { item = item.Refers k y.0; state = state.Referred; pos = y.0.end } ≡ st = cc in
      subst (λ z. AttributeStep pos z) e
      (refers k y.0 (make (bytes_of text y.0))
      (λ us q sc. subst (λ ss. Scan text pos ss q) (sym (form (bytes_of text y.0) us))
      (before pos t.end t (kind_word k) (mark marks.Equals ∷ word (bytes_of text y.0) ∷ mark marks.Semicolon ∷ us) q l s.0 s.1 refl
      (one_scan (slot.Mark marks.Equals) t.end x.0 tt x.1 (word (bytes_of text y.0) ∷ mark marks.Semicolon ∷ us) q
      (named_scan x.0 y.0 y.1 (mark marks.Semicolon ∷ us) q sc)))))

  attribute_referred : (pos : ℕ) (t : Token) (k : Option Kind) (st : Step) → heading text t ≡ k → lexed text pos ≡ Ok t → reference_at text t k ≡ Ok st → AttributeStep pos st
  unfolding kind_word
  attribute_referred pos t None st hd l h = let z : ◌≡◌ {A = ℕ} 0 1 = cc in absurd (omega arith)
  attribute_referred pos t (Some kind.Resource) st hd l h = referred_step pos t kind.Resource uses st (λ n us. refl) hd l h
  attribute_referred pos t (Some kind.Event) st hd l h = referred_step pos t kind.Event awaits st (λ n us. refl) hd l h
  attribute_referred pos t (Some kind.Task) st hd l h = let z : ◌≡◌ {A = ℕ} 0 1 = cc in absurd (omega arith)

  attribute_step : (pos : ℕ) (st : Step) → attribute_at text pos ≡ Ok st → AttributeStep pos st
  attribute_step pos st h =
      let x = through (lexed text pos) (λ t. cond (admits text (slot.Mark marks.Close) t) (step item.Closes state.Closed t.end) (reference_at text t (heading text t))) st h in
      let t = x.0 in
      let closing = step item.Closes state.Closed t.end in
      let opening = reference_at text t (heading text t) in
      ⊎_elim
      (λ y. let f = fixed_fit text (slot.Mark marks.Close) t tt y in
      let c : closing ≡ Ok st = sym (cond-true (admits text (slot.Mark marks.Close) t) closing opening y) ∙ x.2 in
      let e : record { item = item.Closes; state = state.Closed; pos = t.end } ≡ st = cc in
      subst (λ s. AttributeStep pos s) e (closes_task t.end (λ us q sc. before pos t.end t (mark marks.Close) us q x.1 f.0 f.1 refl sc)))
      (λ n. attribute_referred pos t (heading text t) st refl x.1 (sym (cond-false (admits text (slot.Mark marks.Close) t) closing opening n) ∙ x.2))
      (cases_Bool (admits text (slot.Mark marks.Close) t))

  -- what follows a place
  abbrev From : ℕ → List Sign → Type 0
  From pos ss = (q : ℕ) × Scan text pos ss q × AtEnd text q

  abbrev ObjectsAt : ℕ → Type 0
  ObjectsAt pos = (os : List Object) × From pos (objects os)

  abbrev ReferencesAt : ℕ → Type 0
  ReferencesAt pos = (rs : List Reference) × (os : List Object) × From pos (references rs (objects os))

  abbrev Rest : State → ℕ → Type 0
  Rest state.Start pos = (cpu : List ℕ) × (os : List Object) × From pos (unparse cpu os)
  Rest (state.Declared kind.Resource) pos = (os : List Object) × From pos (resource_rest (objects os))
  Rest (state.Declared kind.Event) pos = (os : List Object) × From pos (event_rest (objects os))
  Rest (state.Declared kind.Task) pos = (p : ℕ) × (a : ℕ) × (rs : List Reference) × (os : List Object) × From pos (task_rest p a (references rs (objects os)))
  Rest state.Prioritized pos = (a : ℕ) × (rs : List Reference) × (os : List Object) × From pos (priority_rest a (references rs (objects os)))
  Rest state.Activated pos = (rs : List Reference) × (os : List Object) × From pos (activation_rest (references rs (objects os)))
  Rest state.Referred pos = (rs : List Reference) × (os : List Object) × From pos (mark marks.Semicolon ∷ references rs (objects os))
  Rest state.Closed pos = (os : List Object) × From pos (mark marks.Semicolon ∷ objects os)

  -- the rest after a step that is not the last
  abbrev Later : Step → Type 0
  Later st = (st.item ≡ item.End → ⊥) → Rest st.state st.pos

  objects_at : (pos : ℕ) (st : Step) → ObjectStep pos st → Later st → ObjectsAt pos
  unfolding kind_word
  objects_at pos st (closes p q sc at) later = ([], (q, sc, at))
  objects_at pos st (opens kind.Resource n sc) later =
      let r = later (λ e. absurd (false≢true (ap is_last e))) in
      (resource (bytes_of text n) ∷ r.0, (r.1.0, sc (resource_rest (objects r.0)) r.1.0 r.1.1, r.1.2))
  objects_at pos st (opens kind.Event n sc) later =
      let r = later (λ e. absurd (false≢true (ap is_last e))) in
      (event (bytes_of text n) ∷ r.0, (r.1.0, sc (event_rest (objects r.0)) r.1.0 r.1.1, r.1.2))
  objects_at pos st (opens kind.Task n sc) later =
      let r = later (λ e. absurd (false≢true (ap is_last e))) in
      (task (bytes_of text n) r.0 r.1 r.2 ∷ r.3, (r.4.0, sc (task_rest r.0 r.1 (references r.2 (objects r.3))) r.4.0 r.4.1, r.4.2))

  references_at : (pos : ℕ) (st : Step) → AttributeStep pos st → Later st → ReferencesAt pos
  references_at pos st (closes_task p sc) later =
      let r = later (λ e. absurd (false≢true (ap is_last e))) in
      ([], r.0, (r.1.0, sc (mark marks.Semicolon ∷ objects r.0) r.1.0 r.1.1, r.1.2))
  references_at pos st (refers k n x sc) later =
      let r = later (λ e. absurd (false≢true (ap is_last e))) in
      (x ∷ r.0, r.1, (r.2.0, sc (references r.0 (objects r.1)) r.2.0 r.2.1, r.2.2))

  followed_split : (a b : List Slot) (pos p : ℕ) → followed text (a ++ b) pos ≡ Ok p → (m : ℕ) × (followed text a pos ≡ Ok m) × (followed text b m ≡ Ok p)
  followed_split [] b pos p h = (pos, refl, h)
  followed_split (s ∷ a) b pos p h =
      let x = through (expected text s pos) (λ r. followed text (a ++ b) r) p h in
      let y = followed_split a b x.0 p x.2 in
      (y.0, ap (λ r. and_then r (λ q. followed text a q)) x.1 ∙ y.1, y.2)

  any_scan : (pos p : ℕ) → expected text slot.AnyName pos ≡ Ok p → (n : List ℕ) × ((us : List Sign) (q : ℕ) → Scan text p us q → Scan text pos (word n ∷ us) q)
  any_scan pos p h =
      let x = through (lexed text pos) (λ t. cond (admits text slot.AnyName t) (Ok t.end) (Err (misplaced t.place))) p h in
      let y = tested (admits text slot.AnyName x.0) x.0.end p (misplaced x.0.place) x.2 in
      let z = fit_name (bytes_of text x.0) x.0.what y.0 in
      (bytes_of text x.0, λ us q sc. before pos p x.0 (word (bytes_of text x.0)) us q x.1 z.0 z.1 y.1 sc)

  -- what came after the template of a state
  judged : (s : State) (pos : ℕ) (st : Step) → item_at text s pos ≡ Ok st → (p : ℕ) × (followed text (template s) pos ≡ Ok p) × (judged_at text s p ≡ Ok st)
  judged s pos st h = through (followed text (template s) pos) (λ p. judged_at text s p) st h

  fold : (s : State) (pos : ℕ) (st : Step) → item_at text s pos ≡ Ok st → Later st → Rest s pos
  fold state.Start pos st h later =
      let j = judged state.Start pos st h in
      let o = objects_at j.0 st (object_step j.0 st j.2) later in
      let front = slot.Word words.OilVersion ∷ slot.Mark marks.Equals ∷ slot.Version ∷ slot.Mark marks.Semicolon ∷ slot.Word words.Cpu ∷ [] in
      let x = followed_split front (slot.AnyName ∷ slot.Mark marks.Open ∷ []) pos j.0 j.1 in
      let y = through (expected text slot.AnyName x.0) (λ r. followed text (slot.Mark marks.Open ∷ []) r) j.0 x.2 in
      let n = any_scan x.0 y.0 y.1 in (
        n.0,
        o.0,
        (
          o.1.0,
          fixed_scan front pos x.0 (tt, (tt, (tt, (tt, (tt, tt))))) x.1 (word n.0 ∷ mark marks.Open ∷ objects o.0) o.1.0
              (n.1 (mark marks.Open ∷ objects o.0) o.1.0 (fixed_scan (slot.Mark marks.Open ∷ []) y.0 j.0 (tt, tt) y.2 (objects o.0) o.1.0 o.1.1)),
          o.1.2,
        ),
      )
  fold (state.Declared kind.Resource) pos st h later =
      let j = judged (state.Declared kind.Resource) pos st h in
      let o = objects_at j.0 st (object_step j.0 st j.2) later in
      (o.0, (o.1.0, fixed_scan (template (state.Declared kind.Resource)) pos j.0 (tt, (tt, (tt, (tt, (tt, (tt, (tt, tt))))))) j.1 (objects o.0) o.1.0 o.1.1, o.1.2))
  fold (state.Declared kind.Event) pos st h later =
      let j = judged (state.Declared kind.Event) pos st h in
      let o = objects_at j.0 st (object_step j.0 st j.2) later in
      (o.0, (o.1.0, fixed_scan (template (state.Declared kind.Event)) pos j.0 (tt, (tt, (tt, (tt, (tt, (tt, (tt, tt))))))) j.1 (objects o.0) o.1.0 o.1.1, o.1.2))
  fold (state.Declared kind.Task) pos st h later =
      let j = judged (state.Declared kind.Task) pos st h in
      let x = through (numeral_at text j.0) (λ p. step (item.Priority p.0 p.1) state.Prioritized p.1.end) st j.2 in
      let e : record { item = item.Priority x.0.0 x.0.1; state = state.Prioritized; pos = x.0.1.end } ≡ st = cc in
      let r = (subst (λ z. Later z) (sym e) later) (λ c. absurd (false≢true (ap is_last c))) in
      let us = priority_rest r.0 (references r.1 (objects r.2)) in (
        x.0.0,
        r.0,
        r.1,
        r.2,
        (
          r.3.0,
          fixed_scan (template (state.Declared kind.Task)) pos j.0 (tt, (tt, (tt, tt))) j.1 (num x.0.0 ∷ us) r.3.0
              (numeral_scan j.0 x.0.0 x.0.1 x.1 us r.3.0 r.3.1),
          r.3.2,
        ),
      )
  fold state.Prioritized pos st h later =
      let j = judged state.Prioritized pos st h in
      let x = through (numeral_at text j.0) (λ p. step (item.Activation p.0 p.1) state.Activated p.1.end) st j.2 in
      let e : record { item = item.Activation x.0.0 x.0.1; state = state.Activated; pos = x.0.1.end } ≡ st = cc in
      let r = (subst (λ z. Later z) (sym e) later) (λ c. absurd (false≢true (ap is_last c))) in
      let us = activation_rest (references r.0 (objects r.1)) in (
        x.0.0,
        r.0,
        r.1,
        (
          r.2.0,
          fixed_scan (template state.Prioritized) pos j.0 (tt, (tt, (tt, (tt, (tt, (tt, (tt, tt))))))) j.1 (num x.0.0 ∷ us) r.2.0
              (numeral_scan j.0 x.0.0 x.0.1 x.1 us r.2.0 r.2.1),
          r.2.2,
        ),
      )
  fold state.Activated pos st h later =
      let j = judged state.Activated pos st h in
      let o = references_at j.0 st (attribute_step j.0 st j.2) later in
      (o.0, o.1, (o.2.0, fixed_scan (template state.Activated) pos j.0 (tt, (tt, (tt, (tt, (tt, tt))))) j.1 (references o.0 (objects o.1)) o.2.0 o.2.1, o.2.2))
  fold state.Referred pos st h later =
      let j = judged state.Referred pos st h in
      let o = references_at j.0 st (attribute_step j.0 st j.2) later in
      (o.0, o.1, (o.2.0, fixed_scan (template state.Referred) pos j.0 (tt, tt) j.1 (references o.0 (objects o.1)) o.2.0 o.2.1, o.2.2))
  fold state.Closed pos st h later =
      let j = judged state.Closed pos st h in
      let o = objects_at j.0 st (object_step j.0 st j.2) later in
      (o.0, (o.1.0, fixed_scan (template state.Closed) pos j.0 (tt, tt) j.1 (objects o.0) o.1.0 o.1.1, o.1.2))

  lawful : (s : State) (pos : ℕ) → Run text s pos → Rest s pos
  lawful s pos (ends st h e) = fold s pos st h (λ ne. absurd (ne e))
  lawful s pos (goes st h ne r) = fold s pos st h (λ _. lawful st.state st.pos r)

pub takes_lawful : (text : List ℕ) → Run text state.Start 0 → (cpu : List ℕ) × (os : List Object) × Spells text (unparse cpu os)
takes_lawful text r = lawful text state.Start 0 r
