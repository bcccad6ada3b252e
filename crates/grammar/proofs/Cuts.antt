-- A text cut where a fault lies, or where a token begins that is judged, has its end there.
use Rattle.std.proofs.Common.{◌≡◌, ℕ, ◌+◌, ◌≤◌, Bool, true, false, cond, ◌⊎◌, List, [], ◌∷◌, length, take, drop, Some, None, Ok, Err, Option, Result, sym, refl, ap, ◌∙◌, subst, inl, inr, ⊎_elim, arith, MatchResult}
use Rattle.std.proofs.lemmas.Bool.{cond_both}
use Rattle.letters.specs.declared.token.Mark.TheVariants as marks
use Rattle.letters.specs.declared.token.What.TheVariants as what
use Rattle.letters.specs.declared.token.Token.{Token}
use Rattle.letters.specs.Blanks.{blanks}
use Rattle.letters.specs.Tokens.{Lexed, token, token_at}
use Rattle.letters.specs.Extents.{end_from, place_from}
use Rattle.letters.proofs.Near.{Near, near_cut, lex_cut}
use Rattle.letters.proofs.Local.{lex_near, Whole, lex_whole, Ends, ends_token}
use Rattle.letters.proofs.Named.{place_le, lex_bound}
use Rattle.grammar.specs.declared.fault.GrammarFault.{GrammarFault}
use Rattle.grammar.specs.declared.slot.Slot.{Slot}
use Rattle.grammar.specs.declared.slot.Slot.TheVariants as slot
use Rattle.grammar.specs.declared.item.Kind.{Kind}
use Rattle.grammar.specs.declared.item.Kind.TheVariants as kind
use Rattle.grammar.specs.declared.item.State.{State}
use Rattle.grammar.specs.declared.item.State.TheVariants as state
use Rattle.grammar.specs.declared.item.Item.{Item}
use Rattle.grammar.specs.declared.item.Item.TheVariants as item
use Rattle.grammar.specs.declared.item.Step.{Step}
use Rattle.grammar.specs.Faults.{and_then, misplaced, lifted}
use Rattle.grammar.specs.Slots.{lexed, admits, expected, followed}
use Rattle.grammar.specs.Items.{if_name, named, if_number, numeral_at, heading, template, step, declared_at, object_at, referred_at, reference_at, attribute_at, judged_at, item_at}
use Rattle.grammar.proofs.Through.{NoEnd, name_both, number_both}
use Rattle.grammar.proofs.Agrees.{admits_near, heading_near}

-- where the token stands that an item has judged
abbrev pub PlaceOf : Item → ℕ → Type 0
PlaceOf (item.Declares k t) p = t.place ≡ p
PlaceOf (item.Priority n t) p = t.place ≡ p
PlaceOf (item.Activation n t) p = t.place ≡ p
PlaceOf (item.Refers k t) p = t.place ≡ p
PlaceOf item.Closes p = ⊥
PlaceOf item.End p = ⊥

abbrev AllOpen : List Slot → Type 0
AllOpen [] = Unit {0}
AllOpen (s ∷ ss) = NoEnd s × AllOpen ss

module _ (text : List ℕ) (q : ℕ) where
  abbrev cut : List ℕ
  cut = take q text

  near : Near q text cut
  near = near_cut q q text (omega arith)

  -- the end of the cut text
  abbrev stop : Token
  stop = record { what = what.End; place = q; end = q + 0 }

  stops : (pos : ℕ) → place_from text pos ≡ q → lexed cut pos ≡ Ok stop
  stops pos e = ap lifted (subst (λ n. token_at (take n text) pos ≡ token what.End n 0) e (lex_cut text pos))

  -- A part of the text was read from pos on. The cut text has the same part if it ends early enough; where the part is a fault at q, or its judged token stands there, the cut text has S.
  abbrev pub Cuts : {X : Type 0} → (Result X GrammarFault → Type 0) → (X → Type 0) → (X → ℕ) → ℕ → Result X GrammarFault → Result X GrammarFault → Type 0
  Cuts S J end pos mine yours =
      MatchResult mine
      (λ x. (pos ≤ end x) × (pos ≤ length text → end x ≤ length text) × (end x ≤ q → yours ≡ Ok x) × (J x → (pos ≤ q) × S yours))
      (λ f. (pos ≤ f.place) × (pos ≤ length text → f.place ≤ length text) × (f.place ≡ q → S yours))

  -- .. or right after the token t, or at it
  abbrev Fits : {X : Type 0} → (Result X GrammarFault → Type 0) → (X → Type 0) → (X → ℕ) → Token → Result X GrammarFault → Result X GrammarFault → Type 0
  Fits S J end t mine yours =
      MatchResult mine
      (λ x. (t.end ≤ end x) × (t.end ≤ length text → end x ≤ length text) × (end x ≤ q → yours ≡ Ok x) × (J x → (t.place ≡ q) ⊎ ((t.end ≤ q) × S yours)))
      (λ f. (f.place ≡ t.place) ⊎ ((t.end ≤ f.place) × (t.end ≤ length text → f.place ≤ length text) × (f.place ≡ q → S yours)))

  cuts_then : {X Y : Type 0} (R : Result X GrammarFault → Type 0) (S : Result Y GrammarFault → Type 0) (I : X → Type 0) (J : Y → Type 0) (ex : X → ℕ) (ey : Y → ℕ) (pos : ℕ) (a b : Result X GrammarFault) (f g : X → Result Y GrammarFault) → ((r : Result X GrammarFault) → R r → S (and_then r g)) → Cuts R I ex pos a b → ((x : X) → Cuts S J ey (ex x) (f x) (g x)) → Cuts S J ey pos (and_then a f) (and_then b g)
  cuts_then R S I J ex ey pos (Err e) b f g up h k = (h.0, h.1, λ at. up b (h.2 at))
  cuts_then R S I J ex ey pos (Ok x) b f g up h k = on (f x) (k x)
    where
      same : ex x ≤ q → and_then b g ≡ g x
      same l = ap (λ r. and_then r g) (h.2 l)

      on : (r : Result _ GrammarFault) → Cuts S J ey (ex x) r (g x) → Cuts S J ey pos r (and_then b g)
      on (Ok y) m =
          let low = h.0 in
          let up_to_lem = m.0 in
          (omega arith, (λ l. m.1 (h.1 l)), (λ l. same (omega arith) ∙ m.2 l), (λ j. let w = m.3 j in let z = w.0 in (omega arith, subst S (sym (same w.0)) w.1)))
      on (Err e) m =
          let low = h.0 in
          let up_to_lem = m.0 in
          (omega arith, (λ l. m.1 (h.1 l)), (λ at. subst S (sym (same (omega (arith, at)))) (m.2 at)))

  -- a part made of another, with the same judged token
  cuts_map : {X Y : Type 0} (R : Result X GrammarFault → Type 0) (S : Result Y GrammarFault → Type 0) (I : X → Type 0) (J : Y → Type 0) (ex : X → ℕ) (ey : Y → ℕ) (pos : ℕ) (a b : Result X GrammarFault) (f : X → Y) → ((r : Result X GrammarFault) → R r → S (and_then r (λ x. Ok (f x)))) → ((x : X) → ey (f x) ≡ ex x) → ((x : X) → J (f x) → I x) → Cuts R I ex pos a b → Cuts S J ey pos (and_then a (λ x. Ok (f x))) (and_then b (λ x. Ok (f x)))
  cuts_map R S I J ex ey pos (Err e) b f up same own h = (h.0, h.1, λ at. up b (h.2 at))
  cuts_map R S I J ex ey pos (Ok x) b f up same own h =
      let e = same x in
      let low = h.0 in
      (omega arith, (λ l. let z = h.1 l in omega arith), (λ l. ap (λ r. and_then r (λ z. Ok (f z))) (h.2 (omega arith))), (λ j. let w = h.3 (own x j) in (w.0, up b w.1)))

  fits_cuts : {X : Type 0} (S : Result X GrammarFault → Type 0) (J : X → Type 0) (end : X → ℕ) (t : Token) (a b : Result X GrammarFault) → Cuts S J end t.end a b → Fits S J end t a b
  fits_cuts S J end t (Ok x) b h = (h.0, h.1, h.2, λ j. inr (h.3 j))
  fits_cuts S J end t (Err f) b h = inr (h.0, h.1, h.2)

  fits_like : {X : Type 0} (S : Result X GrammarFault → Type 0) (J : X → Type 0) (end : X → ℕ) (t : Token) (a b c : Result X GrammarFault) → (t.end ≤ q → c ≡ b) → Fits S J end t a b → Fits S J end t a c
  fits_like S J end t (Ok x) b c same h =
      let low = h.0 in
      (h.0, h.1, (λ l. same (omega arith) ∙ h.2 l), (λ j. ⊎_elim (λ at. inl at) (λ w. inr (w.0, subst S (sym (same w.0)) w.1)) (h.3 j)))
  fits_like S J end t (Err f) b c same h =
      ⊎_elim (λ at. inl at) (λ w. let low = w.0 in inr (w.0, w.1, (λ at. subst S (sym (same (omega (arith, at)))) (w.2 at)))) h

  token_cuts : {X : Type 0} (S : Result X GrammarFault → Type 0) (J : X → Type 0) (end : X → ℕ) (pos : ℕ) (f g : Token → Result X GrammarFault) → S (g stop) → ((t : Token) → Whole text t → Fits S J end t (f t) (g t)) → Cuts S J end pos (and_then (lexed text pos) f) (and_then (lexed cut pos) g)
  token_cuts {X} S J end pos f g ended h = on (token_at text pos) refl
    where
      there : place_from text pos ≡ q → S (and_then (lexed cut pos) g)
      there e = subst S (sym (ap (λ r. and_then r g) (stops pos e))) ended

      judged : (t : Token) (r : Result X GrammarFault) → token_at text pos ≡ Ok t → Fits S J end t r (g t) → Cuts S J end pos r (and_then (lexed cut pos) g)
      judged t (Ok x) e k =
          let w = lex_whole text pos t e in
          let a = w.0 in
          let b = w.1.0 in
          let c = w.1.1 in
          let n = k.0 in
          let at = w.2 in
          let z = ap (λ m. end_from text m) w.2 in
          let same : t.end ≤ q → and_then (lexed cut pos) g ≡ g t = λ l. ap (λ r. and_then (lifted r) g) (lex_near text cut q near pos (omega arith) ∙ e) in (
            omega arith,
            (λ l. k.1 (lex_bound text pos t l e)),
            (λ l. same (omega arith) ∙ k.2 l),
            (λ j. ⊎_elim (λ o. (omega (arith, o), there (sym w.2 ∙ o))) (λ o. let y = o.0 in (omega arith, subst S (sym (same o.0)) o.1)) (k.3 j)),
          )
      judged t (Err d) e k =
          let w = lex_whole text pos t e in
          let a = w.0 in
          let b = w.1.0 in
          let c = w.1.1 in
          let z = ap (λ m. end_from text m) w.2 in
          let same : t.end ≤ q → and_then (lexed cut pos) g ≡ g t = λ l. ap (λ r. and_then (lifted r) g) (lex_near text cut q near pos (omega arith) ∙ e) in
          ⊎_elim
          (λ o. (omega (arith, o), (λ l. let y = lex_bound text pos t l e in omega (arith, o)), (λ at. there (sym w.2 ∙ sym o ∙ at))))
          (λ o. let y = o.0 in (omega arith, (λ l. o.1 (lex_bound text pos t l e)), (λ at. subst S (sym (same (omega (arith, at)))) (o.2 at))))
          k

      on : (r : Lexed) → token_at text pos ≡ r → Cuts S J end pos (and_then (lifted r) f) (and_then (lexed cut pos) g)
      on (Err d) e =
          let k = blanks false (drop pos text) in
          let at : d.place ≡ place_from text pos = subst (Ends (pos + k) (drop k (drop pos text))) e (ends_token (pos + k) (drop k (drop pos text))) in
          (omega arith, (λ l. let y = place_le text pos l in omega arith), (λ o. there (sym at ∙ o)))
      on (Ok t) e = judged t (f t) e (h t (lex_whole text pos t e).1)

  -- the cut text is refused at its end
  abbrev Plain : {X : Type 0} → Result X GrammarFault → Type 0
  Plain r = r ≡ Err (misplaced q)

  -- .. or goes on
  abbrev Open : Result ℕ GrammarFault → Type 0
  Open r = (r ≡ Err (misplaced q)) ⊎ ((p : ℕ) × (r ≡ Ok p))

  -- .. or is complete
  abbrev pub Stop : Result Step GrammarFault → Type 0
  Stop r = (r ≡ Err (misplaced q)) ⊎ ((p : ℕ) × (r ≡ Ok (record { item = item.End; state = state.Closed; pos = p })))

  abbrev none : ℕ → Type 0
  none p = ⊥

  abbrev here : ℕ → ℕ
  here p = p

  plain_then : {X Y : Type 0} (g : X → Result Y GrammarFault) (r : Result X GrammarFault) → Plain r → Plain (and_then r g)
  plain_then g r e = ap (λ z. and_then z g) e

  plain_stop : {X : Type 0} (g : X → Result Step GrammarFault) (r : Result X GrammarFault) → Plain r → Stop (and_then r g)
  plain_stop g r e = inl (ap (λ z. and_then z g) e)

  not_here : (s : Slot) → NoEnd s → cond (admits cut s stop) (Ok (q + 0)) (Err (misplaced q)) ≡ Err (misplaced q)
  not_here (slot.Word w) o = refl
  not_here (slot.Mark m) o = refl
  not_here slot.AnyName o = refl
  not_here slot.Version o = refl
  not_here slot.End o = absurd o

  expected_cuts : (s : Slot) → NoEnd s → (pos : ℕ) → Cuts Plain none here pos (expected text s pos) (expected cut s pos)
  expected_cuts s o pos = token_cuts Plain none here pos _ _ (not_here s o)
      (λ t w. fits_like Plain none here t (cond (admits text s t) (Ok t.end) (Err (misplaced t.place))) (cond (admits text s t) (Ok t.end) (Err (misplaced t.place))) _
      (λ l. ap (λ b. cond b (Ok t.end) (Err (misplaced t.place))) (admits_near text cut q near s t w l))
      (cond_both (admits text s t) (Ok t.end) (Err (misplaced t.place)) (λ r. Fits Plain none here t r r) (λ _. (omega arith, (λ l. l), (λ _. refl), (λ j. absurd j))) (λ _. inl refl)))

  followed_cuts : (ss : List Slot) → AllOpen ss → (pos : ℕ) → Cuts Plain none here pos (followed text ss pos) (followed cut ss pos)
  followed_cuts [] o pos = (omega arith, (λ l. l), (λ _. refl), (λ j. absurd j))
  followed_cuts (s ∷ ss) o pos =
      cuts_then Plain Plain none none here here pos (expected text s pos) (expected cut s pos) (λ p. followed text ss p) (λ p. followed cut ss p)
      (plain_then (λ p. followed cut ss p)) (expected_cuts s o.0 pos) (λ p. followed_cuts ss o.1 p)

  abbrev token_end : Token → ℕ
  token_end t = t.end

  abbrev its_place : Token → Type 0
  its_place t = t.place ≡ q

  named_cuts : (pos : ℕ) → Cuts Plain its_place token_end pos (named text pos) (named cut pos)
  named_cuts pos = token_cuts Plain its_place token_end pos (λ t. if_name t t.what) (λ t. if_name t t.what) refl (λ t w. name_both (λ r. Fits Plain its_place token_end t r r) t t.what (omega arith, (λ l. l), (λ _. refl), (λ j. inl j)) (inl refl))

  abbrev numeral_end : ℕ × Token → ℕ
  numeral_end p = p.1.end

  abbrev numeral_place : ℕ × Token → Type 0
  numeral_place p = p.1.place ≡ q

  numeral_cuts : (pos : ℕ) → Cuts Plain numeral_place numeral_end pos (numeral_at text pos) (numeral_at cut pos)
  numeral_cuts pos = token_cuts Plain numeral_place numeral_end pos (λ t. if_number t t.what) (λ t. if_number t t.what) refl (λ t w. number_both (λ r. Fits Plain numeral_place numeral_end t r r) t t.what (λ n. (omega arith, (λ l. l), (λ _. refl), (λ j. inl j))) (inl refl))

  abbrev step_end : Step → ℕ
  step_end st = st.pos

  abbrev pub Judges : Step → Type 0
  Judges st = PlaceOf st.item q

  abbrev Steps : ℕ → Result Step GrammarFault → Result Step GrammarFault → Type 0
  Steps pos mine yours = Cuts Stop Judges step_end pos mine yours

  abbrev FitSteps : Token → Result Step GrammarFault → Result Step GrammarFault → Type 0
  FitSteps t mine yours = Fits Stop Judges step_end t mine yours

  declared_fits : (t : Token) (k : Option Kind) → FitSteps t (declared_at text t k) (declared_at cut t k)
  declared_fits t None = inl refl
  declared_fits t (Some k) = fits_cuts Stop Judges step_end t _ _
      (cuts_map Plain Stop its_place Judges token_end step_end t.end (named text t.end) (named cut t.end) (λ n. record { item = item.Declares k n; state = state.Declared k; pos = n.end })
      (plain_stop (λ n. step (item.Declares k n) (state.Declared k) n.end)) (λ n. refl) (λ n j. j) (named_cuts t.end))

  referred_fits : (t : Token) (k : Kind) → FitSteps t (referred_at text t k) (referred_at cut t k)
  referred_fits t k = fits_cuts Stop Judges step_end t _ _
      (cuts_then Plain Stop none Judges here step_end t.end (expected text (slot.Mark marks.Equals) t.end) (expected cut (slot.Mark marks.Equals) t.end)
      (λ p. and_then (named text p) (λ n. step (item.Refers k n) state.Referred n.end)) (λ p. and_then (named cut p) (λ n. step (item.Refers k n) state.Referred n.end))
      (plain_stop (λ p. and_then (named cut p) (λ n. step (item.Refers k n) state.Referred n.end)))
      (expected_cuts (slot.Mark marks.Equals) tt t.end)
      (λ p. cuts_map Plain Stop its_place Judges token_end step_end p (named text p) (named cut p) (λ n. record { item = item.Refers k n; state = state.Referred; pos = n.end })
      (plain_stop (λ n. step (item.Refers k n) state.Referred n.end)) (λ n. refl) (λ n j. j) (named_cuts p)))

  reference_fits : (t : Token) (k : Option Kind) → FitSteps t (reference_at text t k) (reference_at cut t k)
  reference_fits t None = inl refl
  reference_fits t (Some kind.Resource) = referred_fits t kind.Resource
  reference_fits t (Some kind.Event) = referred_fits t kind.Event
  reference_fits t (Some kind.Task) = inl refl

  -- the end of the text, which the cut text may have
  end_cuts : (pos : ℕ) → Cuts Open none here pos (expected text slot.End pos) (expected cut slot.End pos)
  end_cuts pos = token_cuts Open none here pos _ _ (inr (q + 0, refl))
      (λ t w. cond_both (admits text slot.End t) (Ok t.end) (Err (misplaced t.place)) (λ r. Fits Open none here t r r) (λ _. (omega arith, (λ l. l), (λ _. refl), (λ j. absurd j))) (λ _. inl refl))

  abbrev ending : List Slot
  ending = slot.Mark marks.Semicolon ∷ slot.End ∷ []

  open_again : (r : Result ℕ GrammarFault) → Open r → Open (and_then r (λ p. Ok p))
  open_again r o = ⊎_elim (λ e. inl (ap (λ z. and_then z (λ p. Ok p)) e)) (λ e. inr (e.0, ap (λ z. and_then z (λ p. Ok p)) e.1)) o

  ending_cuts : (pos : ℕ) → Cuts Open none here pos (followed text ending pos) (followed cut ending pos)
  ending_cuts pos =
      cuts_then Plain Open none none here here pos (expected text (slot.Mark marks.Semicolon) pos) (expected cut (slot.Mark marks.Semicolon) pos) (λ p. followed text (slot.End ∷ []) p) (λ p. followed cut (slot.End ∷ []) p)
      (λ r e. inl (ap (λ z. and_then z (λ p. followed cut (slot.End ∷ []) p)) e)) (expected_cuts (slot.Mark marks.Semicolon) tt pos)
      (λ p. cuts_then Open Open none none here here p (expected text slot.End p) (expected cut slot.End p) (λ r. Ok r) (λ r. Ok r) open_again (end_cuts p) (λ r. (omega arith, (λ l. l), (λ _. refl), (λ j. absurd j))))

  open_stop : (r : Result ℕ GrammarFault) → Open r → Stop (and_then r (λ p. step item.End state.Closed p))
  open_stop r o = ⊎_elim (λ e. inl (ap (λ z. and_then z (λ p. step item.End state.Closed p)) e)) (λ e. inr (e.0, ap (λ z. and_then z (λ p. step item.End state.Closed p)) e.1)) o

  closing_cuts : (pos : ℕ) → Steps pos (and_then (followed text ending pos) (λ p. step item.End state.Closed p)) (and_then (followed cut ending pos) (λ p. step item.End state.Closed p))
  closing_cuts pos =
      cuts_map Open Stop none Judges here step_end pos (followed text ending pos) (followed cut ending pos) (λ p. record { item = item.End; state = state.Closed; pos = p }) open_stop (λ p. refl) (λ p j. j) (ending_cuts pos)

  fits_cond : (t : Token) (c : Bool) (a b x y : Result Step GrammarFault) → FitSteps t a x → FitSteps t b y → FitSteps t (cond c a b) (cond c x y)
  fits_cond t true a b x y h g = h
  fits_cond t false a b x y h g = g

  object_cuts : (pos : ℕ) → Steps pos (object_at text pos) (object_at cut pos)
  object_cuts pos = token_cuts Stop Judges step_end pos _ _ (inl refl)
      (λ t w. fits_cond t (admits text (slot.Mark marks.Close) t)
      (and_then (followed text ending t.end) (λ p. step item.End state.Closed p)) (declared_at text t (heading text t))
      (and_then (followed cut ending t.end) (λ p. step item.End state.Closed p)) (declared_at cut t (heading cut t))
      (fits_cuts Stop Judges step_end t _ _ (closing_cuts t.end))
      (fits_like Stop Judges step_end t (declared_at text t (heading text t)) (declared_at cut t (heading text t)) (declared_at cut t (heading cut t)) (λ l. ap (declared_at cut t) (heading_near text cut q near t w l)) (declared_fits t (heading text t))))

  attribute_cuts : (pos : ℕ) → Steps pos (attribute_at text pos) (attribute_at cut pos)
  attribute_cuts pos = token_cuts Stop Judges step_end pos _ _ (inl refl)
      (λ t w. fits_cond t (admits text (slot.Mark marks.Close) t)
      (step item.Closes state.Closed t.end) (reference_at text t (heading text t))
      (step item.Closes state.Closed t.end) (reference_at cut t (heading cut t))
      (omega arith, (λ l. l), (λ _. refl), (λ j. absurd j))
      (fits_like Stop Judges step_end t (reference_at text t (heading text t)) (reference_at cut t (heading text t)) (reference_at cut t (heading cut t)) (λ l. ap (reference_at cut t) (heading_near text cut q near t w l)) (reference_fits t (heading text t))))

  judged_cuts : (s : State) (pos : ℕ) → Steps pos (judged_at text s pos) (judged_at cut s pos)
  judged_cuts state.Start pos = object_cuts pos
  judged_cuts (state.Declared kind.Resource) pos = object_cuts pos
  judged_cuts (state.Declared kind.Event) pos = object_cuts pos
  judged_cuts (state.Declared kind.Task) pos =
      cuts_map Plain Stop numeral_place Judges numeral_end step_end pos (numeral_at text pos) (numeral_at cut pos) (λ p. record { item = item.Priority p.0 p.1; state = state.Prioritized; pos = p.1.end })
      (plain_stop (λ p. step (item.Priority p.0 p.1) state.Prioritized p.1.end)) (λ p. refl) (λ p j. j) (numeral_cuts pos)
  judged_cuts state.Prioritized pos =
      cuts_map Plain Stop numeral_place Judges numeral_end step_end pos (numeral_at text pos) (numeral_at cut pos) (λ p. record { item = item.Activation p.0 p.1; state = state.Activated; pos = p.1.end })
      (plain_stop (λ p. step (item.Activation p.0 p.1) state.Activated p.1.end)) (λ p. refl) (λ p j. j) (numeral_cuts pos)
  judged_cuts state.Activated pos = attribute_cuts pos
  judged_cuts state.Referred pos = attribute_cuts pos
  judged_cuts state.Closed pos = object_cuts pos

  all_open : (s : State) → AllOpen (template s)
  all_open state.Start = (tt, (tt, (tt, (tt, (tt, (tt, (tt, tt)))))))
  all_open (state.Declared kind.Resource) = (tt, (tt, (tt, (tt, (tt, (tt, (tt, tt)))))))
  all_open (state.Declared kind.Event) = (tt, (tt, (tt, (tt, (tt, (tt, (tt, tt)))))))
  all_open (state.Declared kind.Task) = (tt, (tt, (tt, tt)))
  all_open state.Prioritized = (tt, (tt, (tt, (tt, (tt, (tt, (tt, tt)))))))
  all_open state.Activated = (tt, (tt, (tt, (tt, (tt, tt)))))
  all_open state.Referred = (tt, tt)
  all_open state.Closed = (tt, tt)

  pub item_cuts : (s : State) (pos : ℕ) → Cuts Stop Judges step_end pos (item_at text s pos) (item_at cut s pos)
  item_cuts s pos =
      cuts_then Plain Stop none Judges here step_end pos (followed text (template s) pos) (followed cut (template s) pos) (λ p. judged_at text s p) (λ p. judged_at cut s p)
      (plain_stop (λ p. judged_at cut s p)) (followed_cuts (template s) (all_open s) pos) (λ p. judged_cuts s p)
