-- Slots and the tokens that stand at them.
use Rattle.std.proofs.Common.{◌≡◌, ℕ, Bool, true, false, cond, ◌&&◌, List, [], ◌∷◌, Ok, Err, Result, sym, refl, ap, arith}
use Rattle.std.proofs.lemmas.Bool.{false≢true}
use Rattle.std.proofs.lemmas.Slice.Eq.{bytes_eq-Decides}
use Rattle.std.specs.Str.{bytes_eq}
use Rattle.letters.specs.declared.token.Mark.{Mark}
use Rattle.letters.specs.declared.token.Mark.TheVariants as marks
use Rattle.letters.specs.declared.token.What.{What}
use Rattle.letters.specs.declared.token.What.TheVariants as what
use Rattle.letters.specs.declared.token.Token.{Token}
use Rattle.grammar.specs.declared.slot.Slot.{Slot}
use Rattle.grammar.specs.declared.slot.Slot.TheVariants as slot
use Rattle.grammar.specs.declared.word.Word.{Word}
use Rattle.grammar.specs.declared.fault.GrammarFault.{GrammarFault}
use Rattle.grammar.specs.declared.item.Item.{Item}
use Rattle.grammar.specs.declared.item.Item.TheVariants as item
use Rattle.letters.specs.Tokens.{same_mark, Lexed, bytes_of, is_name, is_quoted, is_mark, is_end}
use Rattle.grammar.specs.Faults.{and_then, misplaced, lifted}
use Rattle.grammar.specs.Slots.{spelt, admits}
use Rattle.grammar.specs.Items.{if_name, if_number}
use Rattle.grammar.specs.Language.{Sign, word, num, str, mark, sign_by, sign_of}

-- a sign that may stand at the slot
abbrev pub Fit : Slot → Sign → Type 0
Fit (slot.Word w) s = s ≡ word (spelt w)
Fit (slot.Mark m) s = s ≡ mark m
Fit slot.AnyName s = (n : List ℕ) × (s ≡ word n)
Fit slot.Version s = s ≡ str (34 ∷ 50 ∷ 46 ∷ 53 ∷ 34 ∷ [])
Fit slot.End s = ⊥

abbrev pub NoEnd : Slot → Type 0
NoEnd (slot.Word w) = Unit {0}
NoEnd (slot.Mark m) = Unit {0}
NoEnd slot.AnyName = Unit {0}
NoEnd slot.Version = Unit {0}
NoEnd slot.End = ⊥

-- the same mark
mark_true : (a b : Mark) → same_mark a b ≡ true → a ≡ b
mark_true marks.Open marks.Open h = refl
mark_true marks.Open marks.Close h = absurd (false≢true h)
mark_true marks.Open marks.Equals h = absurd (false≢true h)
mark_true marks.Open marks.Semicolon h = absurd (false≢true h)
mark_true marks.Close marks.Open h = absurd (false≢true h)
mark_true marks.Close marks.Close h = refl
mark_true marks.Close marks.Equals h = absurd (false≢true h)
mark_true marks.Close marks.Semicolon h = absurd (false≢true h)
mark_true marks.Equals marks.Open h = absurd (false≢true h)
mark_true marks.Equals marks.Close h = absurd (false≢true h)
mark_true marks.Equals marks.Equals h = refl
mark_true marks.Equals marks.Semicolon h = absurd (false≢true h)
mark_true marks.Semicolon marks.Open h = absurd (false≢true h)
mark_true marks.Semicolon marks.Close h = absurd (false≢true h)
mark_true marks.Semicolon marks.Equals h = absurd (false≢true h)
mark_true marks.Semicolon marks.Semicolon h = refl

-- what stands at a slot other than the end
fit_by : (bytes : List ℕ) (w : Word) (x : What) → (is_name x && bytes_eq bytes (spelt w)) ≡ true → (is_end x ≡ false) × (sign_by bytes x ≡ word (spelt w))
fit_by bytes w what.Name h = (refl, ap word ((bytes_eq-Decides bytes (spelt w)).0 h))
fit_by bytes w (what.Number n) h = absurd (false≢true h)
fit_by bytes w what.Quoted h = absurd (false≢true h)
fit_by bytes w (what.Mark c) h = absurd (false≢true h)
fit_by bytes w what.End h = absurd (false≢true h)

fit_mark : (bytes : List ℕ) (m : Mark) (x : What) → is_mark m x ≡ true → (is_end x ≡ false) × (sign_by bytes x ≡ mark m)
fit_mark bytes m what.Name h = absurd (false≢true h)
fit_mark bytes m (what.Number n) h = absurd (false≢true h)
fit_mark bytes m what.Quoted h = absurd (false≢true h)
fit_mark bytes m (what.Mark c) h = (refl, ap mark (sym (mark_true m c h)))
fit_mark bytes m what.End h = absurd (false≢true h)

pub fit_name : (bytes : List ℕ) (x : What) → is_name x ≡ true → (is_end x ≡ false) × (sign_by bytes x ≡ word bytes)
fit_name bytes what.Name h = (refl, refl)
fit_name bytes (what.Number n) h = absurd (false≢true h)
fit_name bytes what.Quoted h = absurd (false≢true h)
fit_name bytes (what.Mark c) h = absurd (false≢true h)
fit_name bytes what.End h = absurd (false≢true h)

fit_version : (bytes v : List ℕ) (x : What) → (is_quoted x && bytes_eq bytes v) ≡ true → (is_end x ≡ false) × (sign_by bytes x ≡ str v)
fit_version bytes v what.Name h = absurd (false≢true h)
fit_version bytes v (what.Number n) h = absurd (false≢true h)
fit_version bytes v what.Quoted h = (refl, ap str ((bytes_eq-Decides bytes v).0 h))
fit_version bytes v (what.Mark c) h = absurd (false≢true h)
fit_version bytes v what.End h = absurd (false≢true h)

pub fit : (text : List ℕ) (s : Slot) (t : Token) → NoEnd s → admits text s t ≡ true → (is_end t.what ≡ false) × Fit s (sign_of text t)
fit text (slot.Word w) t n h = fit_by (bytes_of text t) w t.what h
fit text (slot.Mark m) t n h = fit_mark (bytes_of text t) m t.what h
fit text slot.AnyName t n h = let p = fit_name (bytes_of text t) t.what h in (p.0, (bytes_of text t, p.1))
fit text slot.Version t n h = fit_version (bytes_of text t) (34 ∷ 50 ∷ 46 ∷ 53 ∷ 34 ∷ []) t.what h
fit text slot.End t n h = absurd n

-- a step that came through
pub through : {A B E : Type 0} (r : Result A E) (f : A → Result B E) (y : B) → and_then r f ≡ Ok y → (x : A) × (r ≡ Ok x) × (f x ≡ Ok y)
through (Ok x) f y h = (x, refl, h)
through (Err e) f y h = let z : ◌≡◌ {A = ℕ} 0 1 = cc in absurd (omega arith)

pub lexed_ok : (r : Lexed) (t : Token) → lifted r ≡ Ok t → r ≡ Ok t
lexed_ok (Ok u) t h = cc
lexed_ok (Err f) t h = let z : ◌≡◌ {A = ℕ} 0 1 = cc in absurd (omega arith)

-- a test that came out true, since the other way is a refusal
pub tested : {A E : Type 0} (b : Bool) (x y : A) (e : E) → cond b (Ok x) (Err e) ≡ Ok y → (b ≡ true) × (x ≡ y)
tested true x y e h = (refl, cc)
tested false x y e h = let z : ◌≡◌ {A = ℕ} 0 1 = cc in absurd (omega arith)

-- a token that was taken as a name
pub as_name : (t u : Token) (x : What) → if_name t x ≡ Ok u → (t ≡ u) × (is_end x ≡ false) × (is_name x ≡ true)
as_name t u what.Name h = (cc, refl, refl)
as_name t u (what.Number n) h = let z : ◌≡◌ {A = ℕ} 0 1 = cc in absurd (omega arith)
as_name t u what.Quoted h = let z : ◌≡◌ {A = ℕ} 0 1 = cc in absurd (omega arith)
as_name t u (what.Mark c) h = let z : ◌≡◌ {A = ℕ} 0 1 = cc in absurd (omega arith)
as_name t u what.End h = let z : ◌≡◌ {A = ℕ} 0 1 = cc in absurd (omega arith)

-- .. or as a numeral
pub as_numeral : (bytes : List ℕ) (t : Token) (u : ℕ × Token) (x : What) → if_number t x ≡ Ok u → (t ≡ u.1) × (is_end x ≡ false) × (sign_by bytes x ≡ num u.0)
as_numeral bytes t u (what.Number m) h =
    let e : ◌≡◌ {A = ℕ × Token} (m, t) u = cc in
    (ap (λ (p : ℕ × Token). p.1) e, refl, ap (λ (p : ℕ × Token). num p.0) e)
as_numeral bytes t u what.Name h = let z : ◌≡◌ {A = ℕ} 0 1 = cc in absurd (omega arith)
as_numeral bytes t u what.Quoted h = let z : ◌≡◌ {A = ℕ} 0 1 = cc in absurd (omega arith)
as_numeral bytes t u (what.Mark c) h = let z : ◌≡◌ {A = ℕ} 0 1 = cc in absurd (omega arith)
as_numeral bytes t u what.End h = let z : ◌≡◌ {A = ℕ} 0 1 = cc in absurd (omega arith)

-- what holds of both answers to a token holds where a name is asked
pub name_both : (P : Result Token GrammarFault → Type 0) (t : Token) (x : What) → P (Ok t) → P (Err (misplaced t.place)) → P (if_name t x)
name_both P t what.Name good bad = good
name_both P t (what.Number n) good bad = bad
name_both P t what.Quoted good bad = bad
name_both P t (what.Mark c) good bad = bad
name_both P t what.End good bad = bad

-- .. or a numeral
pub number_both : (P : Result (ℕ × Token) GrammarFault → Type 0) (t : Token) (x : What) → ((n : ℕ) → P (Ok (n, t))) → P (Err (misplaced t.place)) → P (if_number t x)
number_both P t what.Name good bad = bad
number_both P t (what.Number n) good bad = good n
number_both P t what.Quoted good bad = bad
number_both P t (what.Mark c) good bad = bad
number_both P t what.End good bad = bad

-- the item that ends a text
abbrev pub is_last : Item → Bool
is_last (item.Declares k t) = false
is_last (item.Priority n t) = false
is_last (item.Activation n t) = false
is_last (item.Refers k t) = false
is_last item.Closes = false
is_last item.End = true
