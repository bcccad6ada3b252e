-- Lines added one after the other.
use Rattle.std.proofs.Common.{◌≡◌, ℕ, zero, suc, ◌+◌, ◌<◌, true, List, [], ◌∷◌, ◌++◌, length, get_or, take, IfOk, Ok, Err, Result, sym, refl, ap, ◌∙◌, inl, inr, arith}
use Rattle.std.proofs.lemmas.Grind.{flat_map-append}
use Rattle.std.proofs.lemmas.List.{append_assoc, append-nil, take_more}
use Rattle.plan.specs.declared.record.Plan.{Plan}
use Rattle.plan.specs.Plans.{may_hold_up}
use Rattle.plan.specs.declared.entry.Entry.{Entry}
use Rattle.sheet.specs.Tables.{In}
use Rattle.sheet.specs.Lines.{entry_lines, sheet_lines, AllInTable}

-- three texts, the last of which may find no room
pub three : {E : Type 0} (o : Result (Unit {0}) E) (start one two all a b c : List ℕ) → one ≡ start ++ a → two ≡ one ++ b → IfOk o (λ _. all ≡ two ++ c) → IfOk o (λ _. all ≡ start ++ (a ++ (b ++ c)))
three (Ok x) start one two all a b c p q r =
    r ∙ ap (λ xs. xs ++ c) (q ∙ ap (λ xs. xs ++ b) p) ∙ append_assoc (start ++ a) b c ∙ append_assoc start a (b ++ c)
three (Err x) start one two all a b c p q r = tt

lines_more : (p : Plan) (es : List Entry) (e : Entry) → sheet_lines p (es ++ (e ∷ [])) ≡ sheet_lines p es ++ entry_lines p e
lines_more p es e = flat_map-append (entry_lines p) es (e ∷ []) ∙ ap (λ bs. sheet_lines p es ++ bs) (append-nil (entry_lines p e))

-- the lines of one entry more
pub lines_next : (p : Plan) (es : List Entry) (i : ℕ) (d : Entry) (start now next : List ℕ) → i < length es → now ≡ start ++ sheet_lines p (take i es) → next ≡ now ++ entry_lines p (get_or es i d)
    → next ≡ start ++ sheet_lines p (take (i + 1) es)
lines_next p es i d start now next l a b =
    b ∙ ap (λ bs. bs ++ entry_lines p (get_or es i d)) a ∙ append_assoc start (sheet_lines p (take i es)) (entry_lines p (get_or es i d))
    ∙ ap (λ bs. start ++ bs) (sym (lines_more p (take i es) (get_or es i d)) ∙ ap (sheet_lines p) (sym (take_more es i d l)))

-- each entry of the list is in the table
pub in_table : (p : Plan) (es : List Entry) (i : ℕ) (d : Entry) → AllInTable p es → i < length es → may_hold_up p (get_or es i d).low (get_or es i d).high (get_or es i d).resource ≡ true
in_table p [] i d h l = absurd (omega arith)
in_table p (x ∷ es) zero d h l = h.0
in_table p (x ∷ es) (suc i) d h l = in_table p es i d h.1 (omega arith)

pub all_in_table : (p : Plan) (es : List Entry) → ((x : Entry) → In es x → may_hold_up p x.low x.high x.resource ≡ true) → AllInTable p es
all_in_table p [] h = tt
all_in_table p (x ∷ es) h = (h x (inl refl), all_in_table p es (λ y i. h y (inr i)))
