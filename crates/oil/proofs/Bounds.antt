-- The bound on the items of a text does not matter once it is above the text's length.
use Rattle.std.proofs.Common.{◌≡◌, ℕ, zero, suc, ◌+◌, ◌-◌, ◌<◌, ◌≤◌, List, length, Ok, Err, Result, sym, refl, ap, ◌∙◌, arith}
use Rattle.grammar.specs.declared.fault.GrammarFault.{GrammarFault}
use Rattle.grammar.specs.declared.item.State.{State}
use Rattle.grammar.specs.declared.item.Item.{Item}
use Rattle.grammar.specs.declared.item.Item.TheVariants as item
use Rattle.grammar.specs.declared.item.Step.{Step}
use Rattle.grammar.specs.Faults.{and_then}
use Rattle.grammar.specs.Items.{item_at}
use Rattle.grammar.proofs.Sits.{ItemSits, item_sits}
use Rattle.oil.specs.declared.draft.Draft.{Draft}
use Rattle.oil.specs.Draft.{Drafted}
use Rattle.oil.specs.Judging.{judged, proceed, resume}
use Rattle.oil.specs.Reading.{Entry, look_up, names_after, gathered, BoundFree}
use Rattle.oil.proofs.Judged.{onward, gathered_item, gathered_fault}

module _ (text : List ℕ) where
  -- what comes after an item goes on further right, and in the text
  resume_like : (i : Item) (pos : ℕ) (st : Step) (e : Draft) (f g : Draft → State → ℕ → Drafted) → ItemSits text i pos st.pos → (pos < st.pos → st.pos ≤ length text → f e st.state st.pos ≡ g e st.state st.pos) → resume (proceed i e st) (λ b. Ok b) f ≡ resume (proceed i e st) (λ b. Ok b) g
  resume_like (item.Declares k t) pos st e f g s h = let a = s.0.3 in let b = s.0.4 in let c = s.1 in h (omega arith) (omega arith)
  resume_like (item.Priority n t) pos st e f g s h = let a = s.0.3 in let b = s.0.4 in let c = s.1 in h (omega arith) (omega arith)
  resume_like (item.Activation n t) pos st e f g s h = let a = s.0.3 in let b = s.0.4 in let c = s.1 in h (omega arith) (omega arith)
  resume_like (item.Refers k t) pos st e f g s h = let a = s.0.3 in let b = s.0.4 in let c = s.1 in h (omega arith) (omega arith)
  resume_like item.Closes pos st e f g s h = h s.0 s.1
  resume_like item.End pos st e f g s h = refl

  bound_on : (n m : ℕ) (es : List Entry) (d : Draft) (s : State) (pos : ℕ) → pos ≤ length text → length text < n + pos → length text < m + pos → gathered n text es d s pos ≡ gathered m text es d s pos
  bound_on zero m es d s pos l a b = absurd (omega arith)
  bound_on (suc n) m es d s pos l a b = on (item_at text s pos) refl (bound_on n)
    where
      on : (r : Result Step GrammarFault) → item_at text s pos ≡ r → ((k : ℕ) (es : List Entry) (d : Draft) (s : State) (pos : ℕ) → pos ≤ length text → length text < n + pos → length text < k + pos → gathered n text es d s pos ≡ gathered k text es d s pos) → gathered (suc n) text es d s pos ≡ gathered m text es d s pos
      on (Err g) e ih = gathered_fault (suc n) text es d s pos g e (omega arith) ∙ sym (gathered_fault m text es d s pos g e (omega arith))
      on (Ok st) e ih =
          let q : suc n - 1 ≡ n = omega arith in
          gathered_item (suc n) text es d s pos st e (omega arith) ∙ ap (λ k. onward k text es d st) q ∙ by (judged text (look_up es) d st.item) ∙ sym (gathered_item m text es d s pos st e (omega arith))
        where
          by : (r : Drafted) → and_then r (λ x. resume (proceed st.item x st) (λ b. Ok b) (λ b t p. gathered n text (names_after text es d st.item) b t p)) ≡ and_then r (λ x. resume (proceed st.item x st) (λ b. Ok b) (λ b t p. gathered (m - 1) text (names_after text es d st.item) b t p))
          by (Err f) = refl
          by (Ok x) = resume_like st.item pos st x (λ b t p. gathered n text (names_after text es d st.item) b t p) (λ b t p. gathered (m - 1) text (names_after text es d st.item) b t p) (item_sits text s pos st e)
              (λ far within. ih (m - 1) (names_after text es d st.item) x st.state st.pos within (omega arith) (omega arith))

pub bound_free : (text : List ℕ) → BoundFree text
bound_free text n es d s l = bound_on text n (suc (length text)) es d s 0 (omega arith) (omega arith) (omega arith)
