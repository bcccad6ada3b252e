-- A whole text: what comes before its items, and that a text read to its end is one that the grammar takes.
use Rattle.std.proofs.Common.{◌≡◌, ℕ, zero, suc, ◌≤◌, true, false, ltb, List, [], length, Ok, Err, Result, sym, refl, ap, ◌∙◌, ⊎_elim, arith}
use Rattle.std.proofs.lemmas.Bool.{false≢true, cases_Bool, cond-true, cond-false, ltb-true, ltb-false}
use Rattle.letters.specs.declared.fault.LettersCause.TheVariants as letters
use Rattle.letters.specs.declared.fault.LettersFault.{LettersFault}
use Rattle.letters.specs.Tokens.{fault}
use Rattle.grammar.specs.declared.fault.GrammarCause.TheVariants as grammar
use Rattle.grammar.specs.declared.item.State.{State}
use Rattle.grammar.specs.declared.item.State.TheVariants as state
use Rattle.grammar.specs.declared.item.Item.{Item}
use Rattle.grammar.specs.declared.item.Item.TheVariants as item
use Rattle.grammar.specs.declared.item.Step.{Step}
use Rattle.grammar.specs.Faults.{and_then, lifted}
use Rattle.grammar.specs.Items.{item_at}
use Rattle.grammar.specs.Language.{Run, ends, goes, Object, Spells, unparse}
use Rattle.grammar.proofs.Through.{through, is_last}
use Rattle.grammar.proofs.Accepts.{takes_lawful}
use Rattle.oil.specs.declared.draft.Draft.{Draft}
use Rattle.oil.specs.declared.fault.PlanCause.TheVariants as cause
use Rattle.oil.specs.declared.fault.PlanFault.{PlanFault}
use Rattle.oil.specs.Faults.{refusal}
use Rattle.oil.specs.Draft.{Drafted, empty_draft}
use Rattle.oil.specs.Judging.{lift_plan, proceed, advanced, resume}
use Rattle.oil.specs.Reading.{Entry, look_up, names_at, gathered, read_all}
use Rattle.oil.specs.Outcome.{drafted}
use Rattle.oil.proofs.Runs.{came}

-- the items of a text from its start
abbrev pub whole : List ℕ → Drafted
whole text = gathered (suc (length text)) text [] empty_draft state.Start 0

abbrev pub too_long : PlanFault
too_long = refusal (cause.Grammar (grammar.Letters letters.TooLong)) 32768

-- a text that is measured first
abbrev begins_by : List ℕ → Result (Unit {0}) LettersFault → Drafted
begins_by text r =
    and_then (lift_plan (and_then (lifted r) (λ _. Ok state.Start))) (λ s. gathered (suc (length text)) text [] empty_draft s 0)

read_long : (text : List ℕ) → ltb 32768 (length text) ≡ true → read_all text ≡ Err too_long
read_long text y = ap (begins_by text) (cond-true (ltb 32768 (length text)) (Err (fault letters.TooLong 32768)) (Ok tt) y)

read_short : (text : List ℕ) → ltb 32768 (length text) ≡ false → read_all text ≡ whole text
read_short text n = ap (begins_by text) (cond-false (ltb 32768 (length text)) (Err (fault letters.TooLong 32768)) (Ok tt) n)

pub drafted_is : (text : List ℕ) (records : ℕ) → 128 ≤ records → length text ≤ 32768 → drafted text records ≡ whole text
drafted_is text records l s =
    cond-false (ltb records 128) (Err (refusal cause.SmallTable 0)) (read_all text) (⊎_elim (λ y. absurd (let z = ltb-true records 128 y in omega arith)) (λ n. n) (cases_Bool (ltb records 128)))
    ∙ read_short text (⊎_elim (λ y. absurd (let z = ltb-true 32768 (length text) y in omega arith)) (λ n. n) (cases_Bool (ltb 32768 (length text))))

-- a text that is not refused for the table or for its length is read from its start
pub drafted_from : (text : List ℕ) (records : ℕ) (r : Drafted) → drafted text records ≡ r → (r ≡ Err (refusal cause.SmallTable 0) → ⊥) → (r ≡ Err too_long → ⊥) → (128 ≤ records) × (length text ≤ 32768) × (whole text ≡ r)
drafted_from text records r h n9 n1 =
    ⊎_elim
    (λ y. absurd (n9 (sym h ∙ cond-true (ltb records 128) (Err (refusal cause.SmallTable 0)) (read_all text) y)))
    (λ n. let e : read_all text ≡ r = sym (cond-false (ltb records 128) (Err (refusal cause.SmallTable 0)) (read_all text) n) ∙ h in
    ⊎_elim
    (λ y. absurd (n1 (sym e ∙ read_long text y)))
    (λ m. (ltb-false records 128 n, ltb-false 32768 (length text) m, sym (read_short text m) ∙ e))
    (cases_Bool (ltb 32768 (length text))))
    (cases_Bool (ltb records 128))

pub drafted_ok : (text : List ℕ) (records : ℕ) (d : Draft) → drafted text records ≡ Ok d → (128 ≤ records) × (length text ≤ 32768) × (whole text ≡ Ok d)
drafted_ok text records d h = drafted_from text records (Ok d) h (λ e. let z : ◌≡◌ {A = ℕ} 0 1 = cc in omega arith) (λ e. let z : ◌≡◌ {A = ℕ} 0 1 = cc in omega arith)

-- one step, and then the rest
then_run : (text : List ℕ) (s : State) (pos : ℕ) (st : Step) (i : Item) (d e : Draft) (f : Draft → State → ℕ → Drafted) → st.item ≡ i → item_at text s pos ≡ Ok st → ((b : Draft) (t : State) (q : ℕ) → f b t q ≡ Ok e → Run text t q) → resume (proceed i d st) (λ b. Ok b) f ≡ Ok e → Run text s pos
then_run text s pos st (item.Declares k t) d e f is h more r = goes st h (λ x. absurd (false≢true (ap is_last (sym is ∙ x)))) (more d st.state st.pos r)
then_run text s pos st (item.Priority n t) d e f is h more r = goes st h (λ x. absurd (false≢true (ap is_last (sym is ∙ x)))) (more d st.state st.pos r)
then_run text s pos st (item.Activation n t) d e f is h more r = goes st h (λ x. absurd (false≢true (ap is_last (sym is ∙ x)))) (more d st.state st.pos r)
then_run text s pos st (item.Refers k t) d e f is h more r = goes st h (λ x. absurd (false≢true (ap is_last (sym is ∙ x)))) (more d st.state st.pos r)
then_run text s pos st item.Closes d e f is h more r = goes st h (λ x. absurd (false≢true (ap is_last (sym is ∙ x)))) (more d st.state st.pos r)
then_run text s pos st item.End d e f is h more r = ends st h is

gathered_run : (n : ℕ) (text : List ℕ) (es : List Entry) (d : Draft) (s : State) (pos : ℕ) (e : Draft) → gathered n text es d s pos ≡ Ok e → Run text s pos
unfolding gathered
gathered_run zero text es d s pos e h = let z : ◌≡◌ {A = ℕ} 0 1 = cc in absurd (omega arith)
gathered_run (suc n) text es d s pos e h =
    let after = names_at text es d (item_at text s pos) in
    let x = through (advanced text (look_up es) d s pos) (λ p. resume p (λ b. Ok b) (λ b t q. gathered n text after b t q)) e h in
    let c = came text (look_up es) d s pos x.0 x.1 in
    then_run text s pos c.step c.step.item c.draft e (λ b t q. gathered n text after b t q) refl c.item_is
    (λ b t q g. gathered_run n text after b t q e g)
    (ap (λ p. resume p (λ b. Ok b) (λ b t q. gathered n text after b t q)) c.goes ∙ x.2)

-- a text that is not refused holds the tokens of some objects
pub drafted_lawful : (text : List ℕ) (records : ℕ) (d : Draft) → drafted text records ≡ Ok d → (cpu : List ℕ) × (os : List Object) × Spells text (unparse cpu os)
drafted_lawful text records d h =
    takes_lawful text (gathered_run (suc (length text)) text [] empty_draft state.Start 0 d (drafted_ok text records d h).2)
