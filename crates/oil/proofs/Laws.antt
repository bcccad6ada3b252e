-- The fault that is told is the first from the left.
use Rattle.std.proofs.Common.{◌≡◌, ℕ, zero, suc, ◌+◌, ◌-◌, ◌<◌, ◌≤◌, eqb, List, [], ◌∷◌, length, take, Ok, Err, Result, sym, refl, ap, ◌∙◌, subst, inl, inr, ⊎_elim, arith}
use Rattle.std.proofs.lemmas.List.{length-take, take_all}
use Rattle.std.proofs.lemmas.Bool.{cond_both}
use Rattle.letters.specs.Extents.{end_from}
use Rattle.letters.proofs.Near.{Near, near_take, near_cut}
use Rattle.grammar.specs.declared.fault.GrammarFault.{GrammarFault}
use Rattle.grammar.specs.declared.item.State.{State}
use Rattle.grammar.specs.declared.item.State.TheVariants as state
use Rattle.grammar.specs.declared.item.Item.{Item}
use Rattle.grammar.specs.declared.item.Item.TheVariants as item
use Rattle.grammar.specs.declared.item.Step.{Step}
use Rattle.grammar.specs.Faults.{and_then}
use Rattle.grammar.specs.Items.{item_at}
use Rattle.grammar.proofs.Agrees.{Agrees, step_end, item_agrees}
use Rattle.grammar.proofs.Sits.{ItemSits, item_sits}
use Rattle.grammar.proofs.Cuts.{PlaceOf, Cuts, Stop, Judges, item_cuts}
use Rattle.oil.specs.declared.draft.Draft.{Draft}
use Rattle.oil.specs.declared.fault.PlanCause.TheVariants as cause
use Rattle.oil.specs.declared.fault.PlanFault.{PlanFault}
use Rattle.oil.specs.Faults.{number_of, raised_plan, refusal}
use Rattle.oil.specs.Draft.{Drafted, empty_draft}
use Rattle.oil.specs.Judging.{judged, proceed, resume}
use Rattle.oil.specs.Reading.{Entry, look_up, names_after, gathered}
use Rattle.oil.specs.Outcome.{drafted, done, outcome}
use Rattle.oil.specs.First.{OfText, OnlyEnds, LeftFree, RightFree}
use Rattle.oil.proofs.Judged.{gathered_item, gathered_fault}
use Rattle.oil.proofs.First.{Told, item_near, judged_near, sought}
use Rattle.oil.proofs.Whole.{whole, too_long, drafted_is, drafted_from}

same_number : (f g : PlanFault) → ◌≡◌ {A = Drafted} (Err f) (Err g) → number_of f.cause ≡ number_of g.cause
same_number f g e = let z : f ≡ g = cc in ap (λ (x : PlanFault). number_of x.cause) z

-- a fault of the text is one of its items
fault_from : (text : List ℕ) (records : ℕ) (f : PlanFault) → drafted text records ≡ Err f → OfText f → (128 ≤ records) × (length text ≤ 32768) × (whole text ≡ Err f)
fault_from text records f h ot =
    drafted_from text records (Err f) h
    (λ e. ot.1 (same_number f (refusal cause.SmallTable 0) e))
    (λ e. ot.0 (same_number f too_long e))

near_all : (xs ys : List ℕ) (n : ℕ) → length xs ≤ n → Near n xs ys → ys ≡ xs
near_all [] [] n l h = refl
near_all [] (y ∷ ys) zero l h = absurd h
near_all [] (y ∷ ys) (suc n) l h = absurd h
near_all (x ∷ xs) ys zero l h = absurd (omega arith)
near_all (x ∷ xs) [] (suc n) l h = absurd h
near_all (x ∷ xs) (y ∷ ys) (suc n) l h = ap (λ z. z ∷ ys) (sym h.0) ∙ ap (λ z. x ∷ z) (near_all xs ys n (omega arith) h.1)

-- an item that is refused
judged_fault : (text : List ℕ) (es : List Entry) (d : Draft) (s : State) (pos m : ℕ) (st : Step) (f : PlanFault) → 0 < m → item_at text s pos ≡ Ok st → judged text (look_up es) d st.item ≡ Err f → gathered m text es d s pos ≡ Err f
judged_fault text es d s pos m st f l is j =
    gathered_item m text es d s pos st is l
    ∙ ap (λ r. and_then r (λ e. resume (proceed st.item e st) (λ b. Ok b) (λ b t q. gathered (m - 1) text (names_after text es d st.item) b t q))) j

module _ (text other : List ℕ) (high : ℕ) (near : Near high text other) where
  abbrev Seen : PlanFault → Type 0
  Seen f = end_from text f.place ≤ high

  abbrev Same : PlanFault → Drafted → Type 0
  Same f r = r ≡ Err f

  right_grammar : (es : List Entry) (d : Draft) (s : State) (pos m : ℕ) (g : GrammarFault) → pos ≤ length text → 0 < m → item_at text s pos ≡ Err g → Seen (raised_plan g) → Same (raised_plan g) (gathered m other es d s pos)
  right_grammar es d s pos m g l p e seen =
      let a = subst (λ r. Agrees text other high near (step_end text other high near) pos r (item_at other s pos)) e (item_agrees text other high near s pos) in
      gathered_fault m other es d s pos g (a.1 seen) p

  module _ (es : List Entry) (d : Draft) (s : State) (pos m : ℕ) (st : Step) (f : PlanFault) (p : 0 < m) (is : item_at text s pos ≡ Ok st) (j : judged text (look_up es) d st.item ≡ Err f) (seen : Seen f) where
    -- the token of the item is one of the other text too
    token_right : (place end : ℕ) → f.place ≡ place → end ≡ end_from text place → end ≡ st.pos → (end ≤ high → judged other (look_up es) d st.item ≡ judged text (look_up es) d st.item) → gathered m other es d s pos ≡ Err f
    token_right place end at whole_end ends same =
        let z = ap (λ n. end_from text n) at in
        judged_fault other es d s pos m st f p (item_near text other high near s pos st is (omega arith)) (same (omega arith) ∙ j)

    right_item : (i : Item) → st.item ≡ i → ItemSits text i pos st.pos → Told text i f → gathered m other es d s pos ≡ Err f
    right_item (item.Declares k t) q w told =
        token_right t.place t.end told w.0.1 w.1 (λ l. subst (λ i. judged other (look_up es) d i ≡ judged text (look_up es) d i) (sym q) (judged_near text other high near (look_up es) d (item.Declares k t) pos st.pos w l))
    right_item (item.Priority n t) q w told =
        token_right t.place t.end told w.0.1 w.1 (λ l. subst (λ i. judged other (look_up es) d i ≡ judged text (look_up es) d i) (sym q) refl)
    right_item (item.Activation n t) q w told =
        token_right t.place t.end told w.0.1 w.1 (λ l. subst (λ i. judged other (look_up es) d i ≡ judged text (look_up es) d i) (sym q) refl)
    right_item (item.Refers k t) q w told =
        token_right t.place t.end told w.0.1 w.1 (λ l. subst (λ i. judged other (look_up es) d i ≡ judged text (look_up es) d i) (sym q) (judged_near text other high near (look_up es) d (item.Refers k t) pos st.pos w l))
    right_item item.Closes q w told = absurd told
    right_item item.End q w told =
        let z = ap (λ (x : PlanFault). x.place) told in
        let o : other ≡ text = near_all text other high (omega arith) near in
        ap (λ x. gathered m x es d s pos) o ∙ judged_fault text es d s pos m st f p is j

  pub same_fault : (f : PlanFault) → whole text ≡ Err f → Seen f → whole other ≡ Err f
  same_fault f e seen =
      sought text other high near Seen Same (λ g h. omega arith) right_grammar
      (λ es d s pos m st g p is j told h. right_item es d s pos m st g p is j h st.item refl (item_sits text s pos st is) told)
      [] empty_draft state.Start f e seen

right_of : (text : List ℕ) (records : ℕ) (d : Drafted) → drafted text records ≡ d → RightFree text records (done d)
right_of text records (Ok d) h = tt
right_of text records (Err f) h = λ ot other short same.
    let r = fault_from text records f h ot in
    let e = end_from text f.place in
    let one : e + 1 ≡ suc e = omega arith in
    let near : Near e text other = near_take e text other (ap (λ n. take n other) (sym one) ∙ same ∙ ap (λ n. take n text) one) in
    ap done (drafted_is other records r.0 short ∙ same_fault text other e near f r.2 (omega arith))

pub right_free : (text : List ℕ) (records : ℕ) (r : Result (Unit {0}) PlanFault) → r ≡ outcome text records → RightFree text records r
right_free text records r e = subst (RightFree text records) (sym e) (right_of text records (drafted text records) refl)

-- a text cut at q
module _ (text : List ℕ) (q : ℕ) where
  abbrev cut : List ℕ
  cut = take q text

  abbrev AtQ : PlanFault → Type 0
  AtQ f = f.place ≡ q

  -- the fault lies in the text, and the cut text is refused only for having ended
  abbrev Ended : PlanFault → Drafted → Type 0
  Ended f r = (q ≤ length text) × OnlyEnds q (done r)

  stopped : (es : List Entry) (d : Draft) (s : State) (pos m : ℕ) → 0 < m → q ≤ length text → Stop text q (item_at cut s pos) → OnlyEnds q (done (gathered m cut es d s pos))
  stopped es d s pos m p l o =
      ⊎_elim
      (λ e. subst (λ r. OnlyEnds q (done r)) (sym (gathered_fault m cut es d s pos _ e p)) (refl, inl refl))
      (λ e. subst (λ r. OnlyEnds q (done r)) (sym (gathered_item m cut es d s pos _ e.1 p))
      (cond_both (eqb d.declared 0) (Err (refusal cause.NoTask (length cut))) (Ok d) (λ (r : Drafted). OnlyEnds q (done (and_then r (λ b. Ok b))))
      (λ _. (let z = length-take q text in omega arith, inr refl)) (λ _. tt)))
      o

  left_grammar : (es : List Entry) (d : Draft) (s : State) (pos m : ℕ) (g : GrammarFault) → pos ≤ length text → 0 < m → item_at text s pos ≡ Err g → AtQ (raised_plan g) → Ended (raised_plan g) (gathered m cut es d s pos)
  left_grammar es d s pos m g l p e at =
      let a = subst (λ r. Cuts text q (Stop text q) (Judges text q) (λ st. st.pos) pos r (item_at cut s pos)) e (item_cuts text q s pos) in
      let in_text = a.1 l in
      let inside : q ≤ length text = omega arith in
      (inside, stopped es d s pos m p inside (a.2 at))

  module _ (es : List Entry) (d : Draft) (s : State) (pos m : ℕ) (st : Step) (f : PlanFault) (p : 0 < m) (is : item_at text s pos ≡ Ok st) (j : judged text (look_up es) d st.item ≡ Err f) (at : AtQ f) where
    -- the token of the item is where the cut text ends
    token_left : Judges text q st → q ≤ length text → Ended f (gathered m cut es d s pos)
    token_left here inside =
        let a = subst (λ r. Cuts text q (Stop text q) (Judges text q) (λ x. x.pos) pos r (item_at cut s pos)) is (item_cuts text q s pos) in
        (inside, stopped es d s pos m p inside (a.3 here).1)

    left_item : (i : Item) → st.item ≡ i → ItemSits text i pos st.pos → Told text i f → Ended f (gathered m cut es d s pos)
    left_item (item.Declares k t) is_i w told = let a = w.0.0 in let b = w.0.4 in token_left (subst (λ i. PlaceOf i q) (sym is_i) (sym told ∙ at)) (omega arith)
    left_item (item.Priority n t) is_i w told = let a = w.0.0 in let b = w.0.4 in token_left (subst (λ i. PlaceOf i q) (sym is_i) (sym told ∙ at)) (omega arith)
    left_item (item.Activation n t) is_i w told = let a = w.0.0 in let b = w.0.4 in token_left (subst (λ i. PlaceOf i q) (sym is_i) (sym told ∙ at)) (omega arith)
    left_item (item.Refers k t) is_i w told = let a = w.0.0 in let b = w.0.4 in token_left (subst (λ i. PlaceOf i q) (sym is_i) (sym told ∙ at)) (omega arith)
    left_item item.Closes is_i w told = absurd told
    left_item item.End is_i w told =
        let z = ap (λ (x : PlanFault). x.place) told in
        let o : cut ≡ text = take_all q text (omega arith) in (
          omega arith,
          subst (λ r. OnlyEnds q (done r)) (sym (ap (λ x. gathered m x es d s pos) o ∙ judged_fault text es d s pos m st f p is j))
              (at, inr (ap (λ (x : PlanFault). number_of x.cause) told)),
        )

  cut_ends : (f : PlanFault) → whole text ≡ Err f → AtQ f → Ended f (whole cut)
  cut_ends f e at =
      sought text cut q (near_cut q q text (omega arith)) AtQ Ended (λ g h. omega arith) left_grammar
      (λ es d s pos m st g p is j told h. left_item es d s pos m st g p is j h st.item refl (item_sits text s pos st is) told)
      [] empty_draft state.Start f e at

left_of : (text : List ℕ) (records : ℕ) (d : Drafted) → drafted text records ≡ d → LeftFree text records (done d)
left_of text records (Ok d) h = tt
left_of text records (Err f) h = λ ot.
    let r = fault_from text records f h ot in
    let c = cut_ends text f.place f r.2 refl in
    let short : length (take f.place text) ≤ 32768 = let z = length-take f.place text in let y = r.1 in omega arith in
    (c.0, subst (λ x. OnlyEnds f.place (done x)) (sym (drafted_is (take f.place text) records r.0 short)) c.1)

pub left_free : (text : List ℕ) (records : ℕ) (r : Result (Unit {0}) PlanFault) → r ≡ outcome text records → LeftFree text records r
left_free text records r e = subst (LeftFree text records) (sym e) (left_of text records (drafted text records) refl)
