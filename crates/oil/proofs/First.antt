-- Where a text has a fault, what another text has that agrees with it up to some byte.
use Rattle.std.proofs.Common.{◌≡◌, ℕ, zero, suc, ◌+◌, ◌-◌, ◌<◌, ◌≤◌, eqb, ltb, List, length, IfErr, Some, None, Ok, Err, Option, Result, sym, refl, ap, ◌∙◌, subst, arith}
use Rattle.std.proofs.lemmas.Bool.{cond_both}
use Rattle.vectors.specs.Vectors.{in_vector}
use Rattle.letters.specs.Tokens.{bytes_of}
use Rattle.letters.proofs.Near.{Near}
use Rattle.letters.proofs.Local.{bytes_near}
use Rattle.grammar.specs.declared.fault.GrammarFault.{GrammarFault}
use Rattle.grammar.specs.declared.item.Kind.{Kind}
use Rattle.grammar.specs.declared.item.Kind.TheVariants as kind
use Rattle.grammar.specs.declared.item.State.{State}
use Rattle.grammar.specs.declared.item.Item.{Item}
use Rattle.grammar.specs.declared.item.Item.TheVariants as item
use Rattle.grammar.specs.declared.item.Step.{Step}
use Rattle.grammar.specs.Faults.{and_then}
use Rattle.grammar.specs.Items.{item_at}
use Rattle.grammar.proofs.Agrees.{Agrees, step_end, item_agrees}
use Rattle.grammar.proofs.Sits.{ItemSits, item_sits}
use Rattle.oil.specs.declared.table.Known.{Known}
use Rattle.oil.specs.declared.draft.Draft.{Draft}
use Rattle.oil.specs.declared.fault.PlanCause.TheVariants as cause
use Rattle.oil.specs.declared.fault.PlanFault.{PlanFault}
use Rattle.oil.specs.Faults.{raised_plan, refusal}
use Rattle.oil.specs.Draft.{Drafted, grown}
use Rattle.oil.specs.Judging.{unless_known, introduced, referred_to, referred_by, judged, proceed, resume}
use Rattle.oil.specs.Reading.{Entry, look_up, learnt, names_after, gathered}
use Rattle.oil.proofs.Judged.{onward, gathered_item, gathered_fault}

-- what is told of an item that is refused
abbrev pub Told : List ℕ → Item → PlanFault → Type 0
Told text (item.Declares k t) f = f.place ≡ t.place
Told text (item.Priority n t) f = f.place ≡ t.place
Told text (item.Activation n t) f = f.place ≡ t.place
Told text (item.Refers k t) f = f.place ≡ t.place
Told text item.Closes f = ⊥
Told text item.End f = f ≡ refusal cause.NoTask (length text)

abbrev Tells : (PlanFault → Type 0) → Drafted → Type 0
Tells P r = IfErr r P

abbrev AtPlace : ℕ → PlanFault → Type 0
AtPlace place f = f.place ≡ place

grown_at : (d : Draft) (k : Kind) (place : ℕ) → Tells (AtPlace place) (grown d k place)
grown_at d kind.Resource place = cond_both (eqb d.resources 32) _ _ (Tells (AtPlace place)) (λ _. refl) (λ _. tt)
grown_at d kind.Event place = cond_both (eqb d.events 32) _ _ (Tells (AtPlace place)) (λ _. refl) (λ _. tt)
grown_at d kind.Task place = cond_both (eqb d.tasks 64) _ _ (Tells (AtPlace place)) (λ _. refl) (λ _. tt)

unless_at : (d : Draft) (k : Kind) (place : ℕ) (o : Option Known) → Tells (AtPlace place) (unless_known o place (grown d k place))
unless_at d k place None = grown_at d k place
unless_at d k place (Some x) = refl

to_at : (d : Draft) (k x : Kind) (n place : ℕ) → Tells (AtPlace place) (referred_to d k x n place)
to_at d kind.Resource kind.Resource n place = tt
to_at d kind.Resource kind.Event n place = refl
to_at d kind.Resource kind.Task n place = refl
to_at d kind.Event kind.Resource n place = refl
to_at d kind.Event kind.Event n place = tt
to_at d kind.Event kind.Task n place = refl
to_at d kind.Task x n place = refl

by_at : (d : Draft) (k : Kind) (o : Option Known) (place : ℕ) → Tells (AtPlace place) (referred_by d k o place)
by_at d k None place = refl
by_at d k (Some x) place = to_at d k x.kind x.number place

tells : (text : List ℕ) (look : List ℕ → Option Known) (d : Draft) (i : Item) → Tells (Told text i) (judged text look d i)
tells text look d (item.Declares k t) = unless_at d k t.place (look (bytes_of text t))
tells text look d (item.Priority n t) =
    cond_both (ltb 63 n) _ _ (Tells (AtPlace t.place)) (λ _. refl) (λ _. cond_both (in_vector d.declared n) _ _ (Tells (AtPlace t.place)) (λ _. refl) (λ _. tt))
tells text look d (item.Activation n t) = cond_both (eqb n 1) _ _ (Tells (AtPlace t.place)) (λ _. tt) (λ _. refl)
tells text look d (item.Refers k t) = by_at d k (look (bytes_of text t)) t.place
tells text look d item.Closes = tt
tells text look d item.End = cond_both (eqb d.declared 0) _ _ (Tells (Told text item.End)) (λ _. refl) (λ _. tt)

-- what is told lies no further left than what was read before
told_low : (text : List ℕ) (i : Item) (f : PlanFault) (pos end : ℕ) → pos ≤ length text → ItemSits text i pos end → Told text i f → pos ≤ f.place
told_low text (item.Declares k t) f pos end l s e = let a = s.0.2 in omega arith
told_low text (item.Priority n t) f pos end l s e = let a = s.0.2 in omega arith
told_low text (item.Activation n t) f pos end l s e = let a = s.0.2 in omega arith
told_low text (item.Refers k t) f pos end l s e = let a = s.0.2 in omega arith
told_low text item.Closes f pos end l s e = absurd e
told_low text item.End f pos end l s e = let z = ap (λ (x : PlanFault). x.place) e in omega arith

module _ (text other : List ℕ) (high : ℕ) (near : Near high text other) where
  pub item_near : (s : State) (pos : ℕ) (st : Step) → item_at text s pos ≡ Ok st → st.pos ≤ high → item_at other s pos ≡ Ok st
  item_near s pos st e l = (subst (λ r. Agrees text other high near (step_end text other high near) pos r (item_at other s pos)) e (item_agrees text other high near s pos)).1 l

  -- items that end early enough are judged alike
  abbrev EndsIn : Item → ℕ → Type 0
  EndsIn (item.Declares k t) end = t.end ≤ high
  EndsIn (item.Priority n t) end = t.end ≤ high
  EndsIn (item.Activation n t) end = t.end ≤ high
  EndsIn (item.Refers k t) end = t.end ≤ high
  EndsIn item.Closes end = Unit {0}
  EndsIn item.End end = ⊥

  pub judged_near : (look : List ℕ → Option Known) (d : Draft) (i : Item) (pos end : ℕ) → ItemSits text i pos end → EndsIn i end → judged other look d i ≡ judged text look d i
  judged_near look d (item.Declares k t) pos end s l = ap (λ b. introduced look d k b t.place) (bytes_near text other high near t s.0.0 l)
  judged_near look d (item.Priority n t) pos end s l = refl
  judged_near look d (item.Activation n t) pos end s l = refl
  judged_near look d (item.Refers k t) pos end s l = ap (λ b. referred_by d k (look b) t.place) (bytes_near text other high near t s.0.0 l)
  judged_near look d item.Closes pos end s l = refl
  judged_near look d item.End pos end s l = absurd l

  names_near : (es : List Entry) (d : Draft) (i : Item) (pos end : ℕ) → ItemSits text i pos end → EndsIn i end → names_after other es d i ≡ names_after text es d i
  names_near es d (item.Declares k t) pos end s l = ap (λ b. learnt es d k b (introduced (look_up es) d k b t.place)) (bytes_near text other high near t s.0.0 l)
  names_near es d (item.Priority n t) pos end s l = refl
  names_near es d (item.Activation n t) pos end s l = refl
  names_near es d (item.Refers k t) pos end s l = refl
  names_near es d item.Closes pos end s l = refl
  names_near es d item.End pos end s l = absurd l

  -- an item that is not the last
  record Onward (i : Item) (pos end : ℕ) (st : Step) : Type 0 where
    further : pos < end
    within : end ≤ length text
    ends_in : end ≤ high → EndsIn i end
    again : (e : Draft) (f : Draft → State → ℕ → Drafted) → resume (proceed i e st) (λ b. Ok b) f ≡ f e st.state st.pos
    room : ItemSits other i pos end → end ≤ length other

  -- What is sought of the other text, Goal, where the fault of this one is Hit. The faults of the grammar and of an item come as hypotheses.
  module _ (Hit : PlanFault → Type 0) (Goal : PlanFault → Drafted → Type 0)
      (low : (f : PlanFault) → Hit f → f.place ≤ high)
      (by_grammar : (es : List Entry) (d : Draft) (s : State) (pos m : ℕ) (g : GrammarFault) → pos ≤ length text → 0 < m → item_at text s pos ≡ Err g → Hit (raised_plan g) → Goal (raised_plan g) (gathered m other es d s pos))
      (by_judge : (es : List Entry) (d : Draft) (s : State) (pos m : ℕ) (st : Step) (f : PlanFault) → 0 < m → item_at text s pos ≡ Ok st → judged text (look_up es) d st.item ≡ Err f → Told text st.item f → Hit f → Goal f (gathered m other es d s pos))
    where
      abbrev Claim : ℕ → Drafted → (ℕ → Drafted) → Type 0
      Claim pos mine yours =
          IfErr mine (λ f. (pos ≤ f.place) × (Hit f → (m : ℕ) → pos ≤ length other → length other < m + pos → Goal f (yours m)))

      claim_on : (pos sp : ℕ) (mine : Drafted) (first yours : ℕ → Drafted) → pos ≤ sp → ((m : ℕ) → sp ≤ high → pos ≤ length other → length other < m + pos → (yours m ≡ first (m - 1)) × (sp ≤ length other) × (length other < (m - 1) + sp)) → Claim sp mine first → Claim pos mine yours
      claim_on pos sp (Ok e) first yours l k h = tt
      claim_on pos sp (Err f) first yours l k h =
          let far = h.0 in
          (omega arith, λ hit m lo fu. let z = low f hit in let x = k m (omega arith) lo fu in subst (Goal f) (sym x.0) (h.1 hit (m - 1) x.1 x.2))

      abbrev Hyp : ℕ → Type 0
      Hyp n = (es : List Entry) (d : Draft) (s : State) (pos : ℕ) → pos ≤ length text → length text < n + pos → Claim pos (gathered n text es d s pos) (λ m. gathered m other es d s pos)

      module _ (n : ℕ) (ih : Hyp n) (es : List Entry) (d : Draft) (s : State) (pos : ℕ) (inside : pos ≤ length text) (fuel : length text < suc n + pos) (st : Step) (is : item_at text s pos ≡ Ok st) where
        sits : ItemSits text st.item pos st.pos
        sits = item_sits text s pos st is

        after : List Entry
        after = names_after text es d st.item

        goes_on : (e : Draft) → judged text (look_up es) d st.item ≡ Ok e → Onward st.item pos st.pos st → Claim pos (gathered n text after e st.state st.pos) (λ m. gathered m other es d s pos)
        unfolding after sits
        goes_on e j o =
            let far = o.further in
            let near_end = o.within in
            claim_on pos st.pos (gathered n text after e st.state st.pos) (λ m. gathered m other after e st.state st.pos) (λ m. gathered m other es d s pos) (omega arith)
            (λ m l lo fu.
            let io = item_near s pos st is l in
            let ends = o.ends_in l in
            let jo : judged other (look_up es) d st.item ≡ Ok e = judged_near (look_up es) d st.item pos st.pos sits ends ∙ j in
            let no = names_near es d st.item pos st.pos sits ends in (
              gathered_item m other es d s pos st io (omega arith)
                  ∙ ap (λ r. and_then r (λ x. resume (proceed st.item x st) (λ b. Ok b) (λ y u v. gathered (m - 1) other (names_after other es d st.item) y u v))) jo
                  ∙ o.again e (λ y u v. gathered (m - 1) other (names_after other es d st.item) y u v)
                  ∙ ap (λ ns. gathered (m - 1) other ns e st.state st.pos) no,
              o.room (item_sits other s pos st io),
              omega arith,
            ))
            (ih after e st.state st.pos near_end (omega arith))

        more : (e : Draft) → judged text (look_up es) d st.item ≡ Ok e → Onward st.item pos st.pos st → Claim pos (resume (proceed st.item e st) (λ b. Ok b) (λ b t q. gathered n text after b t q)) (λ m. gathered m other es d s pos)
        more e j o = subst (λ r. Claim pos r (λ m. gathered m other es d s pos)) (sym (o.again e (λ b t q. gathered n text after b t q))) (goes_on e j o)

        accepted : (i : Item) → st.item ≡ i → (e : Draft) → judged text (look_up es) d st.item ≡ Ok e → Claim pos (resume (proceed st.item e st) (λ b. Ok b) (λ b t q. gathered n text after b t q)) (λ m. gathered m other es d s pos)
        accepted (item.Declares k t) q e j =
            let w : ItemSits text (item.Declares k t) pos st.pos = subst (λ i. ItemSits text i pos st.pos) q (item_sits text s pos st is) in
            let a = w.0.3 in
            let b = w.0.4 in
            let c = w.1 in
            more e j (subst (λ i. Onward i pos st.pos st) (sym q) (record { further = omega arith; within = omega arith; ends_in = λ l. omega arith; again = λ x f. refl; room = λ h. let y = h.0.4 in let z = h.1 in omega arith }))
        accepted (item.Priority v t) q e j =
            let w : ItemSits text (item.Priority v t) pos st.pos = subst (λ i. ItemSits text i pos st.pos) q (item_sits text s pos st is) in
            let a = w.0.3 in
            let b = w.0.4 in
            let c = w.1 in
            more e j (subst (λ i. Onward i pos st.pos st) (sym q) (record { further = omega arith; within = omega arith; ends_in = λ l. omega arith; again = λ x f. refl; room = λ h. let y = h.0.4 in let z = h.1 in omega arith }))
        accepted (item.Activation v t) q e j =
            let w : ItemSits text (item.Activation v t) pos st.pos = subst (λ i. ItemSits text i pos st.pos) q (item_sits text s pos st is) in
            let a = w.0.3 in
            let b = w.0.4 in
            let c = w.1 in
            more e j (subst (λ i. Onward i pos st.pos st) (sym q) (record { further = omega arith; within = omega arith; ends_in = λ l. omega arith; again = λ x f. refl; room = λ h. let y = h.0.4 in let z = h.1 in omega arith }))
        accepted (item.Refers k t) q e j =
            let w : ItemSits text (item.Refers k t) pos st.pos = subst (λ i. ItemSits text i pos st.pos) q (item_sits text s pos st is) in
            let a = w.0.3 in
            let b = w.0.4 in
            let c = w.1 in
            more e j (subst (λ i. Onward i pos st.pos st) (sym q) (record { further = omega arith; within = omega arith; ends_in = λ l. omega arith; again = λ x f. refl; room = λ h. let y = h.0.4 in let z = h.1 in omega arith }))
        accepted item.Closes q e j =
            let w : ItemSits text item.Closes pos st.pos = subst (λ i. ItemSits text i pos st.pos) q (item_sits text s pos st is) in
            let a = w.0 in
            let b = w.1 in
            more e j (subst (λ i. Onward i pos st.pos st) (sym q) (record { further = omega arith; within = omega arith; ends_in = λ l. tt; again = λ x f. refl; room = λ h. h.1 }))
        accepted item.End q e j = subst (λ i. Claim pos (resume (proceed i e st) (λ b. Ok b) (λ b t x. gathered n text after b t x)) (λ m. gathered m other es d s pos)) (sym q) tt

        by_item : Claim pos (onward n text es d st) (λ m. gathered m other es d s pos)
        unfolding after
        by_item = on (judged text (look_up es) d st.item) refl
          where
            on : (r : Drafted) → judged text (look_up es) d st.item ≡ r → Claim pos (and_then r (λ e. resume (proceed st.item e st) (λ b. Ok b) (λ b t q. gathered n text (names_after text es d st.item) b t q))) (λ m. gathered m other es d s pos)
            on (Ok e) j = accepted st.item refl e j
            on (Err f) j =
                let told : Told text st.item f = subst (Tells (Told text st.item)) j (tells text (look_up es) d st.item) in
                (told_low text st.item f pos st.pos inside (item_sits text s pos st is) told, λ hit m lo fu. by_judge es d s pos m st f (omega arith) is j told hit)

      follows : (n : ℕ) → Hyp n
      follows zero es d s pos inside fuel = absurd (omega arith)
      follows (suc n) es d s pos inside fuel = on (item_at text s pos) refl (follows n)
        where
          on : (r : Result Step GrammarFault) → item_at text s pos ≡ r → Hyp n → Claim pos (gathered (suc n) text es d s pos) (λ m. gathered m other es d s pos)
          on (Err g) e ih =
              let a = subst (λ r. Agrees text other high near (step_end text other high near) pos r (item_at other s pos)) e (item_agrees text other high near s pos) in
              subst (λ r. Claim pos r (λ m. gathered m other es d s pos)) (sym (gathered_fault (suc n) text es d s pos g e (omega arith)))
              (a.0, λ hit m lo fu. by_grammar es d s pos m g inside (omega arith) e hit)
          on (Ok st) e ih =
              let q : suc n - 1 ≡ n = omega arith in
              subst (λ r. Claim pos r (λ m. gathered m other es d s pos)) (sym (gathered_item (suc n) text es d s pos st e (omega arith) ∙ ap (λ k. onward k text es d st) q))
              (by_item n ih es d s pos inside fuel st e)

      -- the other text has what is sought
      pub sought : (es : List Entry) (d : Draft) (s : State) (f : PlanFault) → gathered (suc (length text)) text es d s 0 ≡ Err f → Hit f → Goal f (gathered (suc (length other)) other es d s 0)
      sought es d s f e hit =
          (subst (λ r. Claim 0 r (λ m. gathered m other es d s 0)) e (follows (suc (length text)) es d s 0 (omega arith) (omega arith))).1 hit (suc (length other)) (omega arith) (omega arith)
