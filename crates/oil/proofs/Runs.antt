-- A whole text, item by item.
use Rattle.std.proofs.Common.{◌≡◌, ℕ, zero, suc, ◌+◌, ◌-◌, ◌<◌, ◌≤◌, List, [], length, replicate, IfOk, Ok, Err, Option, Result, sym, refl, ap, ◌∙◌, subst, arith}
use Rattle.grammar.specs.declared.fault.GrammarFault.{GrammarFault}
use Rattle.grammar.specs.declared.item.State.{State}
use Rattle.grammar.specs.declared.item.Item.{Item}
use Rattle.grammar.specs.declared.item.Item.TheVariants as item
use Rattle.grammar.specs.declared.item.Step.{Step}
use Rattle.grammar.specs.Faults.{and_then}
use Rattle.grammar.specs.Items.{item_at, begun}
use Rattle.grammar.proofs.Through.{through}
use Rattle.grammar.proofs.Sits.{ItemSits, item_sits}
use Rattle.oil.specs.declared.table.NameRecord.{NameRecord}
use Rattle.oil.specs.declared.table.Known.{Known}
use Rattle.oil.specs.declared.draft.Draft.{Draft}
use Rattle.oil.specs.declared.fault.PlanFault.{PlanFault}
use Rattle.oil.specs.Progress.{Progress, Done, More}
use Rattle.oil.specs.Table.{blank, looked}
use Rattle.oil.specs.Sketch.{Bounded}
use Rattle.oil.specs.Draft.{Drafted, empty_draft, used}
use Rattle.oil.specs.Faults.{raised_plan}
use Rattle.oil.specs.Judging.{judged, lift_plan, proceed, advanced, resume}
use Rattle.oil.specs.Reading.{Entry, look_up, names_at, gathered, read_all}
use Rattle.oil.specs.Records.{AllOk, ItemIn, Ready, noted, noted_at, carried, left_by, left_after, left_from}
use Rattle.oil.proofs.Tables.{GoesOn, allok_blank, goes_on, item_in, judged_ok}
use Rattle.oil.proofs.Keeps.{kept_empty, judged_bounded}
use Rattle.oil.proofs.Ties.{Tied, tied_none, advanced_tied, tied_after}

-- what is done with what a step answers
abbrev rest : ℕ → List ℕ → List Entry → Draft → State → ℕ → Result Progress PlanFault → Drafted
rest n text es d s pos r = and_then r (λ p. resume p (λ e. Ok e) (λ e t q. gathered n text (names_at text es d (item_at text s pos)) e t q))

gathered_step : (n : ℕ) (text : List ℕ) (es : List Entry) (d : Draft) (s : State) (pos : ℕ) → 0 < n → gathered n text es d s pos ≡ rest (n - 1) text es d s pos (advanced text (look_up es) d s pos)
unfolding gathered
gathered_step zero text es d s pos h = absurd (omega arith)
gathered_step (suc n) text es d s pos h =
    let e : n ≡ suc n - 1 = omega arith in
    ap (λ m. rest m text es d s pos (advanced text (look_up es) d s pos)) e

-- .. and what it leaves of the table
abbrev kept : ℕ → List ℕ → List NameRecord → Draft → State → ℕ → Result Progress PlanFault → List NameRecord
kept n text names d s pos r = carried r (noted_at text names d (item_at text s pos)) (λ e t q. left_by n text (noted_at text names d (item_at text s pos)) e t q)

left_step : (n : ℕ) (text : List ℕ) (names : List NameRecord) (d : Draft) (s : State) (pos : ℕ) → 0 < n → left_by n text names d s pos ≡ kept (n - 1) text names d s pos (advanced text (looked names) d s pos)
unfolding left_by
left_step zero text names d s pos h = absurd (omega arith)
left_step (suc n) text names d s pos h =
    let e : n ≡ suc n - 1 = omega arith in
    ap (λ m. kept m text names d s pos (advanced text (looked names) d s pos)) e

lift_ok : (r : Result Step GrammarFault) (s : Step) → lift_plan r ≡ Ok s → r ≡ Ok s
lift_ok (Ok u) s h = cc
lift_ok (Err f) s h = let z : ◌≡◌ {A = ℕ} 0 1 = cc in absurd (omega arith)

-- the parts of a step that came through
pub record Came (text : List ℕ) (look : List ℕ → Option Known) (d : Draft) (s : State) (pos : ℕ) (p : Progress) : Type 0 where
  pub step : Step
  pub item_is : item_at text s pos ≡ Ok step
  pub draft : Draft
  pub judged_is : judged text look d step.item ≡ Ok draft
  pub goes : proceed step.item draft step ≡ p

pub came : (text : List ℕ) (look : List ℕ → Option Known) (d : Draft) (s : State) (pos : ℕ) (p : Progress) → advanced text look d s pos ≡ Ok p → Came text look d s pos p
came text look d s pos p h =
    let y = through (lift_plan (item_at text s pos)) (λ st. and_then (judged text look d st.item) (λ b. Ok (proceed st.item b st))) p h in
    let z = through (judged text look d y.0.item) (λ b. Ok (proceed y.0.item b y.0)) p y.2 in
    record { step = y.0; item_is = lift_ok (item_at text s pos) y.0 y.1; draft = z.0; judged_is = z.1; goes = cc }

more_is : (i : Item) (b e : Draft) (st : Step) (t : State) (q : ℕ) → proceed i b st ≡ More e t q → b ≡ e
more_is (item.Declares k u) b e st t q h = cc
more_is (item.Priority n u) b e st t q h = cc
more_is (item.Activation n u) b e st t q h = cc
more_is (item.Refers k u) b e st t q h = cc
more_is item.Closes b e st t q h = cc
more_is item.End b e st t q h = let z : ◌≡◌ {A = ℕ} 0 1 = cc in absurd (omega arith)

more_from : (i : Item) (d : Draft) (st : Step) → (i ≡ item.End → ⊥) → proceed i d st ≡ More d st.state st.pos
more_from (item.Declares k u) d st ne = refl
more_from (item.Priority n u) d st ne = refl
more_from (item.Activation n u) d st ne = refl
more_from (item.Refers k u) d st ne = refl
more_from item.Closes d st ne = refl
more_from item.End d st ne = absurd (ne refl)

-- the reading under way: with these names it comes to the goal, and the table to what is left
pub record Going (text : List ℕ) (goal : Drafted) (left : List NameRecord) (names : List NameRecord) (d : Draft) (s : State) (pos : ℕ) : Type 0 where
  pub fuel : ℕ
  pub enough : length text < fuel + pos
  pub within : pos ≤ length text
  pub bounded : Bounded d
  pub ready : Ready d names
  pub entries : List Entry
  pub tied : Tied names entries (used d)
  pub same : gathered fuel text entries d s pos ≡ goal
  pub stays : left_by fuel text names d s pos ≡ left

module _ {text : List ℕ} {goal : Drafted} {left names : List NameRecord} {d : Draft} {s : State} {pos : ℕ} (g : Going text goal left names d s pos) where
  one : (r : Result Progress PlanFault) → r ≡ advanced text (looked names) d s pos → rest (g.fuel - 1) text g.entries d s pos r ≡ goal
  one r is =
      let f = g.enough in
      let w = g.within in
      ap (rest (g.fuel - 1) text g.entries d s pos) (is ∙ advanced_tied text names g.entries d g.tied s pos) ∙ sym (gathered_step g.fuel text g.entries d s pos (omega arith)) ∙ g.same

  table : (r : Result Progress PlanFault) → r ≡ advanced text (looked names) d s pos → kept (g.fuel - 1) text names d s pos r ≡ left
  table r is =
      let f = g.enough in
      let w = g.within in
      ap (kept (g.fuel - 1) text names d s pos) is ∙ sym (left_step g.fuel text names d s pos (omega arith)) ∙ g.stays

  pub going_done : (e : Draft) (after : List NameRecord) → Ok (Done e) ≡ advanced text (looked names) d s pos → after ≡ noted_at text names d (item_at text s pos) → (Ok e ≡ goal) × (after ≡ left)
  going_done e after is noted = (one (Ok (Done e)) is, noted ∙ table (Ok (Done e)) is)

  pub going_fault : (f : PlanFault) (after : List NameRecord) → Err f ≡ advanced text (looked names) d s pos → after ≡ noted_at text names d (item_at text s pos) → (Err f ≡ goal) × (after ≡ left)
  going_fault f after is noted = (one (Err f) is, noted ∙ table (Err f) is)

  pub going_more : (e : Draft) (t : State) (q : ℕ) (after : List NameRecord) → Ok (More e t q) ≡ advanced text (looked names) d s pos → GoesOn pos (length text) after (More e t q) → after ≡ noted_at text names d (item_at text s pos) → Going text goal left after e t q
  going_more e t q after is on noted =
      let f = g.enough in
      let w = g.within in
      let low = on.0 in
      let c = came text (looked names) d s pos (More e t q) (sym is) in
      let st = c.step in
      let same_draft = more_is st.item c.draft e st t q c.goes in
      let tie = tied_after text names g.entries d g.tied st.item pos st.pos c.draft (item_sits text s pos st c.item_is) g.bounded g.ready c.judged_is in
      let few = subst (λ r. IfOk r Bounded) c.judged_is (judged_bounded g.bounded text (looked names) st.item) in
      record {
        fuel = g.fuel - 1;
        enough = omega arith;
        within = on.1;
        bounded = subst Bounded same_draft few;
        ready = on.2;
        entries = names_at text g.entries d (item_at text s pos);
        tied = subst (λ ns. Tied ns (names_at text g.entries d (item_at text s pos)) (used e)) (sym noted)
            (subst (λ r. Tied (noted_at text names d r) (names_at text g.entries d r) (used e)) (sym c.item_is)
            (subst (λ b. Tied (noted_at text names d (Ok st)) (names_at text g.entries d (Ok st)) (used b)) same_draft tie));
        same = one (Ok (More e t q)) is;
        stays = ap (λ ns. left_by (g.fuel - 1) text ns e t q) noted ∙ table (Ok (More e t q)) is;
      }

  -- a text that ends in a fault of the layers below
  pub going_unread : {f : GrammarFault} → Err f ≡ item_at text s pos → (Err (raised_plan f) ≡ goal) × (names ≡ left)
  going_unread {f} h = going_fault (raised_plan f) names (ap (λ i. and_then (lift_plan i) (λ u. and_then (judged text (looked names) d u.item) (λ e. Ok (proceed u.item e u)))) h) (ap (noted_at text names d) h)

  module _ {st : Step} (h : Ok st ≡ item_at text s pos) where
    sits : ItemSits text st.item pos st.pos
    sits = item_sits text s pos st (sym h)

    step_is : (r : Drafted) → r ≡ judged text (looked names) d st.item → and_then r (λ e. Ok (proceed st.item e st)) ≡ advanced text (looked names) d s pos
    step_is r is =
        ap (λ x. and_then x (λ e. Ok (proceed st.item e st))) is
        ∙ ap (λ i. and_then (lift_plan i) (λ u. and_then (judged text (looked names) d u.item) (λ e. Ok (proceed u.item e u)))) h

    pub going_in : ItemIn text st.item
    going_in = item_in text st.item pos st.pos sits

    module _ {after : List NameRecord} (noted_is : after ≡ noted text names d st.item) where
      -- .. or in a fault of the item
      pub going_refused : {f : PlanFault} → Err f ≡ judged text (looked names) d st.item → (Err f ≡ goal) × (after ≡ left)
      going_refused {f} is = going_fault f after (step_is (Err f) is) (noted_is ∙ ap (noted_at text names d) h)

      -- .. or is complete
      pub going_end : {e : Draft} → Ok e ≡ judged text (looked names) d st.item → st.item ≡ item.End → (Ok e ≡ goal) × (after ≡ left)
      going_end {e} is last = going_done e after (ap (λ i. Ok (proceed i e st)) (sym last) ∙ step_is (Ok e) is) (noted_is ∙ ap (noted_at text names d) h)

      -- .. or goes on, further right
      pub going_on : {e : Draft} → Ok e ≡ judged text (looked names) d st.item → (st.item ≡ item.End → ⊥) → Going text goal left after e st.state st.pos × (pos < st.pos) × (st.pos ≤ length text)
      going_on {e} is ne =
          let more = more_from st.item e st ne in
          let on = subst (GoesOn pos (length text) after) more (subst (λ ns. GoesOn pos (length text) ns (proceed st.item e st)) (sym noted_is) (goes_on text st.item st e (noted text names d st.item) pos sits (judged_ok text names d e st.item g.ready is))) in
          (going_more e st.state st.pos after (ap Ok (sym more) ∙ step_is (Ok e) is) on (noted_is ∙ ap (noted_at text names d) h), on.0, on.1)

pub start : (text : List ℕ) (names : List NameRecord) (s : State) → begun text ≡ Ok s → names ≡ replicate (length names) blank → 128 ≤ length names → Going text (read_all text) (left_after text names) names empty_draft s 0
start text names s e is room = record {
  fuel = suc (length text);
  enough = omega arith;
  within = omega arith;
  bounded = kept_empty.bounded;
  ready = record { room = room; sound = subst (λ ns. AllOk empty_draft ns) (sym is) (allok_blank empty_draft (length names)) };
  entries = [];
  tied = subst (λ ns. Tied ns [] 0) (sym is) (tied_none (length names));
  same = sym (ap (λ r. and_then (lift_plan r) (λ t. gathered (suc (length text)) text [] empty_draft t 0)) e);
  stays = sym (ap (left_from text names) e);
}
