-- Every run keeps the invariant; what the invariant says of one moment is exclusion.
use Rattle.std.proofs.Common.{◌≡◌, ℕ, ◌<◌, ◌≤◌, Bool, true, false, ◌⊎◌, List, [], ◌∷◌, Some, None, Option, sym, refl, ap, ◌∙◌, subst, inl, inr, ⊎_elim, arith}
use Rattle.std.proofs.lemmas.Bool.{both_ways, leb-true, or_cases, cases_order}
use Rattle.plan.specs.declared.record.Plan.{Plan}
use Rattle.machine.specs.declared.Call.{Call}
use Rattle.plan.specs.Plans.{ceiling, reaches, uses}
use Rattle.machine.specs.Schedules.{Schedule, head, among, running, holder}
use Rattle.machine.specs.Machine.{Machine, Answer, fresh, answer, step}
use Rattle.laws.proofs.Busy.{busy}
use Rattle.machine.specs.Refusals.{refusal}
use Rattle.machine.specs.History.{History, runs, plan_of, holder_of, unfinished, ceiling_under, may_lock_under}
use Rattle.machine.specs.Laws.{record_run, history, Set, Exclusive}
use Rattle.laws.proofs.Lists.{top, head_among, under_ceiling, under_cases, user_below}
use Rattle.machine.specs.Shapes.{Falling}
use Rattle.laws.proofs.Invariant.{blocked}
use Rattle.laws.proofs.Agreement.{Inv, unfinished_is, inv_first, inv_step, Ready, ready, busy_plan}

-- h is the history of calls on some new kernel, and m the machine after them
abbrev pub From : History → Machine → Type 0
From [] m = (c : ℕ) × (w : ℕ → Bool) × Set c w × (m ≡ fresh c w)
From (e ∷ h) m = (b : Machine) × From h b × (e.answer ≡ answer e.call b) × (m ≡ step e.call b)

pub from_inv : (h : History) (m : Machine) → From h m → Inv m h
from_inv [] m f = subst (λ (n : Machine). Inv n []) (sym f.3) (inv_first f.0 f.1 f.2.inside)
from_inv (e ∷ h) m f =
    subst (λ (n : Machine). Inv n (e ∷ h)) (sym f.3)
    (subst (λ (x : Answer). Inv (step e.call f.0) (record { call = e.call; answer = x } ∷ h)) (sym f.2)
    (inv_step e.call f.0 h (from_inv h f.0 f.1) (refusal e.call f.0.schedule) refl))

pub run_from : (cs : List Call) (m : Machine) (h : History) → From h m → (n : Machine) × From (record_run cs m h) n
run_from [] m h f = (m, f)
run_from (c ∷ cs) m h f = run_from cs (step c m) (record { call = c; answer = answer c m } ∷ h) (m, f, refl, refl)

pub history_from : (c : ℕ) (w : ℕ → Bool) → Set c w → (cs : List Call) → (n : Machine) × From (history c w cs) n
history_from c w s cs = run_from cs (fresh c w) [] (c, w, s, refl)

-- exclusion

alone : (p : Plan) (y : Schedule) → Ready p y → (t r k : ℕ) → running y ≡ Some t → uses p r t ≡ true → holder y.held r ≡ Some k → k ≡ t
alone p y g t r k e u h =
    let a : k ≤ t = top y.chain g.shape.falling t k e (g.shape.placed r k h) in
    ⊎_elim (λ (z : k ≡ t). z)
    (⊎_elim (λ (z : k < t). absurd (both_ways (reaches (ceiling p r) t) (g.suits.guarded r k t h (head_among y.chain t e) z) (user_below p r t u))) (λ (z : t < k). absurd (omega arith)))
    (cases_order k t)

lock_plan : (o : Option Plan) (r t : ℕ) → may_lock_under o r t ≡ true → (p : Plan) × (o ≡ Some p) × (uses p r t ≡ true)
lock_plan None r t e = absurd (both_ways false refl e)
lock_plan (Some p) r t e = (p, refl, e)

above : (o : Option ℕ) (t : ℕ) → (o ≡ Some t → ⊥) → reaches o t ≡ true → (k : ℕ) × (o ≡ Some k) × (t < k)
above None t n e = absurd (both_ways false refl e)
above (Some k) t n e =
    let a : t ≤ k = leb-true t k e in
    let b : k ≡ t → ⊥ = λ z. n (ap (λ (i : ℕ). Some i) z) in
    (k, refl, omega arith)

below_top : (xs : List ℕ) → Falling xs → (t : ℕ) → (head xs ≡ Some t → ⊥) → among xs t ≡ true → (k : ℕ) × (head xs ≡ Some k) × (t < k)
below_top [] f t n h = absurd (both_ways false refl h)
below_top (x ∷ xs) f t n h =
    let a : t ≤ x = top (x ∷ xs) f x t refl h in
    let b : x ≡ t → ⊥ = λ z. n (ap (λ (i : ℕ). Some i) z) in
    (x, refl, omega arith)

waits : (p : Plan) (y : Schedule) → Ready p y → (t : ℕ) → busy y t ≡ true → (running y ≡ Some t → ⊥)
    → ((k : ℕ) × (running y ≡ Some k) × (t < k)) ⊎ ((k : ℕ) × (r : ℕ) × (holder y.held r ≡ Some k) × (k ≡ t → ⊥) × (reaches (ceiling p r) t ≡ true))
waits p y g t e n =
    ⊎_elim
    (λ (w : y.waiting t ≡ true).
    ⊎_elim (λ (z : reaches (running y) t ≡ true). inl (above (running y) t n z))
    (λ (z : under_ceiling p y.held t ≡ true).
    let q = under_cases p y.held t z in
    inr (
      q.1,
      q.0,
      q.2,
      λ i. both_ways (among y.chain t) (g.shape.apart t w) (subst (λ (j : ℕ). among y.chain j ≡ true) i (g.shape.placed q.0 q.1 q.2)),
      q.3,
    ))
    (blocked p y t (g.settled t w)))
    (λ (w : among y.chain t ≡ true). inl (below_top y.chain g.shape.falling t n w))
    (or_cases (y.waiting t) (among y.chain t) e)

-- an unfinished task is busy under a plan
pub record UnderPlan (m : Machine) (h : History) (t : ℕ) : Type 0 where
  pub plan : Plan
  pub ready_now : Ready plan m.schedule
  pub told : plan_of h ≡ Some plan
  pub is_busy : busy m.schedule t ≡ true

pub under_plan : (m : Machine) (h : History) (t : ℕ) → Inv m h → unfinished h t ≡ true → UnderPlan m h t
under_plan m h t i u =
    let x = busy_plan m.schedule.plan m.schedule t (sym (unfinished_is m h i t) ∙ u) in
    record { plan = x.0; ready_now = ready x.0 m.schedule x.1 i.good; told = i.plan_is ∙ x.1; is_busy = x.2 }

pub exclusive : (m : Machine) (h : History) → Inv m h → Exclusive h
exclusive m h i =
    record {
      alone = λ t r k e u z.
          let x = lock_plan (plan_of h) r t u in
          alone x.0 m.schedule (ready x.0 m.schedule (sym i.plan_is ∙ x.1) i.good) t r k (sym i.runs_is ∙ e) x.2 (sym (i.holder_is r) ∙ z);
      waits_rightly = λ t u n.
          let x = under_plan m h t i u in
          back t x.plan x.told (waits x.plan m.schedule x.ready_now t x.is_busy (λ e. n (i.runs_is ∙ e)));
    }
  where
    back : (t : ℕ) (p : Plan) → plan_of h ≡ Some p
        → ((k : ℕ) × (running m.schedule ≡ Some k) × (t < k)) ⊎ ((k : ℕ) × (r : ℕ) × (holder m.schedule.held r ≡ Some k) × (k ≡ t → ⊥) × (reaches (ceiling p r) t ≡ true))
        → ((k : ℕ) × (runs h ≡ Some k) × (t < k)) ⊎ ((k : ℕ) × (r : ℕ) × (holder_of h r ≡ Some k) × (k ≡ t → ⊥) × (reaches (ceiling_under (plan_of h) r) t ≡ true))
    back t p q (inl x) = inl (x.0, i.runs_is ∙ x.1, x.2)
    back t p q (inr x) = inr (x.0, x.1, i.holder_is x.1 ∙ x.2, x.3, subst (λ (o : Option Plan). reaches (ceiling_under o x.1) t ≡ true) (sym q) x.4)
