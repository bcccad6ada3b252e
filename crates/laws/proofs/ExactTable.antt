-- The blocking table is exact: what holds up a task has an entry, and every entry is shown by three calls.
use Rattle.std.proofs.Common.{◌≡◌, ℕ, ◌^◌, ◌<◌, Bool, true, false, cond, not, ◌&&◌, ◌||◌, eqb, ltb, leb, [], ◌∷◌, Some, None, Option, sym, refl, ap, ◌∙◌, subst, inr, ⊎_elim, arith}
use mathlib.Core.Logic.{∥∥₁_elim}
use mathlib.Core.Bool.{Bool-set}
use Rattle.std.proofs.lemmas.Bool.{eq-eqb, both_ways, not-true, ltb-true, lt-ltb, lt-leb, ne_eqb, eqb-false, or_cases, or_left, or_right, or_from, and_parts, and_from, not_from_true, not_from_false, false_from_ne_true}
use Rattle.plan.specs.declared.record.Plan.{Plan}
use Rattle.machine.specs.declared.Call.{Call}
use Rattle.machine.specs.declared.Call.TheVariants.{Install, Release, Lock}
use Rattle.machine.specs.declared.Refusal.{Refusal}
use Rattle.machine.specs.declared.Refusal.TheVariants.{SetTooSmall, SetNotEmpty, NoTaskDeclared, ForeignTask, NotDeclared, NotEntitled}
use Rattle.vectors.specs.Vectors.{in_vector, highest, strays}
use Rattle.plan.specs.Plans.{declares, uses, ceiling, reaches, may_hold_up}
use Rattle.machine.specs.Moves.{Move, fit, release, lock}
use Rattle.machine.specs.Schedules.{Schedule, among, running, holder, exceeds, keep_if, started, moved, starts, after_move}
use Rattle.machine.specs.Machine.{Machine, does, fresh, answer, answered, step, stepped}
use Rattle.laws.proofs.Busy.{busy_under}
use Rattle.machine.specs.Refusals.{refuse_if, present, absent, too_small, refusal}
use Rattle.machine.specs.History.{Entry, History, accepted, plan_of, holder_of, unfinished, begins, ends, HeldSince, ceiling_under, HoldsUp}
use Rattle.machine.specs.Laws.{history, Set, CanHoldUp, Shown, Exact}
use Rattle.vectors.proofs.Vectors.{highest_empties, highest_none, in_small}
use Rattle.vectors.proofs.Vectors.{highest_some}
use Rattle.laws.proofs.Sets.{greatest_is, all_pass, own_bit, one_bit}
use Rattle.laws.proofs.Lists.{under_here, user_declared, user_in_range}
use Rattle.laws.proofs.Invariant.{Allowed, block}
use Rattle.laws.proofs.Allowances.{passes, none_refused, allows}
use Rattle.laws.proofs.Agreement.{Inv, unfinished_is, Ready, ready}
use Rattle.laws.proofs.Exclusion.{From, from_inv, history_from}

-- what holds up a task is in the table

since_holds : (h : History) (l t r : ℕ) → HeldSince h l t r → holder_of h r ≡ Some l
since_holds [] l t r s = absurd s
since_holds (e ∷ h) l t r s = s.0

pub in_table : (p : Plan) (l t r : ℕ) (m : Machine) (h : History) → Inv m h → plan_of h ≡ Some p → HoldsUp h l t r → may_hold_up p l t r ≡ true
in_table p l t r m h i q u =
    and_from (declares p t) _ (g.suits.known t (subst (λ (o : Option Plan). busy_under o m.schedule t ≡ true) g.installed (sym (unfinished_is m h i t) ∙ u.waits)))
    (and_from (ltb l t) _ (lt-ltb l t u.below)
    (and_from (uses p r l) _ (g.suits.entitled r l (sym (i.holder_is r) ∙ since_holds h l t r u.held)) (subst (λ (o : Option Plan). reaches (ceiling_under o r) t ≡ true) q u.high)))
  where
    g : Ready p m.schedule
    g = ready p m.schedule (sym i.plan_is ∙ q) i.good

pub can_hold_up : (p : Plan) (l t r : ℕ) → CanHoldUp p l t r → may_hold_up p l t r ≡ true
can_hold_up p l t r x =
    ∥∥₁_elim x (Bool-set (may_hold_up p l t r) true)
    (λ y. let f = history_from y.0 y.1 y.3 y.2 in in_table p l t r f.0 (history y.0 y.1 y.2) (from_inv (history y.0 y.1 y.2) f.0 f.1) y.4 y.5)

-- the run that shows an entry

record Went (c : Call) (m : Machine) (y : Schedule) : Type 0 where
  taken : accepted (answer c m) ≡ true
  now : (step c m).schedule ≡ y

go_on : (c : Call) (a : Move) (m : Machine) (y : Schedule) (o : Option ℕ) → m.schedule ≡ y → does m c ≡ a → refusal c y ≡ None → starts a y ≡ o → Went c m (started o (moved a y))
go_on c a m y o e d f g =
    let z : refusal c m.schedule ≡ None = ap (λ (x : Schedule). refusal c x) e ∙ f in
    record {
      taken = ap (λ (x : Option Refusal). accepted (answered x c m)) z;
      now =
          ap (λ (x : Option Refusal). (stepped x c m).schedule) z
          ∙ ap (λ (b : Move). after_move b m.schedule) d
          ∙ ap (λ (x : Schedule). after_move a x) e
          ∙ ap (λ (x : Option ℕ). started x (moved a y)) g;
    }

module _ (p : Plan) (l t r : ℕ) (c : ℕ) (w : ℕ → Bool) where
  abbrev y₀ : Schedule
  y₀ = (fresh c w).schedule

  abbrev y₁ : Schedule
  y₁ = moved (fit p) y₀

  abbrev y₂ : Schedule
  y₂ = started (Some l) (moved (release (in_vector (2 ^ l))) y₁)

  abbrev y₃ : Schedule
  y₃ = moved (lock r) y₂

  abbrev y₄ : Schedule
  y₄ = moved (release (in_vector (2 ^ t))) y₃

  abbrev m₁ : Machine
  m₁ = step (Install p) (fresh c w)

  abbrev m₂ : Machine
  m₂ = step (Release (2 ^ l)) m₁

  abbrev m₃ : Machine
  m₃ = step (Lock r) m₂

  abbrev m₄ : Machine
  m₄ = step (Release (2 ^ t)) m₃

  abbrev h₂ : History
  h₂ = history c w (Install p ∷ Release (2 ^ l) ∷ [])

  abbrev h₃ : History
  h₃ = history c w (Install p ∷ Release (2 ^ l) ∷ Lock r ∷ [])

  abbrev e₄ : Entry
  e₄ = record { call = Release (2 ^ t); answer = answer (Release (2 ^ t)) m₃ }

  abbrev h₄ : History
  h₄ = history c w (Install p ∷ Release (2 ^ l) ∷ Lock r ∷ Release (2 ^ t) ∷ [])

-- one entry of the table, and a new kernel that takes the plan
record Case (p : Plan) (l t r : ℕ) (c : ℕ) (w : ℕ → Bool) : Type 0 where
  set : Set c w
  known : declares p t ≡ true
  lower : l < t
  user : uses p r l ≡ true
  high : reaches (ceiling p r) t ≡ true
  taken : refusal (Install p) (fresh c w).schedule ≡ None

module _ (p : Plan) (l t r : ℕ) (c : ℕ) (w : ℕ → Bool) (x : Case p l t r c w) where
  fit_allowed : Allowed (fit p) None (fresh c w).schedule
  fit_allowed = allows (Install p) (fresh c w).schedule x.taken

  nobody : (k : ℕ) → w k ≡ true → ⊥
  nobody k e = both_ways (w k) (highest_empties c w fit_allowed.nobody k (x.set.inside k e)) e

  known_l : declares p l ≡ true
  known_l = user_declared p r l x.user

  apart : t ≡ l → ⊥
  apart e = let z = x.lower in omega arith

  first_step : Went (Install p) (fresh c w) (y₁ p l t r c w)
  first_step = go_on (Install p) (fit p) (fresh c w) (y₀ p l t r c w) None refl refl x.taken refl

  only_l : (k : ℕ) → (w k || (ltb k c && (in_vector (2 ^ l) k && true))) ≡ true → k ≡ l
  only_l k e =
      ⊎_elim (λ (z : w k ≡ true). absurd (nobody k z)) (λ (z : (ltb k c && (in_vector (2 ^ l) k && true)) ≡ true). one_bit l k (and_parts (in_vector (2 ^ l) k) true (and_parts (ltb k c) (in_vector (2 ^ l) k && true) z).1).0)
      (or_cases (w k) (ltb k c && (in_vector (2 ^ l) k && true)) e)

  l_first : highest c (λ k. w k || (ltb k c && (in_vector (2 ^ l) k && true))) ≡ Some l
  l_first =
      greatest_is c (λ k. w k || (ltb k c && (in_vector (2 ^ l) k && true))) l
      (record {
        member = or_right (w l) (ltb l c && (in_vector (2 ^ l) l && true)) (and_from (ltb l c) (in_vector (2 ^ l) l && true) (lt-ltb l c (fit_allowed.fits l known_l)) (and_from (in_vector (2 ^ l) l) true (own_bit l (in_small _ l known_l)) refl));
        within = fit_allowed.fits l known_l;
        top = λ k _ e. let z : k ≡ l = only_l k e in omega arith;
      })

  second_step : Went (Release (2 ^ l)) (m₁ p l t r c w) (y₂ p l t r c w)
  second_step =
      go_on (Release (2 ^ l)) (release (in_vector (2 ^ l))) (m₁ p l t r c w) (y₁ p l t r c w) (Some l) first_step.now refl
      (passes (strays (2 ^ l) (declares p)) ForeignTask None
      (all_pass (2 ^ l) (declares p) (λ k e. subst (λ (i : ℕ). declares p i ≡ true) (sym (one_bit l k e)) known_l)) refl)
      (ap (λ (o : Option ℕ). keep_if (exceeds p (moved (release (in_vector (2 ^ l))) (y₁ p l t r c w))) o) l_first)

  third_step : Went (Lock r) (m₂ p l t r c w) (y₃ p l t r c w)
  third_step =
      go_on (Lock r) (lock r) (m₂ p l t r c w) (y₂ p l t r c w) None second_step.now refl
      (passes (leb p.resources r) NotDeclared _ (user_in_range p r l x.user) (passes (not (uses p r l)) NotEntitled _ (not_from_true (uses p r l) x.user) refl)) refl

  no_more : (k : ℕ) → (y₃ p l t r c w).waiting k ≡ true → ⊥
  no_more k e =
      let q = and_parts (not (eqb k l)) (w k || (ltb k c && (in_vector (2 ^ l) k && true))) e in
      eqb-false k l (not-true (eqb k l) q.0) (only_l k q.1)

  not_started : among (y₃ p l t r c w).chain t ≡ false
  not_started = or_from (eqb t l) false (ne_eqb t l apart) refl

  t_comes : (y₄ p l t r c w).waiting t ≡ true
  t_comes =
      or_right ((y₃ p l t r c w).waiting t) (ltb t c && (in_vector (2 ^ t) t && not (among (y₃ p l t r c w).chain t)))
      (and_from (ltb t c) (in_vector (2 ^ t) t && not (among (y₃ p l t r c w).chain t)) (lt-ltb t c (fit_allowed.fits t x.known))
      (and_from (in_vector (2 ^ t) t) (not (among (y₃ p l t r c w).chain t)) (own_bit t (in_small _ t x.known)) (not_from_false (among (y₃ p l t r c w).chain t) not_started)))

  t_first : highest c (y₄ p l t r c w).waiting ≡ Some t
  t_first =
      greatest_is c (y₄ p l t r c w).waiting t
      (record {
        member = t_comes;
        within = fit_allowed.fits t x.known;
        top = λ k _ e.
            ⊎_elim (λ (z : (y₃ p l t r c w).waiting k ≡ true). absurd (no_more k z))
            (λ (z : (ltb k c && (in_vector (2 ^ t) k && not (among (y₃ p l t r c w).chain k))) ≡ true).
            let i : k ≡ t = one_bit t k (and_parts (in_vector (2 ^ t) k) (not (among (y₃ p l t r c w).chain k)) (and_parts (ltb k c) (in_vector (2 ^ t) k && not (among (y₃ p l t r c w).chain k)) z).1).0 in omega arith)
            (or_cases ((y₃ p l t r c w).waiting k) (ltb k c && (in_vector (2 ^ t) k && not (among (y₃ p l t r c w).chain k))) e);
      })

  fourth_step : Went (Release (2 ^ t)) (m₃ p l t r c w) (y₄ p l t r c w)
  fourth_step =
      go_on (Release (2 ^ t)) (release (in_vector (2 ^ t))) (m₃ p l t r c w) (y₃ p l t r c w) None third_step.now refl
      (passes (strays (2 ^ t) (declares p)) ForeignTask None
      (all_pass (2 ^ t) (declares p) (λ k e. subst (λ (i : ℕ). declares p i ≡ true) (sym (one_bit t k e)) x.known)) refl)
      (ap (λ (o : Option ℕ). keep_if (exceeds p (y₄ p l t r c w)) o) t_first
      ∙ ap (λ (b : Bool). cond b (Some t) None) (block p (y₄ p l t r c w) t (inr (under_here p (r, l) [] t x.high))))

  from₃ : From (h₃ p l t r c w) (m₃ p l t r c w)
  from₃ = (m₂ p l t r c w, (m₁ p l t r c w, (fresh c w, (c, w, x.set, refl), refl, refl), refl, refl), refl, refl)

  from₄ : From (h₄ p l t r c w) (m₄ p l t r c w)
  from₄ = (m₃ p l t r c w, from₃, refl, refl)

  inv₃ : Inv (m₃ p l t r c w) (h₃ p l t r c w)
  inv₃ = from_inv (h₃ p l t r c w) (m₃ p l t r c w) from₃

  inv₄ : Inv (m₄ p l t r c w) (h₄ p l t r c w)
  inv₄ = from_inv (h₄ p l t r c w) (m₄ p l t r c w) from₄

  held_by : (y : Schedule) → y ≡ y₃ p l t r c w → holder y.held r ≡ Some l
  held_by y e = ap (λ (z : Schedule). holder z.held r) e ∙ ap (λ (b : Bool). cond b (Some l) None) (eq-eqb r r refl)

  held₃ : holder_of (h₃ p l t r c w) r ≡ Some l
  held₃ = inv₃.holder_is r ∙ held_by (m₃ p l t r c w).schedule third_step.now

  held₄ : holder_of (h₄ p l t r c w) r ≡ Some l
  held₄ = inv₄.holder_is r ∙ ap (λ (z : Schedule). holder z.held r) fourth_step.now ∙ held_by (y₃ p l t r c w) refl

  fresh_t : unfinished (h₃ p l t r c w) t ≡ false
  fresh_t =
      unfinished_is (m₃ p l t r c w) (h₃ p l t r c w) inv₃ t ∙ ap (λ (z : Schedule). busy_under z.plan z t) third_step.now
      ∙ or_from ((y₃ p l t r c w).waiting t) (among (y₃ p l t r c w).chain t) (false_from_ne_true ((y₃ p l t r c w).waiting t) (no_more t)) not_started

  waits₄ : unfinished (h₄ p l t r c w) t ≡ true
  waits₄ =
      unfinished_is (m₄ p l t r c w) (h₄ p l t r c w) inv₄ t ∙ ap (λ (z : Schedule). busy_under z.plan z t) fourth_step.now
      ∙ or_left ((y₄ p l t r c w).waiting t) (among (y₄ p l t r c w).chain t) t_comes

  begun : begins (e₄ p l t r c w) (h₃ p l t r c w) t ≡ true
  begun =
      and_from (unfinished (h₄ p l t r c w) t) (ends (e₄ p l t r c w) (h₃ p l t r c w) t || not (unfinished (h₃ p l t r c w) t)) waits₄
      (or_right (ends (e₄ p l t r c w) (h₃ p l t r c w) t) (not (unfinished (h₃ p l t r c w) t)) (not_from_false (unfinished (h₃ p l t r c w) t) fresh_t))

  plan₄ : plan_of (h₄ p l t r c w) ≡ Some p
  plan₄ = inv₄.plan_is ∙ ap (λ (z : Schedule). z.plan) fourth_step.now

  held_up : HoldsUp (h₄ p l t r c w) l t r
  held_up =
      record {
        runs_now = inv₄.runs_is ∙ ap (λ (z : Schedule). running z) fourth_step.now;
        below = x.lower;
        waits = waits₄;
        high = subst (λ (o : Option Plan). reaches (ceiling_under o r) t ≡ true) (sym plan₄) x.high;
        held = (held₄, subst (λ (b : Bool). cond b (holder_of (h₃ p l t r c w) r ≡ Some l) (HeldSince (h₃ p l t r c w) l t r)) (sym begun) held₃);
      }

-- a new kernel of 64 tasks takes every plan that declares a task
pub nobody_waits : Set 64 (λ (k : ℕ). false)
nobody_waits = record { small = omega arith; inside = λ t e. absurd (both_ways false refl e) }

pub takes : (p : Plan) (t : ℕ) → declares p t ≡ true → refusal (Install p) (fresh 64 (λ (k : ℕ). false)).schedule ≡ None
takes p t e = go (highest 64 (declares p)) refl
  where
    go : (o : Option ℕ) → highest 64 (declares p) ≡ o
        → refuse_if (absent o) NoTaskDeclared (refuse_if (too_small 64 o) SetTooSmall (refuse_if (present (highest 64 (λ (k : ℕ). false))) SetNotEmpty None)) ≡ None
    go None q = absurd (both_ways (declares p t) (highest_empties 64 (declares p) q t (in_small _ t e)) e)
    go (Some d) q =
        passes (leb 64 d) SetTooSmall _ (lt-leb 64 d (highest_some 64 (declares p) d q).within)
        (passes (present (highest 64 (λ (k : ℕ). false))) SetNotEmpty None (ap (λ (o : Option ℕ). present o) (highest_none 64 (λ (k : ℕ). false) (λ k h. refl))) refl)

case : (p : Plan) (l t r : ℕ) → may_hold_up p l t r ≡ true → (c : ℕ) (w : ℕ → Bool) → Set c w → refusal (Install p) (fresh c w).schedule ≡ None → Case p l t r c w
case p l t r e c w s q =
    let a = and_parts (declares p t) _ e in
    let b = and_parts (ltb l t) _ a.1 in
    let d = and_parts (uses p r l) (reaches (ceiling p r) t) b.1 in
    record { set = s; known = a.0; lower = ltb-true l t b.0; user = d.0; high = d.1; taken = q }

pub shown : (p : Plan) (l t r : ℕ) → may_hold_up p l t r ≡ true → Shown p l t r
shown p l t r e c w s q = held_up p l t r c w (case p l t r e c w s (none_refused (refusal (Install p) (fresh c w).schedule) (Install p) (fresh c w) q))

pub possible : (p : Plan) (l t r : ℕ) → may_hold_up p l t r ≡ true → CanHoldUp p l t r
possible p l t r e =
    let x = case p l t r e 64 (λ (k : ℕ). false) nobody_waits (takes p t (and_parts (declares p t) _ e).0) in
    ∣ (64, λ k. false, Install p ∷ Release (2 ^ l) ∷ Lock r ∷ Release (2 ^ t) ∷ [], nobody_waits, plan₄ p l t r 64 (λ k. false) x, held_up p l t r 64 (λ k. false) x) ∣₁

pub exact : (h : History) → Exact h
exact h = record { can = λ p l t r _ x. can_hold_up p l t r x; shows = λ p l t r _ e. (possible p l t r e, shown p l t r e) }
