-- What a history tells is what the machine holds, after every call.
use Rattle.std.proofs.Common.{◌≡◌, ℕ, ◌<◌, Bool, true, false, cond, not, ◌&&◌, ◌||◌, eqb, ltb, List, [], ◌∷◌, Some, None, Option, sym, refl, ap, ◌∙◌, subst, arith}
use Rattle.std.proofs.lemmas.Bool.{both_ways, lt-ltb, not_from_true, not_from_false, eqb-true, and_parts, and_from, and_right, or_from, or_left, or_right, false_from_ne_true}
use Rattle.plan.specs.declared.record.Plan.{Plan}
use Rattle.machine.specs.declared.Call.{Call}
use Rattle.machine.specs.declared.Refusal.{Refusal}
use Rattle.vectors.specs.Vectors.{is, highest}
use Rattle.machine.specs.Moves.{Move, stay, fit, release, lock, unlock, leave, move}
use Rattle.machine.specs.Schedules.{Schedule, dispatches, starts, head, tail, among, running, holder, exceeds, keep_if, due_under, due, started, add_lock, moved, after_move}
use Rattle.machine.specs.Machine.{Machine, does, fresh, answered, stepped}
use Rattle.laws.proofs.Busy.{busy_under, busy}
use Rattle.machine.specs.Refusals.{refusal}
use Rattle.machine.specs.History.{Entry, History, told, made, runs, plan_of, holder_of, unfinished, unfinished_after, ended, ends, begins, given, changed_holder}
use Rattle.vectors.proofs.Vectors.{highest_empties}
use Rattle.vectors.proofs.Vectors.{Greatest, highest_some}
use Rattle.std.proofs.lemmas.Option.{none-some}
use Rattle.laws.proofs.Lists.{unlocked}
use Rattle.machine.specs.Shapes.{Falling}
use Rattle.laws.proofs.Allowances.{allows}
use Rattle.laws.proofs.Invariant.{Shape, Suits, Settled, Empty, Stands, Good, Allowed, someone_runs, start_busy, step_good}

-- what a schedule says of the words

started_plan : (o : Option ℕ) (y : Schedule) → y.plan ≡ (started o y).plan
started_plan None y = refl
started_plan (Some w) y = refl

started_held : (o : Option ℕ) (y : Schedule) → y.held ≡ (started o y).held
started_held None y = refl
started_held (Some w) y = refl

plan_moved : (a : Move) (y : Schedule) → given a y.plan ≡ (moved a y).plan
plan_moved stay y = refl
plan_moved (fit q) y = refl
plan_moved (release v) y = refl
plan_moved (lock r) y = refl
plan_moved (unlock r) y = refl
plan_moved leave y = refl

pub plan_kept : (a : Move) (y : Schedule) → given a y.plan ≡ (after_move a y).plan
plan_kept a y = plan_moved a y ∙ started_plan (starts a y) (moved a y)

-- the held list is what the move alone leaves
pub held_kept : (a : Move) (y : Schedule) → (moved a y).held ≡ (after_move a y).held
held_kept a y = started_held (starts a y) (moved a y)

-- it is the same, or has one lock more or less
pub regrip : (P : List (ℕ × ℕ) → Type 0) (a : Move) (y : Schedule) → Allowed a y.plan y
    → P y.held → ((r k : ℕ) → running y ≡ Some k → P ((r, k) ∷ y.held)) → P (tail y.held) → P (moved a y).held
regrip P stay y a x f z = x
regrip P (fit q) y a x f z = x
regrip P (release v) y a x f z = x
regrip P (lock r) y a x f z = subst (λ (i : Option ℕ). P (add_lock r i y.held)) (sym a.1) (f r a.0 a.1)
regrip P (unlock r) y a x f z = z
regrip P leave y a x f z = x

holder_moved : (a : Move) (y : Schedule) → Allowed a y.plan y → Shape y → (r : ℕ)
    → changed_holder a r (running y) (holder y.held r) ≡ holder (moved a y).held r
holder_moved stay y a g r = refl
holder_moved (fit q) y a g r = refl
holder_moved (release v) y a g r = refl
holder_moved (lock s) y a g r = subst (λ (i : Option ℕ). cond (eqb r s) i (holder y.held r) ≡ holder (add_lock s i y.held) r) (sym a.1) refl
holder_moved (unlock s) y a g r = unlocked y.held s g.single a.2 r
holder_moved leave y a g r = refl

holder_kept : (a : Move) (y : Schedule) → Allowed a y.plan y → Shape y → (r : ℕ)
    → changed_holder a r (running y) (holder y.held r) ≡ holder (after_move a y).held r
holder_kept a y al g r = holder_moved a y al g r ∙ ap (λ (c : List (ℕ × ℕ)). holder c r) (held_kept a y)

-- unfinished tasks

or_three : (w v a b : Bool) → (v ≡ true → b ≡ true) → (v || (w || a)) ≡ ((w || (b && (v && not a))) || a)
or_three true true true b h = refl
or_three true true false b h = refl
or_three true false true b h = refl
or_three true false false b h = refl
or_three false true true true h = refl
or_three false true true false h = refl
or_three false true false true h = refl
or_three false true false false h = sym (h refl)
or_three false false true true h = refl
or_three false false true false h = refl
or_three false false false true h = refl
or_three false false false false h = refl

leave_busy : (xs : List ℕ) (w : ℕ → Bool) → Falling xs → ((t : ℕ) → w t ≡ true → among xs t ≡ false) → (t : ℕ)
    → (not (is (head xs) t) && (w t || among xs t)) ≡ (w t || among (tail xs) t)
leave_busy [] w f d t = refl
leave_busy (x ∷ xs) w f d t = go (eqb t x) refl
  where
    go : (b : Bool) → eqb t x ≡ b → (not b && (w t || (b || among xs t))) ≡ (w t || among xs t)
    go true q =
        sym
        (or_from (w t) (among xs t) (false_from_ne_true (w t) (λ z. both_ways (among (x ∷ xs) t) (d t z) (or_left (eqb t x) (among xs t) q)))
        (false_from_ne_true (among xs t) (λ z. let a : t < x = f.0 t z in let b = eqb-true t x q in omega arith)))
    go false q = refl

none_busy : (y : Schedule) → highest y.size y.waiting ≡ None → Empty y → (t : ℕ) → busy y t ≡ false
none_busy y n g t =
    or_from (y.waiting t) (among y.chain t) (false_from_ne_true (y.waiting t) (λ z. both_ways (y.waiting t) (highest_empties y.size y.waiting n t (g.inside t z)) z))
    (ap (λ (c : List ℕ). among c t) g.no_chain)

busy_moved : (o : Option Plan) (a : Move) (y : Schedule) → Allowed a o y → Shape y → Stands o y → (t : ℕ)
    → unfinished_after a (running y) t (busy_under o y t) ≡ busy_under (given a o) (moved a y) t
busy_moved o stay y a h g t = refl
busy_moved (Some p) (fit q) y a h g t = refl
busy_moved None (fit q) y a h g t = sym (none_busy y a.nobody g t)
busy_moved None (release v) y a h g t = or_from (v t) false (false_from_ne_true (v t) (λ z. both_ways false refl (a t z))) refl
busy_moved (Some p) (release v) y a h g t = or_three (y.waiting t) (v t) (among y.chain t) (ltb t y.size) (λ e. lt-ltb t y.size (g.fits t (a t e)))
busy_moved None (lock r) y a h g t = refl
busy_moved (Some p) (lock r) y a h g t = refl
busy_moved None (unlock r) y a h g t = refl
busy_moved (Some p) (unlock r) y a h g t = refl
busy_moved None leave y a h g t = absurd (someone_runs y a.0 g a.1)
busy_moved (Some p) leave y a h g t = leave_busy y.chain y.waiting h.falling h.apart t

pub busy_started : (o : Option Plan) (y : Schedule) (t : ℕ) → busy y t ≡ busy (started (due_under o y) y) t
busy_started None y t = refl
busy_started (Some p) y t = go (highest y.size y.waiting) refl
  where
    go2 : (w : ℕ) → Greatest y.size y.waiting w → (b : Bool) → busy y t ≡ busy (started (cond b (Some w) None) y) t
    go2 w g true = start_busy y.waiting w t (among y.chain t) g.member
    go2 w g false = refl

    go : (o : Option ℕ) → highest y.size y.waiting ≡ o → busy y t ≡ busy (started (keep_if (exceeds p y) o) y) t
    go None e = refl
    go (Some w) e = go2 w (highest_some y.size y.waiting w e) (exceeds p y w)

-- dispatch, if there is one, changes nothing in who is busy
dispatched : (b : Bool) (o : Option Plan) (y : Schedule) (t : ℕ) → busy_under o y t ≡ busy_under o (started (cond b (due y) None) y) t
dispatched b None y t = refl
dispatched true (Some p) y t = busy_started y.plan y t
dispatched false (Some p) y t = refl

pub busy_kept : (a : Move) (y : Schedule) → Allowed a y.plan y → Shape y → Stands y.plan y → (t : ℕ)
    → unfinished_after a (running y) t (busy_under y.plan y t) ≡ busy_under (after_move a y).plan (after_move a y) t
busy_kept a y al h g t =
    busy_moved y.plan a y al h g t ∙ dispatched (dispatches a) (given a y.plan) (moved a y) t ∙ ap (λ (o : Option Plan). busy_under o (after_move a y) t) (plan_kept a y)

-- how waits begin and end

-- t stays unfinished until its wait ends
goes_on : (a : Move) (u : Option ℕ) (t : ℕ) (b : Bool) → ended a u t ≡ false → b ≡ true → unfinished_after a u t b ≡ true
goes_on stay u t b n e = e
goes_on (fit q) u t b n e = e
goes_on (release v) u t b n e = or_right (v t) b e
goes_on (lock r) u t b n e = e
goes_on (unlock r) u t b n e = e
goes_on leave u t b n e = and_from (not (is u t)) b (not_from_false (is u t) n) e

-- the plan stays until then
same_plan : (a : Move) (o : Option Plan) (u : Option ℕ) (y : Schedule) (t : ℕ) → Allowed a o y → busy_under o y t ≡ true → ended a u t ≡ false → given a o ≡ o
same_plan stay o u y t a b n = refl
same_plan (fit q) None u y t a b n = absurd (both_ways false refl b)
same_plan (fit q) (Some p) u y t a b n = absurd a
same_plan (release v) o u y t a b n = refl
same_plan (lock r) o u y t a b n = refl
same_plan (unlock r) o u y t a b n = refl
same_plan leave o u y t a b n = refl

still : (b : Bool) → (b && (false || not b)) ≡ true → ⊥
still true e = both_ways false refl e
still false e = both_ways false refl e

-- no lock and no unlock begins a wait
same_holder : (a : Move) (u : Option ℕ) (t r : ℕ) (b : Bool) (v : Option ℕ) → (unfinished_after a u t b && (ended a u t || not b)) ≡ true → changed_holder a r u v ≡ v
same_holder stay u t r b v e = refl
same_holder (fit q) u t r b v e = refl
same_holder (release w) u t r b v e = refl
same_holder (lock s) u t r b v e = absurd (still b e)
same_holder (unlock s) u t r b v e = absurd (still b e)
same_holder leave u t r b v e = refl

pub wait_goes_on : (e : Entry) (h : History) (t : ℕ) → ends e h t ≡ false → unfinished h t ≡ true → unfinished (e ∷ h) t ≡ true
wait_goes_on e h t n u = goes_on (made e h) (runs h) t (unfinished h t) n u

pub wait_not_new : (e : Entry) (h : History) (t : ℕ) → ends e h t ≡ false → unfinished h t ≡ true → begins e h t ≡ false
wait_not_new e h t n u = and_right (unfinished (e ∷ h) t) (ends e h t || not (unfinished h t)) (or_from (ends e h t) (not (unfinished h t)) n (not_from_true (unfinished h t) u))

pub wait_new : (e : Entry) (h : History) (t : ℕ) → begins e h t ≡ true → unfinished (e ∷ h) t ≡ true
wait_new e h t b = (and_parts (unfinished (e ∷ h) t) (ends e h t || not (unfinished h t)) b).0

pub wait_holder : (e : Entry) (h : History) (t r : ℕ) → begins e h t ≡ true → holder_of (e ∷ h) r ≡ holder_of h r
wait_holder e h t r b = same_holder (made e h) (runs h) t r (unfinished h t) (holder_of h r) b

-- the machine and its history

pub record Inv (m : Machine) (h : History) : Type 0 where
  pub runs_is : runs h ≡ running m.schedule
  pub plan_is : plan_of h ≡ m.schedule.plan
  pub holder_is : (r : ℕ) → holder_of h r ≡ holder m.schedule.held r
  pub busy_is : (t : ℕ) → unfinished h t ≡ busy_under m.schedule.plan m.schedule t
  pub good : Good m.schedule.plan m.schedule

pub unfinished_is : (m : Machine) (h : History) → Inv m h → (t : ℕ) → unfinished h t ≡ busy_under m.schedule.plan m.schedule t
unfinished_is m h i t = i.busy_is t

pub inv_first : (c : ℕ) (w : ℕ → Bool) → ((t : ℕ) → w t ≡ true → t < c) → Inv (fresh c w) []
inv_first c w s =
    record {
      runs_is = refl;
      plan_is = refl;
      holder_is = λ r. refl;
      busy_is = λ t. refl;
      good =
          record {
            shape = record { apart = λ t e. refl; falling = tt; placed = λ r k e. absurd (none-some k e); single = tt; nested = tt };
            stands = record { no_chain = refl; no_held = refl; inside = s };
            rests = tt;
          };
    }

pub allowed : (c : Call) (m : Machine) → refusal c m.schedule ≡ None → Allowed (does m c) m.schedule.plan m.schedule
allowed c m e = allows c m.schedule e

-- what is told of an accepted call is what it does
act_is : (c : Call) (m : Machine) (h : History) → Inv m h → made (record { call = c; answer = answered None c m }) h ≡ does m c
act_is c m h i = ap (λ (o : Option Plan). move o c) i.plan_is

pub good_step : (c : Call) (m : Machine) → Good m.schedule.plan m.schedule → (o : Option Refusal) → refusal c m.schedule ≡ o
    → Good (stepped o c m).schedule.plan (stepped o c m).schedule
good_step c m g (Some f) e = g
good_step c m g None e =
    let y = m.schedule in
    let a = does m c in
    subst (λ (o : Option Plan). Good o (after_move a y)) (plan_kept a y) (step_good a y (allowed c m e) g)

-- the running task told last is the one that runs
told_is : (c : Call) (m : Machine) → told (answered None c m) (running m.schedule) ≡ running (stepped None c m).schedule
told_is c m = refl

pub inv_step : (c : Call) (m : Machine) (h : History) → Inv m h → (o : Option Refusal) → refusal c m.schedule ≡ o
    → Inv (stepped o c m) (record { call = c; answer = answered o c m } ∷ h)
inv_step c m h i (Some f) e = record { runs_is = i.runs_is; plan_is = i.plan_is; holder_is = i.holder_is; busy_is = i.busy_is; good = i.good }
inv_step c m h i None e =
    record {
      runs_is = ap (λ (u : Option ℕ). told (answered None c m) u) i.runs_is ∙ told_is c m;
      plan_is = ap (λ (b : Move). given b (plan_of h)) q ∙ ap (λ (o : Option Plan). given a o) i.plan_is ∙ plan_kept a y;
      holder_is = λ r.
          ap (λ (b : Move). changed_holder b r (runs h) (holder_of h r)) q
          ∙ ap (λ (u : Option ℕ). changed_holder a r u (holder_of h r)) i.runs_is
          ∙ ap (λ (u : Option ℕ). changed_holder a r (running y) u) (i.holder_is r)
          ∙ holder_kept a y al i.good.shape r;
      busy_is = λ t.
          ap (λ (b : Move). unfinished_after b (runs h) t (unfinished h t)) q
          ∙ ap (λ (u : Option ℕ). unfinished_after a u t (unfinished h t)) i.runs_is
          ∙ ap (λ (u : Bool). unfinished_after a (running y) t u) (i.busy_is t)
          ∙ busy_kept a y al i.good.shape i.good.stands t;
      good = good_step c m i.good None e;
    }
  where
    y : Schedule
    y = m.schedule

    a : Move
    a = does m c

    q : made (record { call = c; answer = answered None c m }) h ≡ does m c
    q = act_is c m h i

    al : Allowed (does m c) m.schedule.plan m.schedule
    al = allowed c m e

-- the same plan holds while a wait goes on
pub wait_plan : (c : Call) (m : Machine) (h : History) (t : ℕ) → Inv m h → refusal c m.schedule ≡ None → ends (record { call = c; answer = answered None c m }) h t ≡ false
    → unfinished h t ≡ true → m.schedule.plan ≡ (stepped None c m).schedule.plan
wait_plan c m h t i e n u =
    let y = m.schedule in
    let a = does m c in
    sym (same_plan a y.plan (runs h) y t (allowed c m e) (sym (unfinished_is m h i t) ∙ u) (subst (λ (b : Move). ended b (runs h) t ≡ false) (act_is c m h i) n)) ∙ plan_kept a y

-- a schedule with a plan, after a call

pub record Ready (p : Plan) (y : Schedule) : Type 0 where
  pub installed : y.plan ≡ Some p
  pub shape : Shape y
  pub suits : Suits p y
  pub settled : Settled p y

pub ready : (p : Plan) (y : Schedule) → y.plan ≡ Some p → Good y.plan y → Ready p y
ready p y e g = let h = subst (λ (o : Option Plan). Good o y) e g in record { installed = e; shape = h.shape; suits = h.stands; settled = h.rests }

-- where a task is unfinished there is a plan
pub busy_plan : (o : Option Plan) (y : Schedule) (t : ℕ) → busy_under o y t ≡ true → (p : Plan) × (o ≡ Some p) × (busy y t ≡ true)
busy_plan None y t e = absurd (both_ways false refl e)
busy_plan (Some p) y t e = (p, refl, e)
