-- The invariant: what holds of every schedule that allowed moves lead to. Each move keeps it, and one lemma on dispatch serves them all.
use Rattle.std.proofs.Common.{◌≡◌, ℕ, ◌<◌, ◌≤◌, Bool, true, false, cond, not, ◌&&◌, ◌||◌, eqb, ltb, ◌⊎◌, List, [], ◌∷◌, Some, None, Option, sym, refl, ap, ◌∙◌, subst, inl, inr, ⊎_elim, arith}
use Rattle.std.proofs.lemmas.Bool.{both_ways, not-true, not-false, not_from_true, le-leb, eqb-true, and_parts, and_cases, and_left, and_right, or_from, or_cases, or_left, or_right, false_from_ne_true}
use Rattle.plan.specs.declared.record.Plan.{Plan}
use Rattle.vectors.specs.Vectors.{highest}
use Rattle.plan.specs.Plans.{declares, uses, ceiling, reaches}
use Rattle.machine.specs.Moves.{Move, stay, fit, release, lock, unlock, leave}
use Rattle.machine.specs.Schedules.{Schedule, with_held, head, tail, among, running, holder, holds_any, newest, exceeds, keep_if, due_under, started, add_lock, moved, after_move}
use Rattle.laws.proofs.Busy.{busy}
use Rattle.machine.specs.Refusals.{tasks_of, may_lock}
use Rattle.machine.specs.History.{given}
use Rattle.vectors.proofs.Vectors.{highest_empties}
use Rattle.vectors.proofs.Vectors.{Greatest, highest_some}
use Rattle.std.proofs.lemmas.Option.{none-some}
use Rattle.laws.proofs.Lists.{among_cases, among_there, falling_tail, over_chain, top, head_among, tail_among, among_tail, holder_cases, single_tail, nested_tail, holder_tail, holds_none, reaches_down, under_ceiling, under_there, not_under, under_down}
use Rattle.machine.specs.Shapes.{Falling, Single, Nested}

-- whatever the plan
pub record Shape (y : Schedule) : Type 0 where
  pub apart : (t : ℕ) → y.waiting t ≡ true → among y.chain t ≡ false
  pub falling : Falling y.chain
  pub placed : (r k : ℕ) → holder y.held r ≡ Some k → among y.chain k ≡ true
  pub single : Single y.held
  pub nested : Nested y.held

-- what a plan asks of the schedule that it is put over
pub record Suits (p : Plan) (y : Schedule) : Type 0 where
  pub fits : (t : ℕ) → declares p t ≡ true → t < y.size
  pub known : (t : ℕ) → busy y t ≡ true → declares p t ≡ true
  pub entitled : (r k : ℕ) → holder y.held r ≡ Some k → uses p r k ≡ true
  pub guarded : (r k t : ℕ) → holder y.held r ≡ Some k → among y.chain t ≡ true → k < t → reaches (ceiling p r) t ≡ false

-- no waiting task may start
abbrev pub Settled : Plan → Schedule → Type 0
Settled p y = (t : ℕ) → y.waiting t ≡ true → exceeds p y t ≡ false

-- before a plan
pub record Empty (y : Schedule) : Type 0 where
  pub no_chain : y.chain ≡ []
  pub no_held : y.held ≡ []
  pub inside : (t : ℕ) → y.waiting t ≡ true → t < y.size

abbrev pub Stands : Option Plan → Schedule → Type 0
Stands None y = Empty y
Stands (Some p) y = Suits p y

abbrev pub Rests : Option Plan → Schedule → Type 0
Rests None y = Unit {0}
Rests (Some p) y = Settled p y

pub record Sound (o : Option Plan) (y : Schedule) : Type 0 where
  pub shape : Shape y
  pub stands : Stands o y

pub record Good (o : Option Plan) (y : Schedule) : Type 0 where
  pub shape : Shape y
  pub stands : Stands o y
  pub rests : Rests o y

-- what an accepted plan may count on, before any plan and over another
pub record FirstPlan (q : Plan) (y : Schedule) : Type 0 where
  pub fits : (t : ℕ) → declares q t ≡ true → t < y.size
  pub nobody : highest y.size y.waiting ≡ None

abbrev pub Asked : Option Plan → Plan → Schedule → Type 0
Asked None q y = FirstPlan q y
Asked (Some p) q y = ⊥

-- what an accepted call's move may count on
abbrev pub Allowed : Move → Option Plan → Schedule → Type 0
Allowed stay o y = Unit {0}
Allowed (fit q) o y = Asked o q y
Allowed (release v) o y = (t : ℕ) → v t ≡ true → tasks_of o t ≡ true
Allowed (lock r) o y = (k : ℕ) × (running y ≡ Some k) × (may_lock o r (Some k) ≡ true) × (holder y.held r ≡ None)
Allowed (unlock r) o y = (k : ℕ) × (running y ≡ Some k) × (newest y.held ≡ Some r) × (holder y.held r ≡ Some k)
Allowed leave o y = (k : ℕ) × (running y ≡ Some k) × (holds_any y.held k ≡ false)

pub nobody_runs : (y : Schedule) → Empty y → running y ≡ None
nobody_runs y s = ap (λ (c : List ℕ). head c) s.no_chain

pub someone_runs : (y : Schedule) (k : ℕ) → Empty y → running y ≡ Some k → ⊥
someone_runs y k s e = none-some k (sym (nobody_runs y s) ∙ e)

-- dispatch

pub blocked : (p : Plan) (y : Schedule) (t : ℕ) → exceeds p y t ≡ false → (reaches (running y) t ≡ true) ⊎ (under_ceiling p y.held t ≡ true)
blocked p y t e =
    ⊎_elim (λ (z : not (reaches (running y) t) ≡ false). inl (not-false (reaches (running y) t) z))
    (λ (z : not (under_ceiling p y.held t) ≡ false). inr (not-false (under_ceiling p y.held t) z))
    (and_cases (not (reaches (running y) t)) (not (under_ceiling p y.held t)) e)

pub block : (p : Plan) (y : Schedule) (t : ℕ) → (reaches (running y) t ≡ true) ⊎ (under_ceiling p y.held t ≡ true) → exceeds p y t ≡ false
block p y t (inl e) = and_left (not (reaches (running y) t)) (not (under_ceiling p y.held t)) (not_from_true (reaches (running y) t) e)
block p y t (inr e) = and_right (not (reaches (running y) t)) (not (under_ceiling p y.held t)) (not_from_true (under_ceiling p y.held t) e)

pub unblocked : (p : Plan) (y : Schedule) (t : ℕ) → exceeds p y t ≡ true → (reaches (running y) t ≡ false) × (under_ceiling p y.held t ≡ false)
unblocked p y t e =
    let q = and_parts (not (reaches (running y) t)) (not (under_ceiling p y.held t)) e in
    (not-true (reaches (running y) t) q.0, not-true (under_ceiling p y.held t) q.1)

blocked_down : (p : Plan) (y : Schedule) (s t : ℕ) → s ≤ t → exceeds p y t ≡ false → exceeds p y s ≡ false
blocked_down p y s t h e =
    block p y s
    (⊎_elim (λ (z : reaches (running y) t ≡ true). inl (reaches_down (running y) s t h z))
    (λ (z : under_ceiling p y.held t ≡ true). inr (under_down p y.held s t h z)) (blocked p y t e))

pub waiting_busy : (y : Schedule) (t : ℕ) → y.waiting t ≡ true → busy y t ≡ true
waiting_busy y t e = or_left (y.waiting t) (among y.chain t) e

pub started_busy : (y : Schedule) (t : ℕ) → among y.chain t ≡ true → busy y t ≡ true
started_busy y t e = or_right (y.waiting t) (among y.chain t) e

-- to start a waiting task changes nothing in who is busy
pub start_busy : (w : ℕ → Bool) (k t : ℕ) (a : Bool) → w k ≡ true → (w t || a) ≡ ((not (eqb t k) && w t) || (eqb t k || a))
start_busy w k t a h = go (eqb t k) refl
  where
    go : (b : Bool) → eqb t k ≡ b → (w t || a) ≡ ((not b && w t) || (b || a))
    go true q = or_left (w t) a (subst (λ (i : ℕ). w i ≡ true) (sym (eqb-true t k q)) h)
    go false q = refl

start_shape : (p : Plan) (y : Schedule) (w : ℕ) → Shape y → y.waiting w ≡ true → exceeds p y w ≡ true → Shape (started (Some w) y)
start_shape p y w s h e =
    record {
      apart = λ t z.
          let q = and_parts (not (eqb t w)) (y.waiting t) z in
          or_from (eqb t w) (among y.chain t) (not-true (eqb t w) q.0) (s.apart t q.1);
      falling = (over_chain y.chain s.falling w (unblocked p y w e).0, s.falling);
      placed = λ r k z. among_there w y.chain k (s.placed r k z);
      single = s.single;
      nested = s.nested;
    }

start_suits : (p : Plan) (y : Schedule) (w : ℕ) → Suits p y → y.waiting w ≡ true → exceeds p y w ≡ true → Suits p (started (Some w) y)
start_suits p y w s h e =
    record {
      fits = s.fits;
      known = λ t z. s.known t (start_busy y.waiting w t (among y.chain t) h ∙ z);
      entitled = s.entitled;
      guarded = λ r k t z m l.
          ⊎_elim (λ (i : t ≡ w). subst (λ (j : ℕ). reaches (ceiling p r) j ≡ false) (sym i) (not_under p y.held w (unblocked p y w e).1 r k z))
          (λ (i : among y.chain t ≡ true). s.guarded r k t z i l) (among_cases w y.chain t m);
    }

pub started_good : (o : Option Plan) (y : Schedule) → Sound o y → Good o (started (due_under o y) y)
started_good None y s = record { shape = s.shape; stands = s.stands; rests = tt }
started_good (Some p) y s = go (highest y.size y.waiting) refl
  where
    within : (t : ℕ) → y.waiting t ≡ true → t < y.size
    within t z = s.stands.fits t (s.stands.known t (waiting_busy y t z))

    go2 : (w : ℕ) → Greatest y.size y.waiting w → (b : Bool) → exceeds p y w ≡ b → Good (Some p) (started (cond b (Some w) None) y)
    go2 w g true e =
        record {
          shape = start_shape p y w s.shape g.member e;
          stands = start_suits p y w s.stands g.member e;
          rests = λ t z.
              let q = (and_parts (not (eqb t w)) (y.waiting t) z).1 in
              block p (started (Some w) y) t (inl (le-leb t w (g.top t (within t q) q)));
        }
    go2 w g false e = record { shape = s.shape; stands = s.stands; rests = λ t z. blocked_down p y t w (g.top t (within t z) z) e }

    go : (w : Option ℕ) → highest y.size y.waiting ≡ w → Good (Some p) (started (keep_if (exceeds p y) w) y)
    go None e = record { shape = s.shape; stands = s.stands; rests = λ t z. absurd (both_ways (y.waiting t) (highest_empties y.size y.waiting e t (within t z)) z) }
    go (Some w) e = go2 w (highest_some y.size y.waiting w e) (exceeds p y w) refl

-- moves

release_shape : (v : ℕ → Bool) (y : Schedule) → Shape y → Shape (moved (release v) y)
release_shape v y s =
    record {
      apart = λ t z.
          ⊎_elim (λ (i : y.waiting t ≡ true). s.apart t i)
          (λ (i : (ltb t y.size && (v t && not (among y.chain t))) ≡ true). not-true (among y.chain t) (and_parts (v t) (not (among y.chain t)) (and_parts (ltb t y.size) (v t && not (among y.chain t)) i).1).1)
          (or_cases (y.waiting t) (ltb t y.size && (v t && not (among y.chain t))) z);
      falling = s.falling;
      placed = s.placed;
      single = s.single;
      nested = s.nested;
    }

release_busy : (v : ℕ → Bool) (y : Schedule) (t : ℕ) → busy (moved (release v) y) t ≡ true → (busy y t ≡ true) ⊎ (v t ≡ true)
release_busy v y t z =
    ⊎_elim
    (λ (i : (y.waiting t || (ltb t y.size && (v t && not (among y.chain t)))) ≡ true).
    ⊎_elim (λ (j : y.waiting t ≡ true). inl (waiting_busy y t j)) (λ (j : (ltb t y.size && (v t && not (among y.chain t))) ≡ true). inr (and_parts (v t) (not (among y.chain t)) (and_parts (ltb t y.size) (v t && not (among y.chain t)) j).1).0)
    (or_cases (y.waiting t) (ltb t y.size && (v t && not (among y.chain t))) i))
    (λ (i : among y.chain t ≡ true). inl (started_busy y t i)) (or_cases (y.waiting t || (ltb t y.size && (v t && not (among y.chain t)))) (among y.chain t) z)

release_stands : (o : Option Plan) (v : ℕ → Bool) (y : Schedule) → Allowed (release v) o y → Stands o y → Stands o (moved (release v) y)
release_stands None v y a s =
    record {
      no_chain = s.no_chain;
      no_held = s.no_held;
      inside = λ t z.
          ⊎_elim (λ (i : y.waiting t ≡ true). s.inside t i)
          (λ (i : (ltb t y.size && (v t && not (among y.chain t))) ≡ true). absurd (both_ways false refl (a t (and_parts (v t) (not (among y.chain t)) (and_parts (ltb t y.size) (v t && not (among y.chain t)) i).1).0)))
          (or_cases (y.waiting t) (ltb t y.size && (v t && not (among y.chain t))) z);
    }
release_stands (Some p) v y a s =
    record {
      fits = s.fits;
      known = λ t z. ⊎_elim (λ (i : busy y t ≡ true). s.known t i) (λ (i : v t ≡ true). a t i) (release_busy v y t z);
      entitled = s.entitled;
      guarded = s.guarded;
    }

-- a plan put over an empty schedule
new_suits : (q : Plan) (y : Schedule) → ((t : ℕ) → declares q t ≡ true → t < y.size) → highest y.size y.waiting ≡ None → Empty y → Suits q y
new_suits q y f n s =
    record {
      fits = f;
      known = λ t z. absurd (⊎_elim (λ (i : y.waiting t ≡ true). both_ways (y.waiting t) (highest_empties y.size y.waiting n t (s.inside t i)) i) (λ (i : among y.chain t ≡ true). nobody t i) (or_cases (y.waiting t) (among y.chain t) z));
      entitled = λ r k z. absurd (nothing r k z);
      guarded = λ r k t z _ _. absurd (nothing r k z);
    }
  where
    nobody : (t : ℕ) → among y.chain t ≡ true → ⊥
    nobody t z = both_ways (among y.chain t) (ap (λ (c : List ℕ). among c t) s.no_chain) z

    nothing : (r k : ℕ) → holder y.held r ≡ Some k → ⊥
    nothing r k z = none-some k (sym (ap (λ (c : List (ℕ × ℕ)). holder c r) s.no_held) ∙ z)

fit_suits : (o : Option Plan) (q : Plan) (y : Schedule) → Asked o q y → Shape y → Stands o y → Suits q y
fit_suits (Some p) q y a h s = absurd a
fit_suits None q y a h s = new_suits q y a.fits a.nobody s

fit_sound : (o : Option Plan) (q : Plan) (y : Schedule) → Allowed (fit q) o y → Good o y → Sound (Some q) (moved (fit q) y)
fit_sound o q y a g =
    let h = g.shape in
    let s = fit_suits o q y a h g.stands in
    record {
      shape = record { apart = h.apart; falling = h.falling; placed = h.placed; single = h.single; nested = h.nested };
      stands = record { fits = s.fits; known = s.known; entitled = s.entitled; guarded = s.guarded };
    }

-- nobody waits where a first plan is fitted, so that nobody is due
fit_rests : (o : Option Plan) (q : Plan) (y : Schedule) → Asked o q y → Stands o y → Settled q (moved (fit q) y)
fit_rests (Some p) q y a s t z = absurd a
fit_rests None q y a s t z = absurd (both_ways (y.waiting t) (highest_empties y.size y.waiting a.nobody t (s.inside t z)) z)

fit_good : (o : Option Plan) (q : Plan) (y : Schedule) → Allowed (fit q) o y → Good o y → Good (Some q) (moved (fit q) y)
fit_good o q y a g = let s = fit_sound o q y a g in record { shape = s.shape; stands = s.stands; rests = fit_rests o q y a g.stands }

lock_shape : (r k : ℕ) (y : Schedule) → running y ≡ Some k → holder y.held r ≡ None → Shape y → Shape (with_held ((r, k) ∷ y.held) y)
lock_shape r k y e n s =
    record {
      apart = s.apart;
      falling = s.falling;
      placed = λ q j z.
          ⊎_elim (λ (i : (q ≡ r) × (k ≡ j)). subst (λ (x : ℕ). among y.chain x ≡ true) i.1 (head_among y.chain k e))
          (λ (i : (q ≡ r → ⊥) × (holder y.held q ≡ Some j)). s.placed q j i.1) (holder_cases (r, k) y.held q j z);
      single = (n, s.single);
      nested = (λ q j z. top y.chain s.falling k j e (s.placed q j z), s.nested);
    }

lock_suits : (p : Plan) (r k : ℕ) (y : Schedule) → running y ≡ Some k → uses p r k ≡ true → Shape y → Suits p y → Suits p (with_held ((r, k) ∷ y.held) y)
lock_suits p r k y e u h s =
    record {
      fits = s.fits;
      known = s.known;
      entitled = λ q j z.
          ⊎_elim (λ (i : (q ≡ r) × (k ≡ j)). subst (λ (x : ℕ). uses p q x ≡ true) i.1 (subst (λ (x : ℕ). uses p x k ≡ true) (sym i.0) u))
          (λ (i : (q ≡ r → ⊥) × (holder y.held q ≡ Some j)). s.entitled q j i.1) (holder_cases (r, k) y.held q j z);
      guarded = λ q j t z m l.
          ⊎_elim (λ (i : (q ≡ r) × (k ≡ j)). let x = i.1 in let n : t ≤ k = top y.chain h.falling k t e m in absurd (omega arith))
          (λ (i : (q ≡ r → ⊥) × (holder y.held q ≡ Some j)). s.guarded q j t i.1 m l) (holder_cases (r, k) y.held q j z);
    }

lock_rests : (p : Plan) (r k : ℕ) (y : Schedule) → Settled p y → Settled p (with_held ((r, k) ∷ y.held) y)
lock_rests p r k y g t z =
    block p (with_held ((r, k) ∷ y.held) y) t
    (⊎_elim (λ (i : reaches (running y) t ≡ true). inl i) (λ (i : under_ceiling p y.held t ≡ true). inr (under_there p (r, k) y.held t i))
    (blocked p y t (g t z)))

lock_good : (o : Option Plan) (r : ℕ) (y : Schedule) → Allowed (lock r) o y → Good o y → Good o (moved (lock r) y)
lock_good None r y a g = absurd (someone_runs y a.0 g.stands a.1)
lock_good (Some p) r y a g =
    subst (λ (i : Option ℕ). Good (Some p) (with_held (add_lock r i y.held) y)) (sym a.1)
    (record { shape = lock_shape r a.0 y a.1 a.3 g.shape; stands = lock_suits p r a.0 y a.1 a.2 g.shape g.stands; rests = lock_rests p r a.0 y g.rests })

unlock_sound : (o : Option Plan) (r : ℕ) (y : Schedule) → Allowed (unlock r) o y → Good o y → Sound o (moved (unlock r) y)
unlock_sound None r y a g = absurd (someone_runs y a.0 g.stands a.1)
unlock_sound (Some p) r y a g =
    let h = g.shape in
    let s = g.stands in
    record {
      shape = record { apart = h.apart; falling = h.falling; placed = λ q k z. h.placed q k (holder_tail y.held h.single q k z); single = single_tail y.held h.single; nested = nested_tail y.held h.nested };
      stands = record { fits = s.fits; known = s.known; entitled = λ q k z. s.entitled q k (holder_tail y.held h.single q k z); guarded = λ q k t z m l. s.guarded q k t (holder_tail y.held h.single q k z) m l };
    }

leave_busy : (y : Schedule) (t : ℕ) → busy (moved leave y) t ≡ true → busy y t ≡ true
leave_busy y t z = ⊎_elim (λ (i : y.waiting t ≡ true). waiting_busy y t i) (λ (i : among (tail y.chain) t ≡ true). started_busy y t (tail_among y.chain t i)) (or_cases (y.waiting t) (among (tail y.chain) t) z)

leave_shape : (k : ℕ) (y : Schedule) → running y ≡ Some k → holds_any y.held k ≡ false → Shape y → Shape (moved leave y)
leave_shape k y e n s =
    record {
      apart = λ t z. false_from_ne_true (among (tail y.chain) t) (λ i. both_ways (among y.chain t) (s.apart t z) (tail_among y.chain t i));
      falling = falling_tail y.chain s.falling;
      placed = λ q j z. among_tail y.chain k j e (holds_none y.held k n q j z) (s.placed q j z);
      single = s.single;
      nested = s.nested;
    }

leave_sound : (o : Option Plan) (y : Schedule) → Allowed leave o y → Good o y → Sound o (moved leave y)
leave_sound None y a g = absurd (someone_runs y a.0 g.stands a.1)
leave_sound (Some p) y a g =
    let s = g.stands in
    record {
      shape = leave_shape a.0 y a.1 a.2 g.shape;
      stands = record { fits = s.fits; known = λ t z. s.known t (leave_busy y t z); entitled = s.entitled; guarded = λ q k t z m l. s.guarded q k t z (tail_among y.chain t m) l };
    }

-- every move that is allowed leads from good to good
pub step_good : (a : Move) (y : Schedule) → Allowed a y.plan y → Good y.plan y → Good (given a y.plan) (after_move a y)
step_good stay y a g = g
step_good (fit q) y a g = fit_good y.plan q y a g
step_good (release v) y a g = started_good y.plan (moved (release v) y) (record { shape = release_shape v y g.shape; stands = release_stands y.plan v y a g.stands })
step_good (lock r) y a g = lock_good y.plan r y a g
step_good (unlock r) y a g = started_good y.plan (moved (unlock r) y) (unlock_sound y.plan r y a g)
step_good leave y a g = started_good y.plan (moved leave y) (leave_sound y.plan y a g)
