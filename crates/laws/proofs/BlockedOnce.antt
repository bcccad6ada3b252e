-- From its release to its exit a task is held up by one lower task at most, over one resource. Since its release either the task
-- is free, and no lower task runs; or one lower task holds the oldest lock that reaches it, and no other lower task runs until that
-- lock is undone.
use Rattle.std.proofs.Common.{◌≡◌, ℕ, ◌<◌, ◌≤◌, Bool, true, false, cond, ◌⊎◌, List, [], ◌∷◌, ◌++◌, Some, None, Option, sym, refl, ap, ◌∙◌, subst, inl, inr, ⊎_elim, arith}
use Rattle.std.proofs.lemmas.Bool.{both_ways, leb-true, or_cases, cases_order, cases_Bool, cases_lt}
use Rattle.plan.specs.declared.record.Plan.{Plan}
use Rattle.machine.specs.declared.Call.{Call}
use Rattle.machine.specs.declared.Refusal.{Refusal}
use Rattle.plan.specs.Plans.{ceiling, reaches}
use Rattle.machine.specs.Moves.{Move}
use Rattle.machine.specs.Schedules.{Schedule, tail, among, running, holder, moved}
use Rattle.machine.specs.Machine.{Machine, Answer, does, answer, answered, step, stepped}
use Rattle.laws.proofs.Busy.{busy, busy_under}
use Rattle.machine.specs.Refusals.{refusal}
use Rattle.machine.specs.History.{Entry, History, runs, holder_of, unfinished, begins, ends, HeldSince, ceiling_under, HoldsUp}
use Rattle.machine.specs.Laws.{NoExit, Only, BlockedOnce}
use Rattle.std.proofs.lemmas.Option.{none-some}
use Rattle.laws.proofs.Lists.{reaches_down, top, head_among, holder_cases, holder_here, holder_older, holder_tail, under_ceiling, under_cases}
use Rattle.machine.specs.Shapes.{Single}
use Rattle.laws.proofs.Invariant.{Allowed, blocked}
use Rattle.laws.proofs.Agreement.{allowed, held_kept, regrip, wait_goes_on, wait_not_new, wait_new, wait_holder, wait_plan, Inv, unfinished_is, inv_step, Ready, ready}
use Rattle.laws.proofs.Exclusion.{From, from_inv, UnderPlan, under_plan}

-- no task below t holds what reaches t
abbrev pub Free : Plan → List (ℕ × ℕ) → ℕ → Type 0
Free p xs t = (r k : ℕ) → holder xs r ≡ Some k → reaches (ceiling p r) t ≡ true → t ≤ k

-- l holds r, and the locks before that one leave t free
abbrev pub Oldest : Plan → List (ℕ × ℕ) → ℕ → ℕ → ℕ → Type 0
Oldest p [] t l r = ⊥
Oldest p (x ∷ xs) t l r = ((x.0 ≡ r) × (x.1 ≡ l) × Free p xs t) ⊎ Oldest p xs t l r

oldest_holds : (p : Plan) (xs : List (ℕ × ℕ)) (t l r : ℕ) → Single xs → Oldest p xs t l r → holder xs r ≡ Some l
oldest_holds p [] t l r s o = absurd o
oldest_holds p (x ∷ xs) t l r s (inl o) = holder_here x.0 x.1 xs r (sym o.0) ∙ ap (λ (i : ℕ). Some i) o.1
oldest_holds p (x ∷ xs) t l r s (inr o) = holder_older x xs s r l (oldest_holds p xs t l r s.1 o)

oldest_tail : (p : Plan) (xs : List (ℕ × ℕ)) (t l r : ℕ) → Oldest p xs t l r → Free p (tail xs) t ⊎ Oldest p (tail xs) t l r
oldest_tail p [] t l r o = absurd o
oldest_tail p (x ∷ xs) t l r (inl o) = inl o.2
oldest_tail p (x ∷ xs) t l r (inr o) = inr o

pick : (p : Plan) (xs : List (ℕ × ℕ)) (t : ℕ) → Free p xs t ⊎ ((l : ℕ) × (r : ℕ) × (l < t) × (reaches (ceiling p r) t ≡ true) × Oldest p xs t l r)
pick p [] t = inl (λ r k h e. absurd (none-some k h))
pick p (x ∷ xs) t = go (pick p xs t)
  where
    go : Free p xs t ⊎ ((l : ℕ) × (r : ℕ) × (l < t) × (reaches (ceiling p r) t ≡ true) × Oldest p xs t l r)
        → Free p (x ∷ xs) t ⊎ ((l : ℕ) × (r : ℕ) × (l < t) × (reaches (ceiling p r) t ≡ true) × Oldest p (x ∷ xs) t l r)
    go (inr o) = inr (o.0, o.1, o.2, o.3, inr o.4)
    go (inl f) =
        ⊎_elim
        (λ (a : x.1 < t).
        ⊎_elim (λ (b : reaches (ceiling p x.0) t ≡ true). inr (x.1, x.0, a, b, inl (refl, refl, f)))
        (λ (b : reaches (ceiling p x.0) t ≡ false).
        inl
        (λ r k h e.
        ⊎_elim (λ (z : (r ≡ x.0) × (x.1 ≡ k)). absurd (both_ways (reaches (ceiling p x.0) t) b (subst (λ (i : ℕ). reaches (ceiling p i) t ≡ true) z.0 e)))
        (λ (z : (r ≡ x.0 → ⊥) × (holder xs r ≡ Some k)). f r k z.1 e) (holder_cases x xs r k h)))
        (cases_Bool (reaches (ceiling p x.0) t)))
        (λ (a : t ≤ x.1).
        inl
        (λ r k h e.
        ⊎_elim (λ (z : (r ≡ x.0) × (x.1 ≡ k)). let q = z.1 in omega arith) (λ (z : (r ≡ x.0 → ⊥) × (holder xs r ≡ Some k)). f r k z.1 e)
        (holder_cases x xs r k h)))
        (cases_lt x.1 t)

-- while t is free, no lower task runs
free_above : (p : Plan) (y : Schedule) (t k : ℕ) → Ready p y → busy y t ≡ true → Free p y.held t → running y ≡ Some k → t ≤ k
free_above p y t k g u f e =
    ⊎_elim
    (λ (w : y.waiting t ≡ true).
    ⊎_elim (λ (z : reaches (running y) t ≡ true). leb-true t k (subst (λ (o : Option ℕ). reaches o t ≡ true) e z))
    (λ (z : under_ceiling p y.held t ≡ true).
    let q = under_cases p y.held t z in
    let a : t ≤ q.1 = f q.0 q.1 q.2 q.3 in
    let b : q.1 ≤ k = top y.chain g.shape.falling k q.1 e (g.shape.placed q.0 q.1 q.2) in
    omega arith)
    (blocked p y t (g.settled t w)))
    (λ (w : among y.chain t ≡ true). top y.chain g.shape.falling k t e w) (or_cases (y.waiting t) (among y.chain t) u)

keep_free : (p : Plan) (a : Move) (y : Schedule) (t : ℕ) → Allowed a y.plan y → Ready p y → busy y t ≡ true → Free p y.held t → Free p (moved a y).held t
keep_free p a y t al g u f = regrip (λ (xs : List (ℕ × ℕ)). Free p xs t) a y al f more (λ r k h e. f r k (holder_tail y.held g.shape.single r k h) e)
  where
    more : (s j : ℕ) → running y ≡ Some j → Free p ((s, j) ∷ y.held) t
    more s j x r k h e =
        ⊎_elim (λ (z : (r ≡ s) × (j ≡ k)). let q = z.1 in let b : t ≤ j = free_above p y t j g u f x in omega arith)
        (λ (z : (r ≡ s → ⊥) × (holder y.held r ≡ Some k)). f r k z.1 e) (holder_cases (s, j) y.held r k h)

keep_oldest : (p : Plan) (a : Move) (y : Schedule) (t l r : ℕ) → Allowed a y.plan y → Oldest p y.held t l r → Free p (moved a y).held t ⊎ Oldest p (moved a y).held t l r
keep_oldest p a y t l r al o = regrip (λ (xs : List (ℕ × ℕ)). Free p xs t ⊎ Oldest p xs t l r) a y al (inr o) (λ s k e. inr (inr o)) (oldest_tail p y.held t l r o)

-- over a stretch: t is free, or waits for l to undo its lock of r
pub record Blocker (p : Plan) (xs : List (ℕ × ℕ)) (h : History) (t l r : ℕ) : Type 0 where
  pub lower : l < t
  pub high : reaches (ceiling p r) t ≡ true
  pub oldest : Oldest p xs t l r
  pub since : HeldSince h l t r

abbrev pub Phase : Plan → List (ℕ × ℕ) → History → ℕ → ℕ → ℕ → Type 0
Phase p xs h t l r = Free p xs t ⊎ Blocker p xs h t l r

-- what is known of t from its release to its exit, under plan p
pub record PhaseOf (p : Plan) (m : Machine) (h : History) (t l r : ℕ) : Type 0 where
  pub inv : Inv m h
  pub goes : unfinished h t ≡ true
  pub plan : m.schedule.plan ≡ Some p
  pub phase : Phase p m.schedule.held h t l r

phase_ready : (p : Plan) (m : Machine) (h : History) (t l r : ℕ) → PhaseOf p m h t l r → Ready p m.schedule
phase_ready p m h t l r x = ready p m.schedule x.plan x.inv.good

phase_busy : (p : Plan) (m : Machine) (h : History) (t l r : ℕ) → PhaseOf p m h t l r → busy m.schedule t ≡ true
phase_busy p m h t l r x = subst (λ (o : Option Plan). busy_under o m.schedule t ≡ true) x.plan (sym (unfinished_is m h x.inv t) ∙ x.goes)

since_more : (e : Entry) (h : History) (l t r : ℕ) → unfinished h t ≡ true → ends e h t ≡ false → holder_of (e ∷ h) r ≡ Some l → HeldSince h l t r → HeldSince (e ∷ h) l t r
since_more e h l t r u n k s = (k, subst (λ (b : Bool). cond b (holder_of h r ≡ Some l) (HeldSince h l t r)) (sym (wait_not_new e h t n u)) s)

-- what a call does to the held list keeps the phase
phase_on : (p : Plan) (e : Entry) (h : History) (t l r : ℕ) (xs ys : List (ℕ × ℕ)) → unfinished h t ≡ true → ends e h t ≡ false → Single ys → ((q : ℕ) → holder_of (e ∷ h) q ≡ holder ys q)
    → (Free p xs t → Free p ys t) → (Oldest p xs t l r → Free p ys t ⊎ Oldest p ys t l r) → Phase p xs h t l r → Phase p ys (e ∷ h) t l r
phase_on p e h t l r xs ys u n s w f o (inl x) = inl (f x)
phase_on p e h t l r xs ys u n s w f o (inr b) =
    ⊎_elim (λ (x : Free p ys t). inl x)
    (λ (x : Oldest p ys t l r). inr (record { lower = b.lower; high = b.high; oldest = x; since = since_more e h l t r u n (w r ∙ oldest_holds p ys t l r s x) b.since }))
    (o b.oldest)

phase_step : (c : Call) (p : Plan) (m : Machine) (h : History) (t l r : ℕ) → PhaseOf p m h t l r → (o : Option Refusal) → refusal c m.schedule ≡ o
    → ends (record { call = c; answer = answered o c m }) h t ≡ false → PhaseOf p (stepped o c m) (record { call = c; answer = answered o c m } ∷ h) t l r
phase_step c p m h t l r x (Some f) q n =
    let e : Entry = record { call = c; answer = answered (Some f) c m } in
    let j = inv_step c m h x.inv (Some f) q in
    record {
      inv = j;
      goes = wait_goes_on e h t n x.goes;
      plan = x.plan;
      phase = phase_on p e h t l r m.schedule.held m.schedule.held x.goes n x.inv.good.shape.single j.holder_is (λ y. y) (λ y. inr y) x.phase;
    }
phase_step c p m h t l r x None q n =
    record {
      inv = j;
      goes = wait_goes_on e h t n x.goes;
      plan = sym (wait_plan c m h t x.inv q n x.goes) ∙ x.plan;
      phase =
          subst (λ (xs : List (ℕ × ℕ)). Phase p xs (e ∷ h) t l r) (held_kept a y)
          (phase_on p e h t l r y.held (moved a y).held x.goes n (subst (λ (xs : List (ℕ × ℕ)). Single xs) (sym (held_kept a y)) j.good.shape.single)
          (λ s. j.holder_is s ∙ ap (λ (xs : List (ℕ × ℕ)). holder xs s) (sym (held_kept a y)))
          (keep_free p a y t (allowed c m q) (phase_ready p m h t l r x) (phase_busy p m h t l r x)) (keep_oldest p a y t l r (allowed c m q)) x.phase);
    }
  where
    y : Schedule
    y = m.schedule

    a : Move
    a = does m c

    e : Entry
    e = record { call = c; answer = answered None c m }

    j : Inv (stepped None c m) (e ∷ h)
    j = inv_step c m h x.inv None q

-- at one moment
at_one_moment : (p : Plan) (m : Machine) (h : History) (t l r : ℕ) → PhaseOf p m h t l r → (k : ℕ) → runs h ≡ Some k → k < t → (k ≡ l) × HoldsUp h l t r
at_one_moment p m h t l r x k e n = go x.phase
  where
    y : Schedule
    y = m.schedule

    g : Ready p m.schedule
    g = phase_ready p m h t l r x

    now : running m.schedule ≡ Some k
    now = sym x.inv.runs_is ∙ e

    go : Phase p m.schedule.held h t l r → (k ≡ l) × HoldsUp h l t r
    go (inl f) = let z : t ≤ k = free_above p m.schedule t k g (phase_busy p m h t l r x) f now in absurd (omega arith)
    go (inr b) = (
      same_one,
      record {
        runs_now = e ∙ ap (λ (i : ℕ). Some i) same_one;
        below = b.lower;
        waits = x.goes;
        high = subst (λ (o : Option Plan). reaches (ceiling_under o r) t ≡ true) (sym (x.inv.plan_is ∙ x.plan)) b.high;
        held = b.since;
      },
    )
      where
        hold : holder m.schedule.held r ≡ Some l
        hold = oldest_holds p m.schedule.held t l r g.shape.single b.oldest

        same_one : k ≡ l
        same_one =
            let c : l ≤ k = top m.schedule.chain g.shape.falling k l now (g.shape.placed r l hold) in
            ⊎_elim (λ (z : k ≡ l). z)
            (⊎_elim (λ (z : k < l). absurd (omega arith))
            (λ (z : l < k).
            absurd
            (both_ways (reaches (ceiling p r) k) (g.suits.guarded r l k hold (head_among m.schedule.chain k now) z)
            (reaches_down (ceiling p r) k t (omega arith) b.high))))
            (cases_order k l)

-- where a wait begins
phase_first : (m : Machine) (e : Entry) (h : History) (t : ℕ) → Inv m (e ∷ h) → begins e h t ≡ true → (p : Plan) × (l : ℕ) × (r : ℕ) × PhaseOf p m (e ∷ h) t l r
phase_first m e h t i q = go (pick w.plan m.schedule.held t)
  where
    u : unfinished (e ∷ h) t ≡ true
    u = wait_new e h t q

    w : UnderPlan m (e ∷ h) t
    w = under_plan m (e ∷ h) t i (wait_new e h t q)

    go : Free w.plan m.schedule.held t ⊎ ((l : ℕ) × (r : ℕ) × (l < t) × (reaches (ceiling w.plan r) t ≡ true) × Oldest w.plan m.schedule.held t l r)
        → (p : Plan) × (l : ℕ) × (r : ℕ) × PhaseOf p m (e ∷ h) t l r
    go (inl f) = (w.plan, 0, 0, record { inv = i; goes = u; plan = w.ready_now.installed; phase = inl f })
    go (inr x) =
        let hold : holder_of (e ∷ h) x.1 ≡ Some x.0 = i.holder_is x.1 ∙ oldest_holds w.plan m.schedule.held t x.0 x.1 i.good.shape.single x.4 in
        let before : holder_of h x.1 ≡ Some x.0 = sym (wait_holder e h t x.1 q) ∙ hold in (
          w.plan,
          x.0,
          x.1,
          record {
            inv = i;
            goes = u;
            plan = w.ready_now.installed;
            phase =
                inr
                (record {
                  lower = x.2;
                  high = x.3;
                  oldest = x.4;
                  since = (hold, subst (λ (b : Bool). cond b (holder_of h x.1 ≡ Some x.0) (HeldSince h x.0 t x.1)) (sym q) before);
                });
          },
        )

-- over the stretch

abbrev cut : (later h : History) (m : Machine) → From (later ++ h) m → (n : Machine) × From h n
cut [] h m f = (m, f)
cut (e ∷ later) h m f = cut later h f.0 f.1

stretch : (p : Plan) (t l r : ℕ) (h : History) (later : History) (m : Machine) (f : From (later ++ h) m) → PhaseOf p (cut later h m f).0 h t l r → NoExit later h t
    → Only later h t l r × PhaseOf p m (later ++ h) t l r
stretch p t l r h [] m f ph s = (at_one_moment p m h t l r ph, ph)
stretch p t l r h (e ∷ later) m f ph s =
    let k : History = later ++ h in
    let x = stretch p t l r h later f.0 f.1 ph s.1 in
    let ph₁ : PhaseOf p (step e.call f.0) (record { call = e.call; answer = answer e.call f.0 } ∷ k) t l r =
    phase_step e.call p f.0 k t l r x.1 (refusal e.call f.0.schedule) refl (subst (λ (i : Answer). ends (record { call = e.call; answer = i }) k t ≡ false) f.2 s.0) in
    let ph₂ : PhaseOf p (step e.call f.0) (e ∷ k) t l r = subst (λ (i : Answer). PhaseOf p (step e.call f.0) (record { call = e.call; answer = i } ∷ k) t l r) (sym f.2) ph₁ in
    let ph₃ : PhaseOf p m (e ∷ k) t l r = subst (λ (n : Machine). PhaseOf p n (e ∷ k) t l r) (sym f.3) ph₂ in
    ((at_one_moment p m (e ∷ k) t l r ph₃, x.0), ph₃)

pub blocked_once : (h : History) (m : Machine) → From h m → BlockedOnce h
blocked_once h m f t e later earlier q b st =
    let g : From (later ++ (e ∷ earlier)) m = subst (λ (k : History). From k m) q f in
    let c = cut later (e ∷ earlier) m g in
    let x = phase_first c.0 e earlier t (from_inv (e ∷ earlier) c.0 c.1) b in
    (x.1, x.2, (stretch x.0 t x.1 x.2 (e ∷ earlier) later m g x.3 st).0)
