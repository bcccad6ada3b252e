-- What the refusal table lets through: an accepted call's move is allowed. A new kind of call is one more case of `allows`.
use Rattle.std.proofs.Common.{◌≡◌, ℕ, ◌<◌, ◌≤◌, Bool, true, false, not, ◌||◌, leb, Some, None, Option, sym, refl, ap, ◌∙◌, subst, arith}
use Rattle.std.proofs.lemmas.Bool.{both_ways, not-false, eqb-true, leb-false, or_parts}
use Rattle.plan.specs.declared.record.Plan.{Plan}
use Rattle.machine.specs.declared.Call.{Call}
use Rattle.machine.specs.declared.Call.TheVariants.{Install, Release, Lock, Unlock, Exit, Signal, SignalRelease, Test}
use Rattle.machine.specs.declared.Refusal.{Refusal}
use Rattle.machine.specs.declared.Refusal.TheVariants.{SetTooSmall, SetNotEmpty, AlreadyInstalled, NoTaskDeclared, ForeignTask, NoTaskRuns, NotDeclared, NotEntitled, AlreadyHeld, NotHolder, LaterLockHeld, StillHolding}
use Rattle.vectors.specs.Vectors.{highest, strays}
use Rattle.plan.specs.Plans.{declares, hears}
use Rattle.machine.specs.Refusals.{registered_of}
use Rattle.machine.specs.Moves.{move, meant_under}
use Rattle.machine.specs.Schedules.{Schedule, running, holder, newest}
use Rattle.machine.specs.Machine.{Machine, answered}
use Rattle.machine.specs.Refusals.{tasks_of, may_lock, refuse_if, present, absent, same, stray, holds_some, resources_of, events_of, too_small, refusal}
use Rattle.machine.specs.History.{accepted}
use Rattle.vectors.proofs.Vectors.{highest_empties, in_small, none_strays}
use Rattle.vectors.proofs.Vectors.{highest_some}
use Rattle.std.proofs.lemmas.Option.{none-some}
use Rattle.laws.proofs.Invariant.{Asked, Allowed}

pub not_refused : {A : Type 0} (b : Bool) (x : A) (o : Option A) → refuse_if b x o ≡ None → (b ≡ false) × (o ≡ None)
not_refused true x o e = absurd (none-some x (sym e))
not_refused false x o e = (refl, e)

pub not_there : {A : Type 0} (o : Option A) → present o ≡ false → o ≡ None
not_there None e = refl
not_there (Some x) e = absurd (both_ways true e refl)

pub passes : {A : Type 0} (b : Bool) (x : A) (o : Option A) → b ≡ false → o ≡ None → refuse_if b x o ≡ None
passes b x o e f = ap (λ c. refuse_if c x o) e ∙ f

pub none_refused : (o : Option Refusal) (c : Call) (m : Machine) → accepted (answered o c m) ≡ true → o ≡ None
none_refused None c m e = refl
none_refused (Some f) c m e = absurd (both_ways false refl e)

some_there : (o : Option ℕ) → absent o ≡ false → (k : ℕ) × (o ≡ Some k)
some_there None e = absurd (both_ways true e refl)
some_there (Some x) e = (x, refl)

same_eq : (o u : Option ℕ) → same o u ≡ true → o ≡ u
same_eq None None e = refl
same_eq None (Some y) e = absurd (both_ways false refl e)
same_eq (Some x) None e = absurd (both_ways false refl e)
same_eq (Some x) (Some y) e = ap (λ (i : ℕ). Some i) (eqb-true x y e)

pub meant_known : (o : Option Plan) (e : ℕ) (v : Option ℕ) → stray v (registered_of o e) ≡ false → (t : ℕ) → meant_under o e v t ≡ true → tasks_of o t ≡ true
meant_known None e v h t i = absurd (both_ways false refl i)
meant_known (Some p) e None h t i = p.registered_inside e t i
meant_known (Some p) e (Some v) h t i = p.registered_inside e t (none_strays v (hears p e) h t i)

size_fits : (q : Plan) (c : ℕ) → too_small c (highest 64 (declares q)) ≡ false → (t : ℕ) → declares q t ≡ true → t < c
size_fits q c h t i = go (highest 64 (declares q)) refl h
  where
    go : (o : Option ℕ) → highest 64 (declares q) ≡ o → too_small c o ≡ false → t < c
    go None e f = absurd (both_ways (declares q t) (highest_empties 64 (declares q) e t (in_small _ t i)) i)
    go (Some d) e f =
        let a : d < c = leb-false c d f in
        let b : t ≤ d = (highest_some 64 (declares q) d e).top t (in_small _ t i) i in
        omega arith

pub allows : (c : Call) (y : Schedule) → refusal c y ≡ None → Allowed (move y.plan c) y.plan y
allows (Install q) y e =
    let a = not_refused (present y.plan) AlreadyInstalled _ e in
    let b = not_refused (absent (highest 64 (declares q))) NoTaskDeclared _ a.1 in
    let c = not_refused (too_small y.size (highest 64 (declares q))) SetTooSmall _ b.1 in
    let d = not_refused (present (highest y.size y.waiting)) SetNotEmpty None c.1 in
    subst (λ (o : Option Plan). Asked o q y) (sym (not_there y.plan a.0)) (record { fits = size_fits q y.size c.0; nobody = not_there (highest y.size y.waiting) d.0 })
allows (Release v) y e = none_strays v (tasks_of y.plan) (not_refused (strays v (tasks_of y.plan)) ForeignTask None e).0
allows (Lock r) y e =
    let a = not_refused (absent (running y)) NoTaskRuns _ e in
    let b = not_refused (leb (resources_of y.plan) r) NotDeclared _ a.1 in
    let c = not_refused (not (may_lock y.plan r (running y))) NotEntitled _ b.1 in
    let d = not_refused (present (holder y.held r)) AlreadyHeld None c.1 in
    let k = some_there (running y) a.0 in
    (k.0, k.1, subst (λ (o : Option ℕ). may_lock y.plan r o ≡ true) k.1 (not-false (may_lock y.plan r (running y)) c.0), not_there (holder y.held r) d.0)
allows (Unlock r) y e =
    let a = not_refused (absent (running y)) NoTaskRuns _ e in
    let b = not_refused (leb (resources_of y.plan) r) NotDeclared _ a.1 in
    let c = not_refused (absent (holder y.held r) || not (same (holder y.held r) (running y))) NotHolder _ b.1 in
    let d = not_refused (not (same (newest y.held) (Some r))) LaterLockHeld None c.1 in
    let k = some_there (running y) a.0 in
    (k.0, k.1, same_eq (newest y.held) (Some r) (not-false (same (newest y.held) (Some r)) d.0), same_eq (holder y.held r) (running y) (not-false _ (or_parts _ _ c.0).1) ∙ k.1)
allows Exit y e =
    let a = not_refused (absent (running y)) NoTaskRuns _ e in
    let b = not_refused (holds_some y.held (running y)) StillHolding None a.1 in
    let k = some_there (running y) a.0 in
    (k.0, k.1, subst (λ (o : Option ℕ). holds_some y.held o ≡ false) k.1 b.0)
allows (Signal s v) y e = tt
allows (SignalRelease s v) y e =
    let a = not_refused (leb (events_of y.plan) s) NotDeclared _ e in
    let b = not_refused (stray v (registered_of y.plan s)) ForeignTask None a.1 in
    meant_known y.plan s v b.0
allows (Test s) y e = tt
