-- The refusal table: for each call the causes in their order, of which the first that holds is told.
use Rattle.std.specs.Prelude.{ℕ, Bool, true, false, not, ◌||◌, List, Some, None, Option, ◌==◌, nat_le}
use Rattle.vectors.specs.Vectors.{highest, strays}
use Rattle.plan.specs.declared.record.Plan.{Plan}
use Rattle.plan.specs.Plans.{declares, uses, hears}
use Rattle.machine.specs.declared.Call.{Call}
use Rattle.machine.specs.declared.Call.TheVariants.{Install, Release, Lock, Unlock, Exit, Signal, SignalRelease, Test}
use Rattle.machine.specs.declared.Refusal.{Refusal}
use Rattle.machine.specs.declared.Refusal.TheVariants.{SetTooSmall, SetNotEmpty, AlreadyInstalled, NoTaskDeclared, ForeignTask, NoTaskRuns, NotDeclared, NotEntitled, AlreadyHeld, NotHolder, LaterLockHeld, StillHolding}
use Rattle.machine.specs.Schedules.{Schedule, running, holder, holds_any, newest}

-- Where the cause holds it is told, and else what follows decides.
abbrev pub refuse_if : {A : Type 0} → Bool → A → Option A → Option A
refuse_if true x o = Some x
refuse_if false x o = o

abbrev pub absent : {A : Type 0} → Option A → Bool
absent None = true
absent (Some x) = false

abbrev pub present : {A : Type 0} → Option A → Bool
present None = false
present (Some x) = true

abbrev pub same : Option ℕ → Option ℕ → Bool
same None None = true
same None (Some y) = false
same (Some x) None = false
same (Some x) (Some y) = x == y

-- What the installed plan declares: nothing where there is none.
abbrev pub tasks_of : Option Plan → ℕ → Bool
tasks_of None t = false
tasks_of (Some p) t = declares p t

abbrev pub resources_of : Option Plan → ℕ
resources_of None = 0
resources_of (Some p) = p.resources

abbrev pub events_of : Option Plan → ℕ
events_of None = 0
events_of (Some p) = p.events

-- The tasks registered for event e.
abbrev pub registered_of : Option Plan → ℕ → ℕ → Bool
registered_of None e t = false
registered_of (Some p) e t = hears p e t

-- The task, if any, is a user of resource r.
abbrev pub may_lock : Option Plan → ℕ → Option ℕ → Bool
may_lock (Some p) r (Some t) = uses p r t
may_lock (Some p) r None = false
may_lock None r t = false

-- The task, if any, is registered for event e.
abbrev pub may_test : Option Plan → ℕ → Option ℕ → Bool
may_test (Some p) e (Some t) = hears p e t
may_test (Some p) e None = false
may_test None e t = false

-- The task, if any, holds a resource.
abbrev pub holds_some : List (ℕ × ℕ) → Option ℕ → Bool
holds_some h None = false
holds_some h (Some t) = holds_any h t

-- A vector, where one is given, holds a task that fails the test ok.
abbrev pub stray : Option ℕ → (ℕ → Bool) → Bool
stray None ok = false
stray (Some v) ok = strays v ok

-- The size c is not above the task, if any.
abbrev pub too_small : ℕ → Option ℕ → Bool
too_small c None = false
too_small c (Some t) = nat_le c t

abbrev pub refusal : Call → Schedule → Option Refusal
refusal (Install q) y =
    refuse_if (present y.plan) AlreadyInstalled
    (refuse_if (absent (highest 64 (declares q))) NoTaskDeclared
    (refuse_if (too_small y.size (highest 64 (declares q))) SetTooSmall
    (refuse_if (present (highest y.size y.waiting)) SetNotEmpty None)))
refusal (Release v) y = refuse_if (strays v (tasks_of y.plan)) ForeignTask None
refusal (Lock r) y =
    refuse_if (absent (running y)) NoTaskRuns
    (refuse_if (nat_le (resources_of y.plan) r) NotDeclared
    (refuse_if (not (may_lock y.plan r (running y))) NotEntitled
    (refuse_if (present (holder y.held r)) AlreadyHeld None)))
refusal (Unlock r) y =
    refuse_if (absent (running y)) NoTaskRuns
    (refuse_if (nat_le (resources_of y.plan) r) NotDeclared
    (refuse_if (absent (holder y.held r) || not (same (holder y.held r) (running y))) NotHolder
    (refuse_if (not (same (newest y.held) (Some r))) LaterLockHeld None)))
refusal Exit y =
    refuse_if (absent (running y)) NoTaskRuns
    (refuse_if (holds_some y.held (running y)) StillHolding None)
refusal (Signal e v) y =
    refuse_if (nat_le (events_of y.plan) e) NotDeclared
    (refuse_if (stray v (registered_of y.plan e)) ForeignTask None)
refusal (SignalRelease e v) y =
    refuse_if (nat_le (events_of y.plan) e) NotDeclared
    (refuse_if (stray v (registered_of y.plan e)) ForeignTask None)
refusal (Test e) y =
    refuse_if (absent (running y)) NoTaskRuns
    (refuse_if (nat_le (events_of y.plan) e) NotDeclared
    (refuse_if (not (may_test y.plan e (running y))) NotEntitled None))
