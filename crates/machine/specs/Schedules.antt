-- The schedule: who waits, who has started and who holds what; what a move does to it, and dispatch.
-- Chain and held list have the newest entry first.
use Rattle.std.specs.Prelude.{ℕ, Bool, true, false, cond, not, ◌&&◌, ◌||◌, List, [], ◌∷◌, Some, None, Option, ◌==◌, nat_lt}
use Rattle.vectors.specs.Vectors.{without, highest}
use Rattle.plan.specs.declared.record.Plan.{Plan}
use Rattle.plan.specs.Plans.{ceiling, reaches}
use Rattle.machine.specs.Moves.{Move, stay, fit, release, lock, unlock, leave}

-- The waiting set's size and members, the installed plan, the chain of tasks started and not ended, and the held list of resources with their holders.
pub record Schedule : Type 0 where
  pub size : ℕ
  pub waiting : ℕ → Bool
  pub plan : Option Plan
  pub chain : List ℕ
  pub held : List (ℕ × ℕ)

-- A schedule with one part changed. Nothing else builds one.
abbrev pub with_waiting : (ℕ → Bool) → Schedule → Schedule
with_waiting w y = record { size = y.size; waiting = w; plan = y.plan; chain = y.chain; held = y.held }

abbrev pub with_plan : Plan → Schedule → Schedule
with_plan q y = record { size = y.size; waiting = y.waiting; plan = Some q; chain = y.chain; held = y.held }

abbrev pub with_chain : List ℕ → Schedule → Schedule
with_chain c y = record { size = y.size; waiting = y.waiting; plan = y.plan; chain = c; held = y.held }

abbrev pub with_held : List (ℕ × ℕ) → Schedule → Schedule
with_held x y = record { size = y.size; waiting = y.waiting; plan = y.plan; chain = y.chain; held = x }

abbrev pub head : {A : Type 0} → List A → Option A
head [] = None
head (x ∷ xs) = Some x

abbrev pub tail : {A : Type 0} → List A → List A
tail [] = []
tail (x ∷ xs) = xs

-- The number t is in the list.
abbrev pub among : List ℕ → ℕ → Bool
among [] t = false
among (x ∷ xs) t = t == x || among xs t

-- The running task is the newest of the chain.
abbrev pub running : Schedule → Option ℕ
running y = head y.chain

-- The holder of resource r.
abbrev pub holder : List (ℕ × ℕ) → ℕ → Option ℕ
holder [] r = None
holder (x ∷ xs) r = cond (r == x.0) (Some x.1) (holder xs r)

-- Task t holds some resource.
abbrev pub holds_any : List (ℕ × ℕ) → ℕ → Bool
holds_any [] t = false
holds_any (x ∷ xs) t = t == x.1 || holds_any xs t

-- The resource that was locked last.
abbrev pub newest : List (ℕ × ℕ) → Option ℕ
newest [] = None
newest (x ∷ xs) = Some x.0

-- The higher of two levels, of which either may be missing.
abbrev pub higher : Option ℕ → Option ℕ → Option ℕ
higher None b = b
higher (Some a) None = Some a
higher (Some a) (Some b) = cond (nat_lt a b) (Some b) (Some a)

-- The system ceiling: the greatest ceiling in the held list, if any.
abbrev pub system_ceiling : Plan → List (ℕ × ℕ) → Option ℕ
system_ceiling p [] = None
system_ceiling p (x ∷ xs) = higher (ceiling p x.0) (system_ceiling p xs)

-- The same under the installed plan, and none where there is no plan.
abbrev pub system_ceiling_under : Option Plan → List (ℕ × ℕ) → Option ℕ
system_ceiling_under None held = None
system_ceiling_under (Some p) held = system_ceiling p held

-- Task w exceeds the running task, if any, and the system ceiling, if any.
abbrev pub exceeds : Plan → Schedule → ℕ → Bool
exceeds p y w = not (reaches (running y) w) && not (reaches (system_ceiling p y.held) w)

abbrev pub keep_if : (ℕ → Bool) → Option ℕ → Option ℕ
keep_if ok None = None
keep_if ok (Some w) = cond (ok w) (Some w) None

-- The task that dispatch starts: the highest waiting one, where a plan is installed and it exceeds both.
abbrev pub due_under : Option Plan → Schedule → Option ℕ
due_under None y = None
due_under (Some p) y = keep_if (exceeds p y) (highest y.size y.waiting)

abbrev pub due : Schedule → Option ℕ
due y = due_under y.plan y

-- A started task leaves the waiting set and joins the chain's end.
abbrev pub started : Option ℕ → Schedule → Schedule
started None y = y
started (Some w) y = with_waiting (without w y.waiting) (with_chain (w ∷ y.chain) y)

-- Resource r and the running task join the held list.
abbrev pub add_lock : ℕ → Option ℕ → List (ℕ × ℕ) → List (ℕ × ℕ)
add_lock r None h = h
add_lock r (Some t) h = (r, t) ∷ h

-- The schedule after a move, before any dispatch. A release puts the tasks that are not in the chain into the waiting set,
-- which has room only for numbers below its size; once a plan is installed, every declared task is.
abbrev pub moved : Move → Schedule → Schedule
moved stay y = y
moved (fit q) y = with_plan q y
moved (release v) y = with_waiting (λ t. y.waiting t || (nat_lt t y.size && (v t && not (among y.chain t)))) y
moved (lock r) y = with_held (add_lock r (running y) y.held) y
moved (unlock r) y = with_held (tail y.held) y
moved leave y = with_chain (tail y.chain) y

-- The moves that end in a dispatch.
abbrev pub dispatches : Move → Bool
dispatches stay = false
dispatches (fit q) = false
dispatches (release v) = true
dispatches (lock r) = false
dispatches (unlock r) = true
dispatches leave = true

-- The task that a move starts, if any.
abbrev pub starts : Move → Schedule → Option ℕ
starts a y = cond (dispatches a) (due (moved a y)) None

-- The schedule after a move and its dispatch.
abbrev pub after_move : Move → Schedule → Schedule
after_move a y = started (starts a y) (moved a y)
