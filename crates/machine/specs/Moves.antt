-- What an accepted call does, by kinds: to the schedule one of six moves, to the marks one of four markings.
-- A new kind of call is a line in `move` and one in `marking`.
use Rattle.std.specs.Prelude.{ℕ, Bool, false, ◌&&◌, Some, None, Option, ◌==◌}
use Rattle.vectors.specs.Vectors.{in_vector}
use Rattle.plan.specs.declared.record.Plan.{Plan}
use Rattle.plan.specs.Plans.{hears}
use Rattle.machine.specs.declared.Call.{Call}
use Rattle.machine.specs.declared.Call.TheVariants.{Install, Release, Lock, Unlock, Exit, Signal, SignalRelease, Test}

-- A call leaves the schedule alone, fits a plan, releases a set of tasks, locks or unlocks a resource, or ends the running task.
pub data Move : Type 0 where
  stay : Move
  fit : Plan → Move
  release : (ℕ → Bool) → Move
  lock : ℕ → Move
  unlock : ℕ → Move
  leave : Move

-- The tasks that a signal of event e means: those of its vector; without one, every registered task.
abbrev pub meant : Plan → ℕ → Option ℕ → ℕ → Bool
meant p e None = hears p e
meant p e (Some v) = in_vector v

-- The same, and nobody where no plan is installed.
abbrev pub meant_under : Option Plan → ℕ → Option ℕ → ℕ → Bool
meant_under None e v = λ t. false
meant_under (Some p) e v = meant p e v

-- The move of a call, under the installed plan.
abbrev pub move : Option Plan → Call → Move
move p (Install q) = fit q
move p (Release v) = release (in_vector v)
move p (Lock r) = lock r
move p (Unlock r) = unlock r
move p Exit = leave
move p (Signal e v) = stay
move p (SignalRelease e v) = release (meant_under p e v)
move p (Test e) = stay

-- A call keeps the marks, sets some, keeps only some, or takes the running task's mark for an event: tells it and clears it.
pub data Marking : Type 0 where
  keep : Marking
  set : (ℕ → ℕ → Bool) → Marking
  only : (ℕ → ℕ → Bool) → Marking
  take : ℕ → Marking

-- The marks for event s of the tasks in v.
abbrev pub for : ℕ → (ℕ → Bool) → ℕ → ℕ → Bool
for s v e t = e == s && v t

-- The marking of a call, under the installed plan.
abbrev pub marking : Option Plan → Call → Marking
marking p (Install q) = only (λ e t. false)
marking p (Release v) = keep
marking p (Lock r) = keep
marking p (Unlock r) = keep
marking p Exit = keep
marking p (Signal e v) = set (for e (meant_under p e v))
marking p (SignalRelease e v) = set (for e (meant_under p e v))
marking p (Test e) = take e
