-- How a core changes: one record for each kind of change, saying what is new and what stays.
use Rattle.std.specs.Prelude.{◌≡◌, ℕ, Bool, false, not, ◌&&◌, List, [], Some, None, Option}
use Rattle.plan.specs.declared.record.Plan.{Plan}
use Rattle.plan.specs.Plans.{reaches}
use Rattle.machine.specs.Moves.{set, only, take, for}
use Rattle.machine.specs.Schedules.{head, system_ceiling}
use Rattle.machine.specs.Machine.{marked}
use Rattle.kernel.specs.declared.state.Core.{Core}
use Rattle.kernel.specs.Parts.{marks_in}
use Rattle.kernel.specs.Lists.{entries}

-- Task w may start: a plan is installed, and w exceeds the running task and the system ceiling.
abbrev pub may_start : Option Plan → List ℕ → List (ℕ × ℕ) → ℕ → Bool
may_start None chain held w = false
may_start (Some p) chain held w = not (reaches (head chain) w) && not (reaches (system_ceiling p held) w)

-- The marks with those for event e of the tasks in v.
abbrev pub marked_too : ℕ → (ℕ → Bool) → (ℕ → ℕ → Bool) → ℕ → ℕ → Bool
marked_too e v m = marked (set (for e v)) None m

-- The marks without that for event e of task t.
abbrev pub unmarked : ℕ → ℕ → (ℕ → ℕ → Bool) → ℕ → ℕ → Bool
unmarked e t m = marked (take e) (Some t) m

-- No marks at all.
abbrev pub unmarked_all : (ℕ → ℕ → Bool) → ℕ → ℕ → Bool
unmarked_all m = marked (only (λ e t. false)) None m

-- A core with nothing in it.
pub record Blank (b : Core) : Type 0 where
  pub plan : b.plan ≡ None
  pub chain : b.chain ≡ []
  pub held : b.held ≡ []
  pub marks : marks_in b ≡ (λ e t. false)

-- The core a with the plan p, and no mark.
pub record Fitted (a b : Core) (p : Plan) : Type 0 where
  pub plan : b.plan ≡ Some p
  pub chain : b.chain ≡ a.chain
  pub held : b.held ≡ a.held
  pub marks : marks_in b ≡ unmarked_all (marks_in a)

-- The core a with another chain.
pub record Rechained (a b : Core) (next : List ℕ) : Type 0 where
  pub plan : b.plan ≡ a.plan
  pub chain : b.chain ≡ next
  pub held : b.held ≡ a.held
  pub marks : marks_in b ≡ marks_in a

-- The core a with another held list.
pub record Reheld (a b : Core) (next : List (ℕ × ℕ)) : Type 0 where
  pub plan : b.plan ≡ a.plan
  pub chain : b.chain ≡ a.chain
  pub held : entries b.held ≡ next
  pub marks : marks_in b ≡ marks_in a

-- The core a with other marks.
pub record Remarked (a b : Core) (next : ℕ → ℕ → Bool) : Type 0 where
  pub plan : b.plan ≡ a.plan
  pub chain : b.chain ≡ a.chain
  pub held : b.held ≡ a.held
  pub marks : marks_in b ≡ next
