-- Tasks that wait or have started: what a history calls unfinished.
use Rattle.std.proofs.Common.{ℕ, Bool, false, ◌||◌, Some, None, Option}
use Rattle.plan.specs.declared.record.Plan.{Plan}
use Rattle.machine.specs.Schedules.{Schedule, among}

-- t waits or has started
abbrev pub busy : Schedule → ℕ → Bool
busy y t = y.waiting t || among y.chain t

-- the same, where a plan is installed
abbrev pub busy_under : Option Plan → Schedule → ℕ → Bool
busy_under None y t = false
busy_under (Some p) y t = busy y t
