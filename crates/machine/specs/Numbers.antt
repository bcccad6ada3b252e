-- The numbers of the refusals.
use Rattle.std.specs.Prelude.{ℕ}
use Rattle.machine.specs.declared.Refusal.{Refusal}
use Rattle.machine.specs.declared.Refusal.TheVariants.{SetTooSmall, SetNotEmpty, AlreadyInstalled, NoTaskDeclared, ForeignTask, NoTaskRuns, NotDeclared, NotEntitled, AlreadyHeld, NotHolder, LaterLockHeld, StillHolding}

abbrev pub refusal_number : Refusal → ℕ
refusal_number SetTooSmall = 10
refusal_number SetNotEmpty = 11
refusal_number AlreadyInstalled = 12
refusal_number NoTaskDeclared = 13
refusal_number ForeignTask = 14
refusal_number NoTaskRuns = 15
refusal_number NotDeclared = 16
refusal_number NotEntitled = 17
refusal_number AlreadyHeld = 18
refusal_number NotHolder = 19
refusal_number LaterLockHeld = 20
refusal_number StillHolding = 21
