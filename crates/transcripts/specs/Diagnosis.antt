-- The line that tells where a plan text is wrong, and how.
use Rattle.std.specs.Prelude.{ℕ, List, ◌++◌, codes, decimal}
use Rattle.oil.specs.declared.fault.PlanFault.{PlanFault}
use Rattle.oil.specs.Faults.{explanation}
use Rattle.oil.specs.Positions.{position}

-- File, line and column of the fault's place, and what was wrong.
abbrev pub diagnosis : List ℕ → PlanFault → List ℕ
diagnosis text f = codes "plan.oil:" ++ (decimal (position text f.place).line ++ (codes ":" ++ (decimal (position text f.place).column ++ (codes ": " ++ explanation f.cause))))
