-- The bytes of a whole sheet.
use Rattle.std.specs.Prelude.{ℕ, List, ◌++◌, Ok, Err, Result}
use Rattle.plan.specs.declared.record.Plan.{Plan}
use Rattle.oil.specs.declared.fault.PlanFault.{PlanFault}
use Rattle.oil.specs.Faults.{number_of}
use Rattle.texts.specs.Sheets.{sheet_header, sheet_fault}
use Rattle.sheet.specs.Entries.{entries_of}
use Rattle.sheet.specs.Lines.{sheet_lines}

-- What follows the header: the lines of every entry of the plan's table, or the line of the fault.
abbrev pub body_for : Result Plan PlanFault → List ℕ
body_for (Ok p) = sheet_lines p (entries_of p)
body_for (Err f) = sheet_fault (number_of f.cause) f.place

-- The sheet for what a plan text came to.
abbrev pub sheet_for : Result Plan PlanFault → List ℕ
sheet_for x = sheet_header ++ body_for x
