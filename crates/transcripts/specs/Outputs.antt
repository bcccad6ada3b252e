-- The whole output for a plan text and an input.
use Rattle.std.specs.Prelude.{◌≡◌, ℕ, List, ◌++◌, Ok, Err, Result}
use Rattle.vectors.specs.Vectors.{in_vector}
use Rattle.plan.specs.declared.record.Plan.{Plan}
use Rattle.machine.specs.declared.Call.TheVariants.{Install}
use Rattle.machine.specs.Machine.{Machine, fresh, step}
use Rattle.oil.specs.declared.fault.PlanFault.{PlanFault}
use Rattle.oil.specs.Faults.{number_of}
use Rattle.oil.specs.Meaning.{Means, SamePlan}
use Rattle.oil.specs.Outcome.{outcome}
use Rattle.texts.specs.Lines.{header, fault_line}
use Rattle.transcripts.specs.Lines.{lines_of}

-- What a plan text comes to, with a name table of 128 records: the one plan that it means, or its first fault.
abbrev pub ReadAs : List ℕ → Result Plan PlanFault → Type 0
ReadAs text (Ok p) = (outcome text 128 ≡ Ok tt) × Means text p × ((q : Plan) → Means text q → SamePlan q p)
ReadAs text (Err f) = outcome text 128 ≡ Err f

-- The machine of a new kernel over an empty waiting set of size 64, to which the plan was offered.
abbrev pub begun : Plan → Machine
begun p = step (Install p) (fresh 64 (in_vector 0))

-- What follows the header: a line for each record, or the line of the fault.
abbrev pub body_for : Result Plan PlanFault → List ℕ → List ℕ
body_for (Ok p) input = lines_of (begun p) input
body_for (Err f) input = fault_line (number_of f.cause) f.place

-- The output for what a plan text came to.
abbrev pub output_for : Result Plan PlanFault → List ℕ → List ℕ
output_for x input = header ++ body_for x input
