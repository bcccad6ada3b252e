-- An input that has every record that counts.
use Rattle.std.proofs.Common.{◌≡◌, ℕ, ◌≤◌, List, ◌++◌, Ok, Err, Result, refl, ap}
use Rattle.plan.specs.declared.record.Plan.{Plan}
use Rattle.oil.specs.declared.fault.PlanFault.{PlanFault}
use Rattle.texts.specs.Lines.{header}
use Rattle.texts.specs.Records.{feeds}
use Rattle.texts.proofs.Settled.{settled}
use Rattle.transcripts.specs.Lines.{lines_from}
use Rattle.transcripts.specs.Outputs.{begun, body_for}
use Rattle.transcripts.specs.Inputs.{Enough}

body_same : (input : List ℕ) → 1000000 ≤ feeds input → (x : Result Plan PlanFault) (more : List ℕ) → body_for x (input ++ more) ≡ body_for x input
body_same input ends (Ok p) more = ap (lines_from 0 (begun p)) (settled input 1000000 ends more)
body_same input ends (Err f) more = refl

pub enough : (input : List ℕ) → 1000000 ≤ feeds input → Enough input
enough input ends x more = ap (λ l. header ++ l) (body_same input ends x more)
