-- An input that is read part by part.
use Rattle.std.specs.Prelude.{◌≡◌, ℕ, List, ◌++◌, vec_items, Result}
use Rattle.plan.specs.declared.record.Plan.{Plan}
use Rattle.oil.specs.declared.fault.PlanFault.{PlanFault}
use Rattle.transcripts.specs.declared.input.Input.{Input}
use Rattle.transcripts.specs.Outputs.{output_for}

-- The bytes so far.
abbrev pub bytes_of : Input → List ℕ
bytes_of i = vec_items i.bytes

-- The input has every record that counts: whatever follows, the output is the same, for every plan text.
abbrev pub Enough : List ℕ → Type 0
Enough input = (x : Result Plan PlanFault) (more : List ℕ) → output_for x (input ++ more) ≡ output_for x input
