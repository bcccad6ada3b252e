-- What the programs make of the plan text.
use Rattle.std.specs.Prelude.{◌≡◌, ◌≢◌, ℕ, List, [], Ok, Err, Some, None, IsOkAnd, vec_items, string_bytes, Option, Result, String, Vec}
use Rattle.std.specs.IoError.{error_kind}
use Rattle.std.specs.declared.io.Error.{Error}
use Rattle.std.specs.declared.io.ErrorKind.TheVariants.{OutOfMemory}
use Rattle.plan.specs.declared.record.Plan.{Plan}
use Rattle.oil.specs.declared.fault.PlanFault.{PlanFault}
use Rattle.transcripts.specs.Outputs.{ReadAs}
use Rattle.transcripts.specs.Diagnosis.{diagnosis}

-- The plan text that a read comes to: the bytes read, or none where the file could not be read; but want of memory stays an error.
abbrev pub TextOf : {Z : Type 0} → Result (Vec ℕ Z) Error → Result (Vec ℕ Z) Error → Type 0
TextOf (Ok v) x = x ≡ Ok v
TextOf (Err e) x = (error_kind e ≡ OutOfMemory → x ≡ Err e) × (error_kind e ≢ OutOfMemory → IsOkAnd x (λ v. vec_items v ≡ []))

-- What is told of a plan text: nothing where it means a plan, and the diagnosis of its first fault where it is refused.
abbrev pub Explains : {Z : Type 0} → List ℕ → Option (String Z) → Type 0
Explains text None = (p : Plan) × ReadAs text (Ok p)
Explains text (Some s) = (f : PlanFault) × ReadAs text (Err f) × (string_bytes s ≡ diagnosis text f)
