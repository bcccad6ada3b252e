use Rattle.std.proofs.Common.{◌≡◌, ◌*◌, ◌^◌, ◌<◌}
use Rattle.vectors.specs.Vectors.{in_vector}
use Rattle.kernel.specs.Parts.{below}
use Rattle.kernel.proofs.kernel.Kernel.waiting.Given as goal

-- the vector has the members of the rows before; without the bound `returns` does not close
abbrev pub invariant-loop-row : goal.invariant-loop-row
invariant-loop-row g l = (l.members < 2 ^ 64) × (in_vector l.members ≡ below (8 * l.row) (g.R.WaitingSet.holds l.self.set))
