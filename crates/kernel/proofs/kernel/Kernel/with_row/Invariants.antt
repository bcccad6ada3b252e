use Rattle.std.proofs.Common.{◌≡◌}
use Rattle.vectors.specs.Vectors.{in_vector}
use Rattle.kernel.specs.Parts.{below}
use Rattle.kernel.proofs.kernel.Kernel.with_row.Given as goal

-- the vector has the members below t
abbrev pub invariant-loop-t : goal.invariant-loop-t
invariant-loop-t g l = in_vector l.members ≡ below l.t (g.R.WaitingSet.holds l.self.set)
