use Rattle.std.proofs.Common.{◌≡◌}
use Rattle.vectors.specs.Vectors.{in_vector}
use Rattle.machine.specs.Schedules.{among}
use Rattle.kernel.proofs.Joining.{joined}
use Rattle.kernel.proofs.kernel.Kernel.admit.Given as goal

-- what is left to add leads to the same set as the whole at first
abbrev pub invariant-loop-t : goal.invariant-loop-t
invariant-loop-t g l =
    let m = g.R.WaitingSet in
    let c = m.room l.initial.self.set in
    let chained = among l.initial.self.core.chain in
    (l.self.core ≡ l.initial.self.core)
    × (m.room l.self.set ≡ c)
    × (joined c (in_vector l.rest) (m.holds l.self.set) chained ≡ joined c (in_vector l.initial.rest) (m.holds l.initial.self.set) chained)

abbrev pub decreases-loop-t : goal.decreases-loop-t
decreases-loop-t g l = l.rest
