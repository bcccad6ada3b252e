use Rattle.oil.proofs.Keeps.{kept_priority}
use Rattle.oil.proofs.draft.Draft.prioritize.Goals as goal

pub invariant_of-result : goal.invariant_of-result
invariant_of-result c = rw c.alone-current.ensures (kept_priority c.self.invariant _)
