use Rattle.oil.proofs.Keeps.{kept_empty}
use Rattle.oil.proofs.draft.Draft.empty.Goals as goal

pub invariant_of-result : goal.invariant_of-result
invariant_of-result c = kept_empty
