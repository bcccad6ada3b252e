use Rattle.std.proofs.Common.{◌<◌, sym, subst}
use Rattle.oil.specs.Sketch.{Sketch}
use Rattle.oil.proofs.Keeps.{kept_users}
use Rattle.oil.proofs.draft.Draft.add_user.Goals as goal

pub invariant_of-result : goal.invariant_of-result
invariant_of-result c =
    let low = subst (λ (d : Sketch). c.args.resource < d.resources) (sym c.self.view_is) c.requires in
    rw c.add-users.ensures (kept_users c.self.invariant c.args.resource low)
