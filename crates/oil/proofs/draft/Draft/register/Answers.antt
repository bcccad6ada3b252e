use Rattle.std.proofs.Common.{◌<◌, sym, subst}
use Rattle.oil.specs.Sketch.{Sketch}
use Rattle.oil.proofs.Keeps.{kept_registered}
use Rattle.oil.proofs.draft.Draft.register.Goals as goal

-- As for add_user, with the other row: one lemma for both would take its row and its lemma, and be no shorter.
pub invariant_of-result : goal.invariant_of-result
invariant_of-result c =
    let low = subst (λ (d : Sketch). c.args.event < d.events) (sym c.self.view_is) c.requires in
    rw c.add-registered.ensures (kept_registered c.self.invariant c.args.event low)
