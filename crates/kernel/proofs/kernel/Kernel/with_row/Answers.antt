use Rattle.std.proofs.Common.{◌<◌, sym, ap, ◌∙◌, arith}
use Rattle.vectors.specs.Vectors.{in_vector, with}
use Rattle.std.proofs.lemmas.Bool.{lt-ltb, cond-true}
use Rattle.kernel.proofs.Joining.{below_put, below_skip}
use Rattle.kernel.proofs.kernel.Kernel.with_row.Goals as goal
use Rattle.kernel.proofs.kernel.Kernel.with_row.Goals.{then-has, else-has}

pub loop-t-preserved : goal.loop-t-preserved
loop-t-preserved g c =
    let m = g.R.WaitingSet.holds c.args.self.now.set in
    let t = c.loop-t.t in
    let small : t < 64 = omega (arith, c.requires.row) in
    elim c.if-has.branch [
      | then-has w ↦ ap in_vector w.members-is ∙ w.with-members.ensures.after ∙ cond-true _ _ _ (lt-ltb t 64 small) ∙ ap (with t) c.loop-t.invariant ∙ below_put t m (sym c.has.ensures ∙ w.if-has.true)
      | else-has w ↦ ap in_vector w.members-is ∙ c.loop-t.invariant ∙ below_skip t m (sym c.has.ensures ∙ w.if-has.false)
    ]
