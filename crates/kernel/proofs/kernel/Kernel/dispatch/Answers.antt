use Rattle.std.proofs.Common.{sym, ◌∙◌, arith}
use Rattle.vectors.proofs.Vectors.{highest_tells}
use Rattle.kernel.proofs.kernel.Kernel.dispatch.Goals as goal

pub start-requires-clause-small : goal.start-requires-clause-small
start-requires-clause-small g c =
    let s = c.args.self.now in
    let top = highest_tells (g.R.WaitingSet.room s.set) c.in-Some.w (g.R.WaitingSet.holds s.set) (sym c.highest.ensures ∙ c.in-Some.is) in
    omega (arith, top.0, g.met.R.WaitingSet.small s.set)
