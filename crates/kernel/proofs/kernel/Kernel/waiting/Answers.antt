use Rattle.std.proofs.Common.{◌≡◌, ℕ, ◌*◌, ap, ◌∙◌, arith}
use Rattle.vectors.specs.Vectors.{in_vector}
use Rattle.vectors.proofs.Vectors.{vector_tells}
use Rattle.kernel.specs.Parts.{below}
use Rattle.kernel.proofs.Joining.{below_all}
use Rattle.kernel.proofs.kernel.Kernel.waiting.Goals as goal

pub returns : goal.returns
returns g c =
    let s = c.args.self.now.set in
    let m = g.R.WaitingSet.holds s in
    let whole : c.loop-row.row ≡ 8 = omega (arith, c.loop-row-test) in
    let all : in_vector c.loop-row.members ≡ m = c.loop-row.invariant.1 ∙ ap (λ (n : ℕ). below (8 * n) m) whole ∙ below_all (g.R.WaitingSet.room s) m (g.met.R.WaitingSet.small s) (g.met.R.WaitingSet.inside s) in
    vector_tells c.loop-row.members m c.loop-row.invariant.0 all
