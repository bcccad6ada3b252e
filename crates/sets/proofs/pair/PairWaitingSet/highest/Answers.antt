use Rattle.std.proofs.Common.{◌+◌, Some, sym, ap, ◌∙◌, arith}
use Rattle.vectors.proofs.Vectors.{highest_tells}
use Rattle.sets.proofs.Pairing.{joint, highest_second, highest_first}
use Rattle.sets.proofs.pair.PairWaitingSet.highest.Goals as goal

pub overflow_add-result : goal.overflow_add-result
overflow_add-result g c =
    let s = c.args.self.now in
    let j = joint (g.A.WaitingSet.room s.first) (g.B.WaitingSet.room s.second) _ c.in-Some.ensures in
    let t = highest_tells (g.B.WaitingSet.room s.second) c.in-Some-highest.x (g.B.WaitingSet.holds s.second) (sym c.in-Some-highest.ensures) in
    omega (arith, t.0, j.0, j.1)

pub returns-in-Some-highest : goal.returns-in-Some-highest
returns-in-Some-highest g c =
    let s = c.args.self.now in
    let j = joint (g.A.WaitingSet.room s.first) (g.B.WaitingSet.room s.second) _ c.in-Some.ensures in
    ap (λ n. Some (n + c.in-Some-highest.x)) j.1
    ∙ sym (highest_second _ _ (g.A.WaitingSet.holds s.first) (g.B.WaitingSet.holds s.second) j.0 c.in-Some-highest.x (sym c.in-Some-highest.ensures))

pub returns-in-None : goal.returns-in-None
returns-in-None g c =
    let s = c.args.self.now in
    let j = joint (g.A.WaitingSet.room s.first) (g.B.WaitingSet.room s.second) _ c.in-Some.ensures in
    c.highest-in-None.ensures ∙ sym (highest_first _ _ (g.A.WaitingSet.holds s.first) (g.B.WaitingSet.holds s.second) j.0 (sym c.in-None.ensures))
