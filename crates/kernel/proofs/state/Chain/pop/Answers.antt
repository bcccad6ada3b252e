use Rattle.kernel.specs.Lists.{IsChain}
use Rattle.kernel.proofs.Lists.{chain_pop, given_up}
use Rattle.kernel.proofs.state.Chain.pop.Goals as goal

pub invariant_of-self : goal.invariant_of-self
invariant_of-self c =
    let v = c.self.inside.started in
    chain_pop v _ c.in-Some.t _ c.without-self-inside.ensures.after (given_up (IsChain v) c.self.inside.tasks.items _ _ c.in-Some.t c.pop.ensures.items c.in-Some.is c.self.invariant)
