use Rattle.std.proofs.Common.{arith}
use Rattle.kernel.specs.Lists.{IsHeldList}
use Rattle.kernel.proofs.Lists.{locked_less, newest_small, given_up}
use Rattle.kernel.proofs.state.HeldList.pop.Goals as goal

pub overflow_cast-lock : goal.overflow_cast-lock
overflow_cast-lock c =
    let v = c.self.inside.taken in
    let small = newest_small v _ _ (given_up (IsHeldList v) c.self.inside.locks.items _ _ c.in-Some.lock c.pop.ensures.items c.in-Some.is c.self.invariant) in
    omega (arith, small)

pub invariant_of-self : goal.invariant_of-self
invariant_of-self c =
    let v = c.self.inside.taken in
    locked_less v _ c.in-Some.lock _ c.without-self-inside.ensures.after (given_up (IsHeldList v) c.self.inside.locks.items _ _ c.in-Some.lock c.pop.ensures.items c.in-Some.is c.self.invariant)
