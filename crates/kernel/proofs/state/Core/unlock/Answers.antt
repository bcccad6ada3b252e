use Rattle.std.proofs.Common.{◌≡◌, true, List, sym, subst}
use Rattle.kernel.specs.declared.held_lock.HeldLock.{HeldLock}
use Rattle.kernel.specs.Lists.{Placed, keeps_levels}
use Rattle.kernel.proofs.Lists.{placed_less, levels_less}
use Rattle.kernel.proofs.state.Core.unlock.Goals as goal

pub invariant_of-self-clause-placed : goal.invariant_of-self-clause-placed
invariant_of-self-clause-placed c = let s = c.args.self.now in subst (λ (ls : List HeldLock). Placed s.chain ls) (sym c.pop.ensures.after) (placed_less s.chain s.held c.pop.ensures.single s.placed)

pub invariant_of-self-clause-levels : goal.invariant_of-self-clause-levels
invariant_of-self-clause-levels c = let s = c.args.self.now in subst (λ (ls : List HeldLock). keeps_levels s.plan ls ≡ true) (sym c.pop.ensures.after) (levels_less s.plan s.held s.levels)
