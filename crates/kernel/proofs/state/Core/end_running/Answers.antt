use Rattle.std.proofs.Common.{ap, ◌∙◌}
use Rattle.machine.specs.Schedules.{among}
use Rattle.kernel.proofs.Lists.{placed_tail}
use Rattle.kernel.proofs.state.Core.end_running.Goals as goal

pub invariant_of-self-clause-placed : goal.invariant_of-self-clause-placed
invariant_of-self-clause-placed c = let s = c.args.self.now in λ r k e. ap (λ xs. among xs k) c.pop.ensures ∙ placed_tail s.chain s.held c.requires s.placed r k e
