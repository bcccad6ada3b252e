use Rattle.std.proofs.Common.{sym, ◌∙◌}
use Rattle.laws.proofs.Lists.{top}
use Rattle.kernel.proofs.state.Core.lock.Goals as goal

pub push-requires-clause-above : goal.push-requires-clause-above
push-requires-clause-above c = let s = c.args.self.now in λ r k e. top s.chain c.running.ensures.falling c.in-Some.holder k (sym c.running.ensures.value ∙ c.in-Some.is) (s.placed r k e)
