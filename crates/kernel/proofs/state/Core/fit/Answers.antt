use Rattle.std.proofs.Common.{refl}
use Rattle.kernel.specs.Parts.{marks_in}
use Rattle.kernel.proofs.Marking.{marks_gone}
use Rattle.kernel.proofs.state.Core.fit.Goals as goal

-- Only the marks need more than the check finds, but the contract is one definition, of which no part can be answered alone.
pub returns : goal.returns
returns c = record { plan = refl; chain = refl; held = refl; marks = marks_gone (marks_in c.args.self.now) }
