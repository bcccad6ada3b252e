use Rattle.laws.proofs.Histories.{stays_lawful}
use Rattle.kernel.specs.Meaning.{meaning}
use Rattle.kernel.proofs.kernel.Kernel.call.Goals as goal

pub returns-clause-lawful : goal.returns-clause-lawful
returns-clause-lawful g c = stays_lawful (meaning g.R.WaitingSet.room g.R.WaitingSet.holds c.args.self.now) c.args.c.now c.act.result c.act.ensures.value
