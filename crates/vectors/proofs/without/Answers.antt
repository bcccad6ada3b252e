use Rattle.vectors.proofs.Vectors.{code_without, without_less}
use Rattle.vectors.proofs.without.Goals as goal

pub returns-then-t-lt64-clause-after : goal.returns-then-t-lt64-clause-after
returns-then-t-lt64-clause-after c = code_without c.args.v c.args.t c.if-t-lt64.true

pub returns-then-t-lt64-clause-less : goal.returns-then-t-lt64-clause-less
returns-then-t-lt64-clause-less c = without_less c.args.v c.args.t
