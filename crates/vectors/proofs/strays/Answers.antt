use Rattle.std.proofs.Common.{arith}
use Rattle.vectors.proofs.Vectors.{strays_is}
use Rattle.vectors.proofs.strays.Goals as goal

pub returns : goal.returns
returns c = strays_is c.args.v c.args.w (omega arith) (omega arith)
