use Rattle.std.proofs.Common.{arith}
use Rattle.vectors.proofs.Bits.{switch_off}
use Rattle.sets.proofs.bits.switched_off.Goals as goal

pub returns-clause-bits : goal.returns-clause-bits
returns-clause-bits c j = switch_off 8 c.args.x c.args.k j (omega arith) c.requires
