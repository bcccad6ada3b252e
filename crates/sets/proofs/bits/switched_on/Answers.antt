use Rattle.vectors.proofs.Bits.{switch_on}
use Rattle.sets.proofs.bits.switched_on.Goals as goal

pub returns : goal.returns
returns c j = switch_on 8 c.args.x c.args.k j c.requires
