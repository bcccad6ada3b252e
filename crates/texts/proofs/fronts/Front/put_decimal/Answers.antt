use Rattle.std.proofs.Common.{arith}
use Rattle.texts.proofs.Fronted.{length_decimal}
use Rattle.texts.proofs.fronts.Front.put_decimal.Goals as goal

pub write_digits-self-requires : goal.write_digits-self-requires
write_digits-self-requires c = (omega (arith, length_decimal c.args.n (omega arith)), omega arith)
