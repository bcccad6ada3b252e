use Rattle.std.proofs.Common.{sym, ◌∙◌, arith}
use Rattle.texts.proofs.Numbers.{number_lt}
use Rattle.texts.proofs.digits.read_number.Goals as goal

pub map-requires : goal.map-requires
map-requires c = λ n is _ _. omega (arith, number_lt 10 3 c.args.field.now n (omega arith) (sym is ∙ c.read_digits.ensures))
