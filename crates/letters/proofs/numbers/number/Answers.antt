use Rattle.std.proofs.Common.{arith}
use Rattle.letters.proofs.Heads.{tens_small}
use Rattle.letters.proofs.numbers.number.Goals as goal

pub overflow_mul-value : goal.overflow_mul-value
overflow_mul-value c = omega (arith, tens_small c.loop-rest.value c.loop-rest.count c.loop-rest.invariant.1 (omega arith))

pub overflow_add-value : goal.overflow_add-value
overflow_add-value c = omega (arith, tens_small c.loop-rest.value c.loop-rest.count c.loop-rest.invariant.1 (omega arith), c.if-is_ascii_digit.ensures.cases)
