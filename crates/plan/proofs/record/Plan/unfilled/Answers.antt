use Rattle.std.proofs.Common.{arith}
use Rattle.plan.proofs.Zeros.{zeros, none_inside}
use Rattle.plan.proofs.record.Plan.unfilled.Goals as goal

pub invariant_of-result : goal.invariant_of-result
invariant_of-result c = record { few_resources = omega arith; few_events = omega arith; users_inside = none_inside 32 _; registered_inside = none_inside 32 _; users_end = (λ i _. zeros 32 i); registered_end = (λ i _. zeros 32 i) }
