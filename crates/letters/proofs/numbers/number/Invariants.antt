use Rattle.std.proofs.Common.{◌≡◌, ◌+◌, ◌-◌, ◌^◌, ◌<◌, ◌≤◌, length}
use Rattle.letters.specs.Tokens.{digits}
use Rattle.letters.proofs.numbers.number.Given as goal

abbrev pub invariant-loop-rest : goal.invariant-loop-rest
invariant-loop-rest l = (l.count ≤ 9) × (l.value < 10 ^ l.count) × (digits l.count l.value l.rest ≡ digits 1 (l.digit - 48) l.text) × (l.count + length l.rest ≡ 1 + length l.text) × (0 < l.count)

abbrev pub decreases-loop-rest : goal.decreases-loop-rest
decreases-loop-rest l = length l.rest
