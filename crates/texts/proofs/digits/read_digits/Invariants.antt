use Rattle.std.proofs.Common.{◌≡◌, true, take}
use Rattle.std.specs.Str.Parse.{digits_value}
use Rattle.texts.specs.Digits.{all_digits}
use Rattle.texts.proofs.digits.read_digits.Given as goal

-- The value kept is that of the digits so far.
abbrev pub invariant-loop-b : goal.invariant-loop-b
invariant-loop-b l = (all_digits l.radix (take l.b-index l.field) ≡ true) × (l.value ≡ digits_value l.radix (take l.b-index l.field))
