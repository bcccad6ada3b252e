use Rattle.std.proofs.Common.{◌≡◌, drop}
use Rattle.grammar.specs.Slots.{followed}
use Rattle.grammar.proofs.slot.follow.Given as goal

abbrev pub invariant-loop-slot : goal.invariant-loop-slot
invariant-loop-slot l = followed l.text (drop l.slot-index l.slots) l.at ≡ followed l.text l.slots l.pos
