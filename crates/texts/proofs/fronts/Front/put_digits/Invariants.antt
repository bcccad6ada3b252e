use Rattle.std.proofs.Common.{◌≡◌, ◌+◌, ◌-◌, ◌≤◌, ◌++◌, drop}
use Rattle.texts.specs.Fronts.{text_of, hex}
use Rattle.texts.proofs.fronts.Front.put_digits.Given as goal

-- The digits of what is left, and then the text so far, are the whole text.
abbrev pub invariant-loop-place : goal.invariant-loop-place
invariant-loop-place l =
    (l._place ≤ l.count) × (hex (l.count - l._place) l.left ++ drop l.at l.self.bytes ≡ hex l.count l.v ++ text_of l.initial.self) × (l.initial.self.start ≡ l.at + l._place)
