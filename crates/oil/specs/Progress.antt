-- How far the reading of a text is.
use Rattle.std.specs.Prelude.{ℕ}
use Rattle.grammar.specs.declared.item.State.{State}
use Rattle.oil.specs.declared.draft.Draft.{Draft}

-- A text that is read to its end, or how to go on.
pub data Progress : Type 0 where
  Done : Draft → Progress
  More : Draft → State → ℕ → Progress
