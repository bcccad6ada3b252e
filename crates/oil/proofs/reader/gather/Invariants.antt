use Rattle.std.proofs.Common.{◌-◌, length}
use Rattle.oil.specs.Reading.{read_all}
use Rattle.oil.specs.Records.{left_after}
use Rattle.oil.proofs.Runs.{Going}
use Rattle.oil.proofs.reader.gather.Given as goal

abbrev pub invariant-loop-step : goal.invariant-loop-step
invariant-loop-step l = Going l.text (read_all l.text) (left_after l.text l.initial.names) l.names l.draft l.state l.pos

abbrev pub decreases-loop-step : goal.decreases-loop-step
decreases-loop-step l = length l.text - l.pos
