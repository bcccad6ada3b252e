use Rattle.std.proofs.Common.{◌≡◌, ◌≤◌, length, take, vec_items}
use Rattle.machine.specs.Machine.{run, answers}
use Rattle.kernel.specs.Meaning.{meaning}
use Rattle.runs.proofs.lists.run.Given as goal

abbrev pub invariant-loop-call : goal.invariant-loop-call
invariant-loop-call g l =
    let m = g.R.WaitingSet in
    (l.call-index ≤ length l.calls)
    × (meaning m.room m.holds l.kernel ≡ run (take l.call-index l.calls) (meaning m.room m.holds l.initial.kernel))
    × (vec_items l.answers ≡ answers (take l.call-index l.calls) (meaning m.room m.holds l.initial.kernel))
