use Rattle.std.proofs.Common.{◌≡◌, ◌-◌, ◌≤◌, ◌++◌, take, vec_items, vec_capacity}
use Rattle.kernel.specs.Meaning.{meaning}
use Rattle.texts.specs.Records.{records}
use Rattle.transcripts.specs.Lines.{lines_from, lines_of}
use Rattle.transcripts.proofs.runs.transcribe.Given as goal

-- What is written, and then the lines of what is left, are the whole output; and there is no less room than at first.
abbrev pub invariant-loop-count : goal.invariant-loop-count
invariant-loop-count g l =
    let room = g.R.WaitingSet.room in
    let holds = g.R.WaitingSet.holds in
    (vec_items l.out ++ lines_from l.count (meaning room holds l.kernel) (take (1000000 - l.count) (records l.rest)) ≡ vec_items l.initial.out ++ lines_of (meaning room holds l.initial.kernel) l.input)
    × (vec_capacity l.initial.out ≤ vec_capacity l.out)
