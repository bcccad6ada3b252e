use Rattle.std.proofs.Common.{arith}
use Rattle.std.proofs.lemmas.Result.{err_from_is_err_and}
use Rattle.kernel.specs.Meaning.{meaning}
use Rattle.transcripts.proofs.Growth.{refused}
use Rattle.transcripts.proofs.Turns.{left_none, left_end, turn, over, no_room}
use Rattle.transcripts.proofs.runs.transcribe.Goals as goal

pub loop-count-preserved : goal.loop-count-preserved
loop-count-preserved g c =
    let m = meaning g.R.WaitingSet.room g.R.WaitingSet.holds c.loop-count.kernel in
    let wrote = c.in_ok-push_line.ensures in (
      turn 1000000 c.loop-count.count m c.loop-count.rest.now c.in-Some.text.now c.in-Some.after.now _ _ _ c.serve-report.result _ (omega arith) c.in-Some.ensures.cuts c.serve-report.ensures.after c.serve-report.ensures.value wrote.0 c.loop-count.invariant.0,
      omega (arith, wrote.1, c.loop-count.invariant.1),
    )

pub returns-in_default : goal.returns-in_default
returns-in_default g c =
    let m = meaning g.R.WaitingSet.room g.R.WaitingSet.holds c.loop-count.kernel in
    let n = c.loop-count.count in
    let bs = c.loop-count.rest.now in
    (over 1000000 n m bs _ _ (left_end 1000000 n m bs c.in_default.ensures.cuts) c.loop-count.invariant.0, c.loop-count.invariant.1)

pub returns-in_err-push_line : goal.returns-in_err-push_line
returns-in_err-push_line g c =
    let m = meaning g.R.WaitingSet.room g.R.WaitingSet.holds c.loop-count.kernel in
    let p = err_from_is_err_and c.from_residual.result c.from_residual.ensures.1 in
    let full = no_room 1000000 c.loop-count.count m c.loop-count.rest.now c.args.out c.loop-count.out c.in-Some.text.now c.in-Some.after.now _ c.serve-report.result (omega arith) c.in-Some.ensures.cuts c.serve-report.ensures.value c.loop-count.invariant.0 c.loop-count.invariant.1 c.in_err-push_line.ensures.1 in
    refused c.args.out _ c.from_residual.result p.0 p.1 full

pub returns : goal.returns
returns g c =
    let m = meaning g.R.WaitingSet.room g.R.WaitingSet.holds c.loop-count.kernel in
    let n = c.loop-count.count in
    let bs = c.loop-count.rest.now in
    (over 1000000 n m bs _ _ (left_none 1000000 n m bs (omega arith)) c.loop-count.invariant.0, c.loop-count.invariant.1)
