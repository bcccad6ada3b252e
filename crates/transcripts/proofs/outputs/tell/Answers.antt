use Rattle.std.proofs.Common.{ℕ, Ok, ◌∙◌, subst, ap₂}
use Rattle.std.proofs.lemmas.Result.{err_from_is_err_and}
use Rattle.machine.specs.Machine.{Machine, step, fresh}
use Rattle.machine.specs.declared.Call.TheVariants.{Install}
use Rattle.vectors.specs.Vectors.{in_vector}
use Rattle.texts.specs.Lines.{header}
use Rattle.transcripts.specs.Lines.{Grown, lines_of}
use Rattle.transcripts.specs.Outputs.{body_for}
use Rattle.transcripts.proofs.Growth.{grown_then, refused_first}
use Rattle.transcripts.proofs.outputs.tell.Goals as goal

pub returns-in_err-push_header : goal.returns-in_err-push_header
returns-in_err-push_header c =
    let p = err_from_is_err_and c.from_residual.result c.from_residual.ensures.1 in
    (c.read_plan-read.result, c.read_plan-read.ensures, refused_first c.args.out header (body_for c.read_plan-read.result c.args.input.now) c.from_residual.result p.0 p.1 c.in_err-push_header.ensures.1)

pub returns-in-Ok : goal.returns-in-Ok
returns-in-Ok c =
    let p = c.in-Ok.plan in
    let input = c.args.input.now in
    let there = c.started.ensures ∙ ap₂ (λ (n w : ℕ). step (Install p) (fresh n (in_vector w))) c.new.ensures.size c.new.ensures.empty in
    let lines = subst (λ (m : Machine). Grown c.push_header.new.out (lines_of m input) c.transcribe.result) there c.transcribe.ensures in
    (Ok p, c.in-Ok.ensures, grown_then c.args.out c.push_header.new.out header (body_for (Ok p) input) c.transcribe.result c.in_ok-push_header.ensures lines)
