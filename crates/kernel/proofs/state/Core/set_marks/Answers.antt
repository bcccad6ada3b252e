use Rattle.std.proofs.Common.{refl, ap, ◌∙◌, rules}
use Rattle.vectors.specs.Vectors.{in_vector}
use Rattle.kernel.specs.Parts.{marks_in}
use Rattle.kernel.specs.Changes.{marked_too}
use Rattle.kernel.proofs.Marking.{marks_set}
use Rattle.kernel.proofs.state.Core.set_marks.Goals as goal

-- Only the marks need more than the check finds, but the contract is one definition, of which no part can be answered alone.
pub returns : goal.returns
returns c =
    let s = c.args.self.now in
    record {
      plan = refl;
      chain = refl;
      held = refl;
      marks = marks_set s.marks c.from.result c.args.v (search rules) ∙ ap (λ e. marked_too e (in_vector c.args.v) (marks_in s)) c.from.ensures;
    }
