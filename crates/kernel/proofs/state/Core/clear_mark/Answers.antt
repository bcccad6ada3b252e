use Rattle.std.proofs.Common.{refl, ap, ◌∙◌, rules}
use Rattle.kernel.specs.Parts.{marks_in}
use Rattle.kernel.specs.Changes.{unmarked}
use Rattle.kernel.proofs.Marking.{marks_clear}
use Rattle.kernel.proofs.state.Core.clear_mark.Goals as goal

-- Only the marks need more than the check finds, but the contract is one definition, of which no part can be answered alone.
pub returns : goal.returns
returns c =
    let s = c.args.self.now in
    record {
      plan = refl;
      chain = refl;
      held = refl;
      marks = marks_clear s.marks c.from.result c.args.t c.without.result (search rules) c.without.ensures.after ∙ ap (λ e. unmarked e c.args.t (marks_in s)) c.from.ensures;
    }
