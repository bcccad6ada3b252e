use Rattle.std.proofs.Common.{◌≡◌, ℕ, None, Some, Option, refl, ap, ◌∙◌}
use Rattle.plan.specs.declared.record.Plan.{Plan}
use Rattle.machine.specs.Refusals.{registered_of, may_test}
use Rattle.kernel.proofs.state.Core.may_test.Goals as goal

registered_may : (p : Option Plan) (e t : ℕ) → registered_of p e t ≡ may_test p e (Some t)
registered_may None e t = refl
registered_may (Some p) e t = refl

pub returns : goal.returns
returns c = c.contains.ensures ∙ ap (λ f. f c.args.t) c.registered.ensures ∙ registered_may c.args.self.now.plan c.args.e c.args.t
