use Rattle.std.proofs.Common.{ap, ◌∙◌, rules, ◌≡◌, None, Some, ℕ, Bool, Option, false}
use Rattle.std.specs.Option.{MatchOption}
use Rattle.vectors.specs.Vectors.{in_vector, strays}
use Rattle.machine.specs.Refusals.{registered_of, stray}
use Rattle.kernel.proofs.state.Core.any_unregistered.Goals as goal

by_cases : (v : Option ℕ) (b : Bool) (f g : ℕ → Bool) → f ≡ g → MatchOption v (b ≡ false) (λ w. b ≡ strays w f) → b ≡ stray v g
by_cases None b f g e h = h
by_cases (Some w) b f g e h = h ∙ ap (strays w) e

pub returns : goal.returns
returns c = by_cases c.args.v c.is_some_and.result (in_vector c.registered-registered.result) (registered_of c.args.self.now.plan c.args.e) c.registered-registered.ensures (search rules)
