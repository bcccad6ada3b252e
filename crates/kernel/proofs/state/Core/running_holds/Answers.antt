use Rattle.std.proofs.Common.{◌≡◌, ℕ, Bool, false, List, [], ◌∷◌, Some, refl, ◌∙◌, rules}
use Rattle.std.specs.Option.{MatchOption}
use Rattle.machine.specs.Schedules.{head}
use Rattle.machine.specs.Refusals.{same, holds_some}
use Rattle.machine.specs.Shapes.{Falling, Single, Nested}
use Rattle.laws.proofs.Lists.{top}
use Rattle.kernel.specs.declared.held_lock.HeldLock.{HeldLock}
use Rattle.kernel.specs.Lists.{entries, Placed}
use Rattle.kernel.proofs.Lists.{newest_tells}
use Rattle.kernel.proofs.state.Core.running_holds.Goals as goal

tells : (chain : List ℕ) (ls : List HeldLock) (b : Bool) → Falling chain → Placed chain ls → Single (entries ls) → Nested (entries ls)
    → MatchOption (head ls) (b ≡ false) (λ l. b ≡ same (Some l.holder) (head chain)) → b ≡ holds_some (entries ls) (head chain)
tells [] [] b f p s n h = h
tells (t ∷ ts) [] b f p s n h = h
tells [] (l ∷ ls) b f p s n h = h
tells (t ∷ ts) (l ∷ ls) b f p s n h = h ∙ newest_tells (l ∷ ls) l t refl s n (λ r k e. top (t ∷ ts) f t k refl (p r k e))

pub returns : goal.returns
returns c = let s = c.args.self.now in tells s.chain s.held c.is_some_and.result c.running-running.ensures.falling s.placed c.newest.ensures.single c.newest.ensures.nested (search rules)
