use Rattle.std.proofs.Common.{◌≡◌, ℕ, ◌≤◌, false, List, length, reverse, sym, subst, arith}
use Rattle.std.proofs.lemmas.List.{length-reverse}
use Rattle.plan.specs.Plans.{reaches}
use Rattle.machine.specs.Schedules.{head}
use Rattle.laws.proofs.Lists.{over_chain}
use Rattle.kernel.specs.Lists.{IsChain}
use Rattle.kernel.proofs.Lists.{chain_room, chain_push, newest_of}
use Rattle.kernel.proofs.state.Chain.push.Goals as goal

pub push-requires : goal.push-requires
push-requires c =
    let xs : List ℕ = reverse c.self.inside.tasks.items in
    let above : reaches (head xs) c.args.w ≡ false = subst (λ ys. reaches (head ys) c.args.w ≡ false) (sym c.self.view_is) c.requires.above in
    let room : length xs ≤ c.args.w = chain_room xs c.args.w c.self.invariant.falling (over_chain xs c.self.invariant.falling c.args.w above) in
    (omega (arith, length-reverse c.self.inside.tasks.items, c.requires.small), omega (arith, length-reverse c.self.inside.tasks.items, c.requires.small))

pub invariant_of-self : goal.invariant_of-self
invariant_of-self c =
    let xs : List ℕ = reverse c.self.inside.tasks.items in
    let above : reaches (head xs) c.args.w ≡ false = subst (λ ys. reaches (head ys) c.args.w ≡ false) (sym c.self.view_is) c.requires.above in
    subst (IsChain c.with-self-inside.result) (sym (newest_of c.push.new.self.items c.self.inside.tasks.items c.args.w c.push.ensures.items)) (chain_push c.self.inside.started c.with-self-inside.result c.args.w xs c.requires.small above c.with-self-inside.ensures.after c.self.invariant)
