use Rattle.std.proofs.Common.{◌≡◌, ◌<◌, ℕ, ◌≤◌, List, length, reverse, None, Some, sym, subst, arith}
use Rattle.std.proofs.lemmas.List.{length-reverse}
use Rattle.machine.specs.Schedules.{holder}
use Rattle.kernel.specs.declared.held_lock.HeldLock.{HeldLock}
use Rattle.kernel.specs.Lists.{entries, IsHeldList}
use Rattle.kernel.proofs.Lists.{held_room, locked_more, newest_of}
use Rattle.kernel.proofs.state.HeldList.push.Goals as goal

pub push-requires : goal.push-requires
push-requires c =
    let xs : List HeldLock = reverse c.self.inside.locks.items in
    let free : holder (entries xs) c.args.lock.resource ≡ None = subst (λ ys. holder (entries ys) c.args.lock.resource ≡ None) (sym c.self.view_is) c.requires.free in
    let room : length xs < 32 = held_room c.self.inside.taken xs c.args.lock.resource c.self.invariant c.requires.small free in
    (omega (arith, length-reverse c.self.inside.locks.items), omega (arith, length-reverse c.self.inside.locks.items))

pub invariant_of-self : goal.invariant_of-self
invariant_of-self c =
    let xs : List HeldLock = reverse c.self.inside.locks.items in
    let free : holder (entries xs) c.args.lock.resource ≡ None = subst (λ ys. holder (entries ys) c.args.lock.resource ≡ None) (sym c.self.view_is) c.requires.free in
    let above : (r k : ℕ) → holder (entries xs) r ≡ Some k → k ≤ c.args.lock.holder = subst (λ ys. (r k : ℕ) → holder (entries ys) r ≡ Some k → k ≤ c.args.lock.holder) (sym c.self.view_is) c.requires.above in
    subst (IsHeldList c.with-self-inside.result) (sym (newest_of c.push.new.self.items c.self.inside.locks.items c.args.lock c.push.ensures.items)) (locked_more c.self.inside.taken c.with-self-inside.result c.args.lock xs c.requires.small free above c.with-self-inside.ensures.after c.self.invariant)
