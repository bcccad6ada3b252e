-- What the chain and the held list of a kernel keep, with the newest entry first. The structs cite this file.
use Rattle.std.specs.Prelude.{◌≡◌, ℕ, ◌<◌, Bool, true, ◌&&◌, List, [], ◌∷◌, Some, Option}
use Rattle.vectors.specs.Vectors.{in_vector}
use Rattle.plan.specs.declared.record.Plan.{Plan}
use Rattle.machine.specs.Schedules.{among, holder, system_ceiling_under}
use Rattle.machine.specs.Refusals.{present, same}
use Rattle.machine.specs.Shapes.{Falling, Single, Nested}
use Rattle.kernel.specs.declared.held_lock.HeldLock.{HeldLock}

-- The chain falls, its tasks are below 64, and they are those of the vector v.
pub record IsChain (v : ℕ) (xs : List ℕ) : Type 0 where
  pub falling : Falling xs
  pub small : (t : ℕ) → among xs t ≡ true → t < 64
  pub noted : (t : ℕ) → in_vector v t ≡ among xs t

-- The resources and holders of the locks.
abbrev pub entries : List HeldLock → List (ℕ × ℕ)
entries [] = []
entries (l ∷ ls) = (l.resource, l.holder) ∷ entries ls

-- The resource r is held.
abbrev pub is_held : List HeldLock → ℕ → Bool
is_held ls r = present (holder (entries ls) r)

-- No resource is held twice, all are below 32, no newer holder is below an older one, and the held resources are those of
-- the vector v.
pub record IsHeldList (v : ℕ) (ls : List HeldLock) : Type 0 where
  pub single : Single (entries ls)
  pub nested : Nested (entries ls)
  pub small : (r k : ℕ) → holder (entries ls) r ≡ Some k → r < 32
  pub noted : (r : ℕ) → in_vector v r ≡ is_held ls r

-- The holders have started.
abbrev pub Placed : List ℕ → List HeldLock → Type 0
Placed chain ls = (r k : ℕ) → holder (entries ls) r ≡ Some k → among chain k ≡ true

-- Each lock keeps the system ceiling that it led to.
abbrev pub keeps_levels : Option Plan → List HeldLock → Bool
keeps_levels p [] = true
keeps_levels p (l ∷ ls) = same l.level (system_ceiling_under p (entries (l ∷ ls))) && keeps_levels p ls
