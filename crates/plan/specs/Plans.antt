-- What a plan says: who is declared, who may lock what, who hears what, ceilings, and the blocking table.
use Rattle.std.specs.Prelude.{ℕ, Bool, false, ◌&&◌, Some, None, Option, nat_le, nat_lt, slice_index}
use Rattle.vectors.specs.Vectors.{in_vector, highest}
use Rattle.plan.specs.declared.record.Plan.{Plan}

-- Task t is declared.
abbrev pub declares : Plan → ℕ → Bool
declares p t = in_vector p.declared t

-- Task t is a user of resource r: it may lock r.
abbrev pub uses : Plan → ℕ → ℕ → Bool
uses p r t = in_vector (slice_index p.users r) t

-- Task t is registered for event e.
abbrev pub hears : Plan → ℕ → ℕ → Bool
hears p e t = in_vector (slice_index p.registered e) t

-- The ceiling of resource r: its highest user, if it has one.
abbrev pub ceiling : Plan → ℕ → Option ℕ
ceiling p r = highest 64 (uses p r)

-- A level is there and not below task t.
abbrev pub reaches : Option ℕ → ℕ → Bool
reaches None t = false
reaches (Some c) t = nat_le t c

-- The blocking table: task l may hold up task t over resource r exactly when t is declared, l is below t, l is a user of r and the ceiling of r is not below t.
abbrev pub may_hold_up : Plan → ℕ → ℕ → ℕ → Bool
may_hold_up p l t r = declares p t && (nat_lt l t && (uses p r l && reaches (ceiling p r) t))
