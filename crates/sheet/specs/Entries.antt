-- The entries of a plan's blocking table, in the order of the sheet: by resource, then lower task, then higher.
use Rattle.std.specs.Prelude.{ℕ, zero, suc, cond, List, [], ◌∷◌, ◌++◌}
use Rattle.plan.specs.declared.record.Plan.{Plan}
use Rattle.plan.specs.Plans.{may_hold_up}
use Rattle.plan.specs.declared.entry.Entry.{Entry}

-- The lists f 0, f 1, and so on up to f (n - 1), one after the other.
abbrev pub in_turn : {A : Type 0} → (ℕ → List A) → ℕ → List A
in_turn f zero = []
in_turn f (suc n) = in_turn f n ++ f n

-- The entry of three numbers, where the table has it.
abbrev pub entry_if : Plan → ℕ → ℕ → ℕ → List Entry
entry_if p r l t = cond (may_hold_up p l t r) (record { low = l; high = t; resource = r } ∷ []) []

-- The entries over resource r in which task l is the lower one.
unfoldable pub entries_between : Plan → ℕ → ℕ → List Entry
entries_between p r l = in_turn (entry_if p r l) 64

-- The entries over resource r.
unfoldable pub entries_over : Plan → ℕ → List Entry
entries_over p r = in_turn (entries_between p r) 64

-- All entries.
unfoldable pub entries_of : Plan → List Entry
entries_of p = in_turn (entries_over p) p.resources
