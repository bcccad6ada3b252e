-- A list of entries that is the blocking table of a plan.
use Rattle.std.specs.Prelude.{◌≡◌, ℕ, ◌<◌, true, false, ◌⊎◌, List, [], ◌∷◌}
use Rattle.plan.specs.declared.record.Plan.{Plan}
use Rattle.plan.specs.Plans.{may_hold_up}
use Rattle.machine.specs.declared.Call.TheVariants.{Install}
use Rattle.machine.specs.History.{HoldsUp}
use Rattle.machine.specs.Laws.{history, showing}
use Rattle.plan.specs.declared.entry.Entry.{Entry}

-- The entry x stands in the list.
abbrev pub In : List Entry → Entry → Type 0
In [] x = ⊥
In (y ∷ ys) x = (y ≡ x) ⊎ In ys x

-- The entry x comes before y: by resource, then lower task, then higher.
abbrev pub Before : Entry → Entry → Type 0
Before x y = (x.resource < y.resource) ⊎ ((x.resource ≡ y.resource) × ((x.low < y.low) ⊎ ((x.low ≡ y.low) × (x.high < y.high))))

-- Each entry comes before all later ones, so that none stands twice.
abbrev pub Ordered : List Entry → Type 0
Ordered [] = Unit {0}
Ordered (x ∷ xs) = ((y : Entry) → In xs y → Before x y) × Ordered xs

-- The list has exactly the entries of the table, each once and in order; and after the three calls that show an entry, on a new
-- kernel over an empty set of size 64 with the plan installed, the lower task holds up the higher over the resource.
pub record ListsTable (p : Plan) (es : List Entry) : Type 0 where
  pub complete : (l t r : ℕ) → may_hold_up p l t r ≡ true → In es (record { low = l; high = t; resource = r })
  pub sound : (x : Entry) → In es x → may_hold_up p x.low x.high x.resource ≡ true
  pub ordered : Ordered es
  pub shown : (x : Entry) → In es x → HoldsUp (history 64 (λ t. false) (Install p ∷ showing x.low x.high x.resource)) x.low x.high x.resource
