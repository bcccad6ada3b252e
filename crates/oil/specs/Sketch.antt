-- What a plan under construction holds, and what is true of it at any time.
use Rattle.std.specs.Prelude.{◌≡◌, ℕ, ◌≤◌, true, List}
use Rattle.vectors.specs.Vectors.{in_vector}
use Rattle.plan.specs.Rows.{Inside, EmptyFrom}

-- The declared tasks, how many tasks, resources and events there are, the rows of these two, and the task at hand.
pub record Sketch : Type 0 where
  pub declared : ℕ
  pub tasks : ℕ
  pub resources : ℕ
  pub events : ℕ
  pub users : List ℕ
  pub registered : List ℕ
  pub current : ℕ

-- Every task of the one vector is in the other.
abbrev pub Within : ℕ → ℕ → Type 0
Within v w = (t : ℕ) → in_vector v t ≡ true → in_vector w t ≡ true

-- There are at most 64 tasks, 32 resources and 32 events.
pub record Bounded (d : Sketch) : Type 0 where
  pub few_tasks : d.tasks ≤ 64
  pub few_resources : d.resources ≤ 32
  pub few_events : d.events ≤ 32

-- The rows lie in the declared tasks, and are empty beyond the counts.
pub record SoundDraft (d : Sketch) : Type 0 where
  pub users_in : Inside d.users d.declared
  pub registered_in : Inside d.registered d.declared
  pub users_end : EmptyFrom d.users d.resources
  pub registered_end : EmptyFrom d.registered d.events
  pub current_in : Within d.current d.declared

-- What is true of every draft.
pub record Kept (d : Sketch) : Type 0 where
  pub bounded : Bounded d
  pub sound : SoundDraft d
