-- A plan made from its vectors.
use Rattle.std.specs.Prelude.{◌≡◌, ℕ, ◌≤◌, List, length}
use Rattle.plan.specs.declared.record.Plan.{Plan}
use Rattle.plan.specs.Rows.{Inside, SameRows}

-- At most 32 resources and events, which name only declared tasks.
pub record Fits (declared : ℕ) (users registered : List ℕ) : Type 0 where
  pub few_resources : length users ≤ 32
  pub few_events : length registered ≤ 32
  pub users_inside : Inside users declared
  pub registered_inside : Inside registered declared

-- The plan p has the declared tasks w, and the resources and events with these rows.
pub record MadeOf (w : ℕ) (user_rows registered_rows : List ℕ) (p : Plan) : Type 0 where
  pub declared : p.declared ≡ w
  pub resources : p.resources ≡ length user_rows
  pub events : p.events ≡ length registered_rows
  pub users : SameRows p.users user_rows
  pub registered : SameRows p.registered registered_rows
