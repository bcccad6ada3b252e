-- The run that shows an entry of the blocking table.
use Rattle.std.specs.Prelude.{◌≡◌, ℕ, Bool, true, ◌∷◌}
use Rattle.plan.specs.declared.record.Plan.{Plan}
use Rattle.plan.specs.Plans.{may_hold_up}
use Rattle.machine.specs.declared.Call.TheVariants.{Install}
use Rattle.machine.specs.Machine.{Machine, fresh, run}
use Rattle.machine.specs.History.{HoldsUp}
use Rattle.machine.specs.Laws.{history, showing}

-- The table of plan p has the entry; m is what its run leads to on a new kernel over a set of size c with the members w; and
-- there task l holds up task t over resource r.
pub record Shows (p : Plan) (l t r c : ℕ) (w : ℕ → Bool) (m : Machine) : Type 0 where
  pub entry : may_hold_up p l t r ≡ true
  pub after : m ≡ run (Install p ∷ showing l t r) (fresh c w)
  pub holds_up : HoldsUp (history c w (Install p ∷ showing l t r)) l t r
