-- What calls and their answers alone tell. A history is a list of calls with their answers, the newest first; no word here
-- looks into a machine.
use Rattle.std.specs.Prelude.{◌≡◌, ℕ, ◌<◌, Bool, true, false, cond, not, ◌&&◌, ◌||◌, List, [], ◌∷◌, Some, None, Ok, Err, Option, ◌==◌}
use Rattle.vectors.specs.Vectors.{is}
use Rattle.plan.specs.declared.record.Plan.{Plan}
use Rattle.plan.specs.Plans.{ceiling, reaches, uses}
use Rattle.machine.specs.declared.Call.{Call}
use Rattle.machine.specs.Moves.{Move, stay, fit, release, lock, unlock, leave, move}
use Rattle.machine.specs.Machine.{Answer}

pub record Entry : Type 0 where
  pub call : Call
  pub answer : Answer

abbrev pub History : Type 0
History = List Entry

-- The running task is the one last answered as such, none at first.
abbrev pub told : Answer → Option ℕ → Option ℕ
told (Ok a) before = a.running
told (Err f) before = before

abbrev pub accepted : Answer → Bool
accepted (Ok a) = true
accepted (Err f) = false

-- The installed plan after a move.
abbrev pub given : Move → Option Plan → Option Plan
given stay p = p
given (fit q) p = Some q
given (release v) p = p
given (lock r) p = p
given (unlock r) p = p
given leave p = p

-- An accepted lock makes the running task u the holder of its resource, until the next accepted unlock of that resource.
abbrev pub changed_holder : Move → ℕ → Option ℕ → Option ℕ → Option ℕ
changed_holder stay r u old = old
changed_holder (fit q) r u old = old
changed_holder (release v) r u old = old
changed_holder (lock s) r u old = cond (r == s) u old
changed_holder (unlock s) r u old = cond (r == s) None old
changed_holder leave r u old = old

-- A release makes each of its tasks unfinished, until its exit: an accepted exit while it runs. Task u ran before the move.
abbrev pub unfinished_after : Move → Option ℕ → ℕ → Bool → Bool
unfinished_after stay u t old = old
unfinished_after (fit q) u t old = old
unfinished_after (release v) u t old = v t || old
unfinished_after (lock r) u t old = old
unfinished_after (unlock r) u t old = old
unfinished_after leave u t old = not (is u t) && old

-- A move is the exit of task t.
abbrev pub ended : Move → Option ℕ → ℕ → Bool
ended stay u t = false
ended (fit q) u t = false
ended (release v) u t = false
ended (lock r) u t = false
ended (unlock r) u t = false
ended leave u t = is u t

-- What is told after some calls: who runs, the installed plan, who holds what, and who is unfinished.
pub record Tale : Type 0 where
  pub runs : Option ℕ
  pub plan : Option Plan
  pub holder : ℕ → Option ℕ
  pub unfinished : ℕ → Bool

-- The move that a call makes, which is none where it was refused.
abbrev pub act : Entry → Tale → Move
act e s = cond (accepted e.answer) (move s.plan e.call) stay

-- The tale after one more move with its answer.
abbrev pub retold : Move → Answer → Tale → Tale
retold a x s = record {
  runs = told x s.runs;
  plan = given a s.plan;
  holder = λ r. changed_holder a r s.runs (s.holder r);
  unfinished = λ t. unfinished_after a s.runs t (s.unfinished t);
}

-- The tale of a history: at first nobody runs, there is no plan, nothing is held, and nobody is unfinished.
abbrev pub tale : History → Tale
tale [] = record { runs = None; plan = None; holder = λ r. None; unfinished = λ t. false }
tale (e ∷ h) = retold (act e (tale h)) e.answer (tale h)

abbrev pub made : Entry → History → Move
made e h = act e (tale h)

abbrev pub runs : History → Option ℕ
runs h = (tale h).runs

abbrev pub plan_of : History → Option Plan
plan_of h = (tale h).plan

abbrev pub holder_of : History → ℕ → Option ℕ
holder_of h r = (tale h).holder r

abbrev pub unfinished : History → ℕ → Bool
unfinished h t = (tale h).unfinished t

-- The call e, after the history h, is the exit of task t.
abbrev pub ends : Entry → History → ℕ → Bool
ends e h t = ended (made e h) (runs h) t

-- The call e releases task t: t is unfinished after it, and was not before, or its earlier time ends there.
abbrev pub begins : Entry → History → ℕ → Bool
begins e h t = unfinished (e ∷ h) t && (ends e h t || not (unfinished h t))

-- Task l has held r without a break since before the release of task t.
abbrev pub HeldSince : History → ℕ → ℕ → ℕ → Type 0
HeldSince [] l t r = ⊥
HeldSince (e ∷ h) l t r =
    (holder_of (e ∷ h) r ≡ Some l) × cond (begins e h t) (holder_of h r ≡ Some l) (HeldSince h l t r)

-- The ceiling of resource r, and its users, under the installed plan.
abbrev pub ceiling_under : Option Plan → ℕ → Option ℕ
ceiling_under None r = None
ceiling_under (Some p) r = ceiling p r

abbrev pub may_lock_under : Option Plan → ℕ → ℕ → Bool
may_lock_under None r t = false
may_lock_under (Some p) r t = uses p r t

-- Task l holds up task t over resource r after the last call: l runs, l is below t, t is unfinished, the ceiling of r is not
-- below t, and l has held r without a break since before the release of t.
pub record HoldsUp (h : History) (l t r : ℕ) : Type 0 where
  pub runs_now : runs h ≡ Some l
  pub below : l < t
  pub waits : unfinished h t ≡ true
  pub high : reaches (ceiling_under (plan_of h) r) t ≡ true
  pub held : HeldSince h l t r
