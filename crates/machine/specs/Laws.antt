-- The laws of every run, in words of calls and answers.
use Rattle.std.specs.Prelude.{◌≡◌, ℕ, ◌^◌, ◌<◌, ◌≤◌, Bool, true, false, ◌⊎◌, List, [], ◌∷◌, ◌++◌, Some, ◌≢◌}
use Rattle.plan.specs.declared.record.Plan.{Plan}
use Rattle.plan.specs.Plans.{may_hold_up, reaches}
use Rattle.machine.specs.declared.Call.{Call}
use Rattle.machine.specs.declared.Call.TheVariants.{Install, Release, Lock}
use Rattle.machine.specs.Machine.{Machine, Answer, fresh, step, answer, run}
use Rattle.machine.specs.History.{Entry, History, runs, accepted, plan_of, holder_of, unfinished, begins, ends, HoldsUp, ceiling_under, may_lock_under}

-- Calls, oldest first, on the machine m, written on top of an earlier history.
abbrev pub record_run : List Call → Machine → History → History
record_run [] m h = h
record_run (c ∷ cs) m h = record_run cs (step c m) (record { call = c; answer = answer c m } ∷ h)

-- The history of the calls on a new kernel over a waiting set of size c with the members w.
abbrev pub history : ℕ → (ℕ → Bool) → List Call → History
history c w cs = record_run cs (fresh c w) []

-- Calls beside the answers given to them, oldest first, as a history on top of an earlier one, as far as both lists go.
abbrev pub paired : List Call → List Answer → History → History
paired [] said h = h
paired (c ∷ cs) [] h = h
paired (c ∷ cs) (a ∷ said) h = paired cs said (record { call = c; answer = a } ∷ h)

-- What every waiting set has: a size of at most 64, and members below it.
pub record Set (c : ℕ) (w : ℕ → Bool) : Type 0 where
  pub small : c ≤ 64
  pub inside : (t : ℕ) → w t ≡ true → t < c

-- Exclusion. No other task holds a resource that the running task may lock; and an unfinished task that does not run is
-- below the running one, or another task holds a resource with a ceiling not below it.
pub record Exclusive (h : History) : Type 0 where
  pub alone : (t r k : ℕ) → runs h ≡ Some t → may_lock_under (plan_of h) r t ≡ true → holder_of h r ≡ Some k → k ≡ t
  pub waits_rightly : (t : ℕ) → unfinished h t ≡ true → (runs h ≢ Some t)
      → ((k : ℕ) × (runs h ≡ Some k) × (t < k)) ⊎ ((k : ℕ) × (r : ℕ) × (holder_of h r ≡ Some k) × (k ≢ t) × (reaches (ceiling_under (plan_of h) r) t ≡ true))

-- A stretch of later calls on top of h holds no exit of task t.
abbrev pub NoExit : List Entry → History → ℕ → Type 0
NoExit [] h t = Unit {0}
NoExit (e ∷ later) h t = (ends e (later ++ h) t ≡ false) × NoExit later h t

-- After the last call of h, a running task below t is l, and l holds up t over r.
abbrev pub OnlyNow : History → ℕ → ℕ → ℕ → Type 0
OnlyNow h t l r = (k : ℕ) → runs h ≡ Some k → k < t → (k ≡ l) × HoldsUp h l t r

-- The same after h and after each call of the stretch on top of it.
abbrev pub Only : List Entry → History → ℕ → ℕ → ℕ → Type 0
Only [] h t l r = OnlyNow h t l r
Only (e ∷ later) h t l r = OnlyNow ((e ∷ later) ++ h) t l r × Only later h t l r

-- Blocked at most once. From the release of a task, by the call e, to its exit there are one task l and one resource r such
-- that no lower task but l ever runs, and l holds the released task up over r whenever it does.
abbrev pub BlockedOnce : History → Type 0
BlockedOnce h = (t : ℕ) (e : Entry) (later earlier : History) → h ≡ later ++ (e ∷ earlier) → begins e earlier t ≡ true → NoExit later (e ∷ earlier) t
    → (l : ℕ) × (r : ℕ) × Only later (e ∷ earlier) t l r

-- Under plan p, l can hold up t over r: it does so after some calls on some new kernel, with p then installed.
abbrev pub CanHoldUp : Plan → ℕ → ℕ → ℕ → Type 0
CanHoldUp p l t r = ∥ ((c : ℕ) × (w : ℕ → Bool) × (cs : List Call) × Set c w × (plan_of (history c w cs) ≡ Some p) × HoldsUp (history c w cs) l t r) ∥₁

-- The calls that show an entry: release of the lower task, lock, release of the higher.
abbrev pub showing : ℕ → ℕ → ℕ → List Call
showing l t r = Release (2 ^ l) ∷ Lock r ∷ Release (2 ^ t) ∷ []

-- Every new kernel that takes the plan shows the entry after these calls.
abbrev pub Shown : Plan → ℕ → ℕ → ℕ → Type 0
Shown p l t r = (c : ℕ) (w : ℕ → Bool) → Set c w → accepted (answer (Install p) (fresh c w)) ≡ true
    → HoldsUp (history c w (Install p ∷ showing l t r)) l t r

-- Exact table. Under the installed plan a task can hold up another over a resource exactly when the blocking table has the
-- entry, and every new kernel with the plan shows each entry.
pub record Exact (h : History) : Type 0 where
  pub can : (p : Plan) (l t r : ℕ) → plan_of h ≡ Some p → CanHoldUp p l t r → may_hold_up p l t r ≡ true
  pub shows : (p : Plan) (l t r : ℕ) → plan_of h ≡ Some p → may_hold_up p l t r ≡ true → CanHoldUp p l t r × Shown p l t r

-- The three laws, after the last call of a history.
pub record Lawful (h : History) : Type 0 where
  pub exclusive : Exclusive h
  pub blocked_once : BlockedOnce h
  pub exact : Exact h

-- After each call of every list, on every new kernel: every beginning of a list is a list.
abbrev pub AllLawful : Type 0
AllLawful = (c : ℕ) (w : ℕ → Bool) → Set c w → (cs : List Call) → Lawful (history c w cs)

-- The call c with the answer a, after any calls on a new kernel that lead to m, leaves a lawful history.
abbrev pub StaysLawful : Machine → Call → Answer → Type 0
StaysLawful m c a = (n : ℕ) (w : ℕ → Bool) (cs : List Call) → Set n w → run cs (fresh n w) ≡ m
    → Lawful (record { call = c; answer = a } ∷ history n w cs)
