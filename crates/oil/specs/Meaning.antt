-- What a tree of objects means: which trees are well formed, and which plan each has.
use Rattle.std.specs.Prelude.{◌≡◌, ℕ, zero, suc, ◌^◌, ◌<◌, ◌≤◌, true, cond, List, [], ◌∷◌, ◌++◌, length, map, Option, Some, None, Result, MatchResult, slice_index}
use Rattle.std.specs.List.{filter_map, flat_map}
use Rattle.std.specs.Str.{bytes_eq}
use Rattle.vectors.specs.Vectors.{in_vector}
use Rattle.plan.specs.declared.record.Plan.{Plan}
use Rattle.plan.specs.Rows.{SameRows}
use Rattle.grammar.specs.Language.{Reference, uses, awaits, Object, resource, event, task, Spells, unparse}
use Rattle.oil.specs.declared.fault.PlanFault.{PlanFault}

-- Element number i of the list is x.
abbrev pub At : {X : Type 0} → List X → ℕ → X → Type 0
At [] i x = ⊥
At (y ∷ ys) zero x = y ≡ x
At (y ∷ ys) (suc i) x = At ys i x

-- The element x is in the list.
abbrev pub In : {X : Type 0} → List X → X → Type 0
In xs x = (i : ℕ) × At xs i x

-- No two places of the list hold the same.
abbrev pub Distinct : {X : Type 0} → List X → Type 0
Distinct {X} xs = (x : X) (i j : ℕ) → At xs i x → At xs j x → i ≡ j

-- The name of an object.
abbrev pub name_of : Object → List ℕ
name_of (resource n) = n
name_of (event n) = n
name_of (task n p a rs) = n

-- The name of a resource.
abbrev pub resource_name : Object → Option (List ℕ)
resource_name (resource n) = Some n
resource_name o = None

-- The name of an event.
abbrev pub event_name : Object → Option (List ℕ)
event_name (event n) = Some n
event_name o = None

-- The priority of a task.
abbrev pub priority : Object → Option ℕ
priority (task n p a rs) = Some p
priority o = None

-- The activation of a task.
abbrev pub activation : Object → Option ℕ
activation (task n p a rs) = Some a
activation o = None

-- The names of all objects, in the order of the text.
abbrev pub names_of : List Object → List (List ℕ)
names_of os = map name_of os

-- The names of the resources, in the order of the text.
abbrev pub resources_of : List Object → List (List ℕ)
resources_of os = filter_map resource_name os

-- The names of the events, in the order of the text.
abbrev pub events_of : List Object → List (List ℕ)
events_of os = filter_map event_name os

-- The priorities of the tasks, in the order of the text.
abbrev pub priorities_of : List Object → List ℕ
priorities_of os = filter_map priority os

-- The activations of the tasks, in the order of the text.
abbrev pub activations_of : List Object → List ℕ
activations_of os = filter_map activation os

-- A reference names a resource or an event of the objects before.
abbrev pub Earlier : List Object → Reference → Type 0
Earlier before (uses n) = In (resources_of before) n
Earlier before (awaits n) = In (events_of before) n

-- Each of the references does.
abbrev pub AllEarlier : List Object → List Reference → Type 0
AllEarlier before [] = Unit {0}
AllEarlier before (r ∷ rs) = Earlier before r × AllEarlier before rs

-- Each reference of the object does.
abbrev pub EarlierIn : List Object → Object → Type 0
EarlierIn before (resource n) = Unit {0}
EarlierIn before (event n) = Unit {0}
EarlierIn before (task n p a rs) = AllEarlier before rs

-- Each reference of each object names an earlier one.
abbrev pub Grounded : List Object → List Object → Type 0
Grounded before [] = Unit {0}
Grounded before (o ∷ os) = EarlierIn before o × Grounded (before ++ (o ∷ [])) os

-- Names differ, references name earlier objects of their kind, priorities differ and are low, tasks are activated once, there are not too many objects, and there is a task.
pub record WellFormed (os : List Object) : Type 0 where
  pub names_differ : Distinct (names_of os)
  pub references_known : Grounded [] os
  pub priorities_differ : Distinct (priorities_of os)
  pub priorities_low : (p : ℕ) → In (priorities_of os) p → p < 64
  pub activated_once : (a : ℕ) → In (activations_of os) a → a ≡ 1
  pub few_resources : length (resources_of os) ≤ 32
  pub few_events : length (events_of os) ≤ 32
  pub few_tasks : length (priorities_of os) ≤ 64
  pub some_task : 0 < length (priorities_of os)

-- The task p, once for each of its references to the resource n.
abbrev pub uses_in : List ℕ → ℕ → List Reference → List ℕ
uses_in n p [] = []
uses_in n p (uses m ∷ rs) = cond (bytes_eq m n) (p ∷ uses_in n p rs) (uses_in n p rs)
uses_in n p (awaits m ∷ rs) = uses_in n p rs

-- The task p, once for each of its references to the event n.
abbrev pub awaits_in : List ℕ → ℕ → List Reference → List ℕ
awaits_in n p [] = []
awaits_in n p (uses m ∷ rs) = awaits_in n p rs
awaits_in n p (awaits m ∷ rs) = cond (bytes_eq m n) (p ∷ awaits_in n p rs) (awaits_in n p rs)

-- The task, once for each of its references to the resource n.
abbrev pub uses_of : List ℕ → Object → List ℕ
uses_of n (task m p a rs) = uses_in n p rs
uses_of n o = []

-- The task, once for each of its references to the event n.
abbrev pub awaits_of : List ℕ → Object → List ℕ
awaits_of n (task m p a rs) = awaits_in n p rs
awaits_of n o = []

-- The tasks that use the resource n.
abbrev pub users_of : List ℕ → List Object → List ℕ
users_of n os = flat_map (uses_of n) os

-- The tasks that are registered for the event n.
abbrev pub registered_of : List ℕ → List Object → List ℕ
registered_of n os = flat_map (awaits_of n) os

-- The 64-bit vector v holds exactly the tasks ps.
pub record VectorOf (ps : List ℕ) (v : ℕ) : Type 0 where
  pub fits : v < 2 ^ 64
  pub there : (t : ℕ) → In ps t → in_vector v t ≡ true
  pub only : (t : ℕ) → in_vector v t ≡ true → In ps t

-- A row for each name, with the tasks of that name, and then empty rows.
pub record RowsOf (names : List (List ℕ)) (tasks : List ℕ → List ℕ) (rows : List ℕ) : Type 0 where
  pub each : (i : ℕ) (n : List ℕ) → At names i n → VectorOf (tasks n) (slice_index rows i)
  pub beyond : (i : ℕ) → length names ≤ i → slice_index rows i ≡ 0

-- The plan of the objects: the declared tasks, how many resources and events there are, and the tasks of each.
pub record PlanOf (os : List Object) (p : Plan) : Type 0 where
  pub tasks : VectorOf (priorities_of os) p.declared
  pub resource_count : p.resources ≡ length (resources_of os)
  pub event_count : p.events ≡ length (events_of os)
  pub users_are : RowsOf (resources_of os) (λ n. users_of n os) p.users
  pub registered_are : RowsOf (events_of os) (λ n. registered_of n os) p.registered

-- The text spells a well-formed tree that has this plan.
pub record Means (text : List ℕ) (p : Plan) : Type 0 where
  pub cpu : List ℕ
  pub tree : List Object
  pub spelt : Spells text (unparse cpu tree)
  pub formed : WellFormed tree
  pub plan : PlanOf tree p

-- Both plans declare the same tasks, and have the same resources and events.
pub record SamePlan (p q : Plan) : Type 0 where
  pub declared : p.declared ≡ q.declared
  pub resources : p.resources ≡ q.resources
  pub events : p.events ≡ q.events
  pub users : SameRows p.users q.users
  pub registered : SameRows p.registered q.registered

-- The text spells no well-formed tree.
abbrev pub Meaningless : List ℕ → Type 0
Meaningless text = (cpu : List ℕ) (tree : List Object) → Spells text (unparse cpu tree) → WellFormed tree → ⊥

-- A text is accepted exactly if it is short enough, spells a well-formed tree and has a table that is large enough; the plan is the tree's, and no other plan is.
abbrev pub Understood : List ℕ → ℕ → Plan → Result (Unit {0}) PlanFault → Type 0
Understood text records p r =
    MatchResult r
    (λ _. (128 ≤ records) × (length text ≤ 32768) × Means text p × ((q : Plan) → Means text q → SamePlan q p))
    (λ _. 128 ≤ records → length text ≤ 32768 → Meaningless text)
