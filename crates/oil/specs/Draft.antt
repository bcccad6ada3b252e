-- A plan under construction.
use Rattle.std.specs.Prelude.{◌≡◌, ℕ, ◌+◌, ◌^◌, cond, List, replicate, Ok, Err, Result, ◌==◌, bit_or, nat_lt, slice_index, slice_set}
use Rattle.vectors.specs.Vectors.{in_vector}
use Rattle.grammar.specs.declared.item.Kind.{Kind}
use Rattle.grammar.specs.declared.item.Kind.TheVariants as kind
use Rattle.oil.specs.declared.fault.PlanCause.TheVariants as cause
use Rattle.oil.specs.declared.fault.PlanFault.{PlanFault}
use Rattle.oil.specs.declared.draft.Draft.{Draft}
use Rattle.oil.specs.Faults.{refusal}

-- A draft, or a fault.
abbrev pub Drafted : Type 0
Drafted = Result Draft PlanFault

-- A draft of nothing.
abbrev pub empty_draft : Draft
empty_draft = record {
  declared = 0;
  tasks = 0;
  resources = 0;
  events = 0;
  users = replicate 32 0;
  registered = replicate 32 0;
  current = 0;
}

-- The rows with these tasks added to row i.
abbrev pub added : List ℕ → ℕ → ℕ → List ℕ
added vectors i tasks = slice_set vectors i (bit_or (slice_index vectors i) tasks)

-- The draft with a task's number: at most 63, and not taken.
abbrev pub prioritized : Draft → ℕ → ℕ → Drafted
prioritized d value place =
    cond (nat_lt 63 value) (Err (refusal cause.WrongNumber place))
    (cond (in_vector d.declared value) (Err (refusal cause.WrongNumber place))
    (Ok (record d { declared = bit_or d.declared (2 ^ value); current = 2 ^ value })))

-- A task is activated once.
abbrev pub activated : Draft → ℕ → ℕ → Drafted
activated d value place = cond (value == 1) (Ok d) (Err (refusal cause.WrongNumber place))

-- The draft with this many resources.
abbrev pub with_resources : Draft → ℕ → Draft
with_resources d n = record d { resources = n }

-- The draft with this many events.
abbrev pub with_events : Draft → ℕ → Draft
with_events d n = record d { events = n }

-- The draft with this many tasks.
abbrev pub with_tasks : Draft → ℕ → Draft
with_tasks d n = record d { tasks = n }

-- The draft with these users.
abbrev pub with_users : Draft → List ℕ → Draft
with_users d v = record d { users = v }

-- The draft with these registered tasks.
abbrev pub with_registered : Draft → List ℕ → Draft
with_registered d v = record d { registered = v }

-- The draft with one object more, of at most 32 resources, 32 events and 64 tasks.
abbrev pub grown : Draft → Kind → ℕ → Drafted
grown d kind.Resource place = cond (d.resources == 32) (Err (refusal cause.TooMany place)) (Ok (with_resources d (d.resources + 1)))
grown d kind.Event place = cond (d.events == 32) (Err (refusal cause.TooMany place)) (Ok (with_events d (d.events + 1)))
grown d kind.Task place = cond (d.tasks == 64) (Err (refusal cause.TooMany place)) (Ok (with_tasks d (d.tasks + 1)))

-- The number of the next object of this kind.
abbrev pub next_number : Draft → Kind → ℕ
next_number d kind.Resource = d.resources
next_number d kind.Event = d.events
next_number d kind.Task = 0

-- How many names are declared.
abbrev pub used : Draft → ℕ
used d = d.tasks + d.resources + d.events

-- A complete text has a task.
abbrev pub finished : Draft → ℕ → Drafted
finished d end = cond (d.declared == 0) (Err (refusal cause.NoTask end)) (Ok d)

-- The fields of a plan are those of the draft.
pub record Shows (d : Draft) (declared resources events : ℕ) (users registered : List ℕ) : Type 0 where
  pub same_declared : declared ≡ d.declared
  pub same_resources : resources ≡ d.resources
  pub same_events : events ≡ d.events
  pub same_users : users ≡ d.users
  pub same_registered : registered ≡ d.registered
