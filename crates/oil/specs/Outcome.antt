-- What a text comes to.
use Rattle.std.specs.Prelude.{◌≡◌, ℕ, cond, List, length, replicate, Ok, Err, Result, nat_lt}
use Rattle.plan.specs.declared.record.Plan.{Plan}
use Rattle.oil.specs.declared.table.NameRecord.{NameRecord}
use Rattle.oil.specs.declared.fault.PlanCause.TheVariants as cause
use Rattle.oil.specs.declared.fault.PlanFault.{PlanFault}
use Rattle.oil.specs.Faults.{refusal}
use Rattle.oil.specs.Table.{blank}
use Rattle.oil.specs.Draft.{Drafted, Shows}
use Rattle.oil.specs.Reading.{read_all}

-- The draft of a text, or the first fault: a small table, a long text, and then the text from its start.
abbrev pub drafted : List ℕ → ℕ → Drafted
drafted text records = cond (nat_lt records 128) (Err (refusal cause.SmallTable 0)) (read_all text)

-- Acceptance, or the fault.
abbrev pub done : Drafted → Result (Unit {0}) PlanFault
done (Ok d) = Ok tt
done (Err f) = Err f

-- What the reader answers.
abbrev pub outcome : List ℕ → ℕ → Result (Unit {0}) PlanFault
outcome text records = done (drafted text records)

-- A table that is large enough is left empty.
abbrev pub table_after : List NameRecord → List NameRecord
table_after names = cond (nat_lt (length names) 128) names (replicate (length names) blank)

-- The plan after the reading, from the plan before it.
abbrev pub PlanFrom : Drafted → Plan → Plan → Type 0
PlanFrom (Ok d) old new = Shows d new.declared new.resources new.events new.users new.registered
PlanFrom (Err f) old new = new ≡ old

-- A refusal leaves the plan as it was.
abbrev pub PlanAfter : List ℕ → ℕ → Plan → Plan → Result (Unit {0}) PlanFault → Type 0
PlanAfter text records old new r = PlanFrom (drafted text records) old new
