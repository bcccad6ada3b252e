-- What is told after a record.
use Rattle.std.specs.Prelude.{Bool, Some, None, Ok, Err, Option}
use Rattle.vectors.specs.Vectors.{vector_of}
use Rattle.machine.specs.declared.Call.{Call}
use Rattle.machine.specs.Schedules.{running, system_ceiling_under}
use Rattle.machine.specs.Machine.{Machine, Answer, answer, step}
use Rattle.texts.specs.declared.outcomes.Outcome.{Outcome}
use Rattle.texts.specs.declared.outcomes.Outcome.TheVariants.{Accepted, Refused, Unreadable}
use Rattle.texts.specs.declared.outcomes.Report.{Report}

-- The report on a machine, beside an outcome and a mark.
abbrev pub report_on : Machine → Outcome → Option Bool → Report
report_on m o k = record {
  outcome = o;
  running = running m.schedule;
  waiting = vector_of 64 m.schedule.waiting;
  ceiling = system_ceiling_under m.schedule.plan m.schedule.held;
  mark = k;
}

-- The report on the machine to which a call has led with this answer.
abbrev pub report_with : Answer → Machine → Report
report_with (Ok a) m = report_on m Accepted a.mark
report_with (Err f) m = report_on m (Refused f) None

-- The machine after a record that asks for this call. A record that asks for none leaves it as it was.
abbrev pub after_record : Option Call → Machine → Machine
after_record None m = m
after_record (Some c) m = step c m

-- The report after a record that asks for this call.
abbrev pub report_after : Option Call → Machine → Report
report_after None m = report_on m Unreadable None
report_after (Some c) m = report_with (answer c m) (step c m)
