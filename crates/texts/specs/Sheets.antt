-- The bytes of the blocking sheet's lines.
use Rattle.std.specs.Prelude.{ℕ, ◌+◌, ◌/◌, ◌^◌, min, List, [], ◌++◌, codes, decimal}
use Rattle.machine.specs.declared.Call.{Call}
use Rattle.machine.specs.declared.Call.TheVariants as calls
use Rattle.texts.specs.declared.outcomes.Report.{Report}
use Rattle.texts.specs.declared.sheets.ShownCall.{ShownCall}
use Rattle.texts.specs.declared.sheets.ShownCall.TheVariants.{Release, Lock}
use Rattle.texts.specs.Fronts.{hex}
use Rattle.texts.specs.Lines.{field, optional, line_end}
use Rattle.texts.specs.Outcomes.{outcome_number}

-- The vector of task t in hexadecimal digits, without leading zeros: task t counts 2 to the t. Tasks are at most 63.
abbrev pub task_vector : ℕ → List ℕ
task_vector t = hex (min t 63 / 4 + 1) (2 ^ min t 63)

-- The call that is shown: the release of the vector of one task, or the lock of a resource. Tasks are at most 63.
abbrev pub call_shown : ShownCall → Call
call_shown (Release t) = calls.Release (2 ^ min t 63)
call_shown (Lock r) = calls.Lock r

-- A call as the sheet writes it.
abbrev pub call_text : ShownCall → List ℕ
call_text (Release t) = codes "release " ++ task_vector t
call_text (Lock r) = codes "lock " ++ decimal r

-- The entry's numbers and the call, before what follows.
abbrev pub entry_part : ℕ → ℕ → ℕ → ShownCall → List ℕ → List ℕ
entry_part low high resource call rest = field (decimal low) (field (decimal high) (field (decimal resource) (field (call_text call) rest)))

-- What came of the call, the running task, the waiting tasks and the ceiling.
abbrev pub report_part : Report → List ℕ
report_part r = field (decimal (outcome_number r.outcome)) (field (optional r.running) (field (hex 16 r.waiting) (optional r.ceiling ++ line_end)))

-- One line of the sheet.
abbrev pub sheet_line : ℕ → ℕ → ℕ → ShownCall → Report → List ℕ
sheet_line low high resource call r = entry_part low high resource call (report_part r)

-- The sheet's first line.
abbrev pub sheet_header : List ℕ
sheet_header = codes "low,high,resource,call,result,running,waiting,ceiling" ++ line_end

-- The line of a refused plan: the number of the fault, its place in the text, and five empty fields.
abbrev pub sheet_fault : ℕ → ℕ → List ℕ
sheet_fault number place = field (codes "plan") (field (decimal number) (field (decimal place) (field [] (field [] (field [] (field [] line_end))))))
