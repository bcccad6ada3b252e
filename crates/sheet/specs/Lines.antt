-- The bytes of the sheet's lines.
use Rattle.std.specs.Prelude.{◌≡◌, ℕ, ◌^◌, true, false, List, [], ◌∷◌, ◌++◌}
use Rattle.std.specs.List.{flat_map}
use Rattle.plan.specs.declared.record.Plan.{Plan}
use Rattle.plan.specs.Plans.{may_hold_up}
use Rattle.machine.specs.declared.Call.{Call}
use Rattle.machine.specs.declared.Call.TheVariants.{Install, Release, Lock}
use Rattle.machine.specs.Machine.{Machine, fresh, answer, step}
use Rattle.texts.specs.declared.outcomes.Report.{Report}
use Rattle.texts.specs.declared.sheets.ShownCall.TheVariants as shown
use Rattle.texts.specs.Sheets.{sheet_line}
use Rattle.transcripts.specs.Reports.{report_with}
use Rattle.plan.specs.declared.entry.Entry.{Entry}

-- What a call on the machine m tells.
abbrev pub told_of : Call → Machine → Report
told_of c m = report_with (answer c m) (step c m)

-- The machine of a new kernel over an empty set of size 64 with the plan p installed.
abbrev pub installed : Plan → Machine
installed p = step (Install p) (fresh 64 (λ t. false))

-- The three lines of an entry: release of the lower task, lock, release of the higher, on a new kernel with the plan installed.
unfoldable pub entry_lines : Plan → Entry → List ℕ
entry_lines p e =
    let a = installed p in
    let b = step (Release (2 ^ e.low)) a in
    let c = step (Lock e.resource) b in
    sheet_line e.low e.high e.resource (shown.Release e.low) (told_of (Release (2 ^ e.low)) a)
    ++ (sheet_line e.low e.high e.resource (shown.Lock e.resource) (told_of (Lock e.resource) b)
    ++ sheet_line e.low e.high e.resource (shown.Release e.high) (told_of (Release (2 ^ e.high)) c))

-- The lines of entries, one after the other.
abbrev pub sheet_lines : Plan → List Entry → List ℕ
sheet_lines p es = flat_map (entry_lines p) es

-- Each of these entries is in the table of the plan p.
abbrev pub AllInTable : Plan → List Entry → Type 0
AllInTable p [] = Unit {0}
AllInTable p (e ∷ es) = (may_hold_up p e.low e.high e.resource ≡ true) × AllInTable p es
