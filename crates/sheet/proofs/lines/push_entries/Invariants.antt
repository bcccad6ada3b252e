use Rattle.std.proofs.Common.{◌≡◌, ◌++◌, take, vec_items}
use Rattle.sheet.specs.Lines.{sheet_lines}
use Rattle.sheet.proofs.lines.push_entries.Given as goal

-- the lines of the entries so far
abbrev pub invariant-loop-e : goal.invariant-loop-e
invariant-loop-e l = vec_items l.out ≡ vec_items l.initial.out ++ sheet_lines l.plan (take l.e-index l.entries)
