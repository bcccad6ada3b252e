use Rattle.std.proofs.Common.{◌≡◌, ◌++◌, vec_items}
use Rattle.sheet.specs.Entries.{in_turn, entry_if, entries_between, entries_over}
use Rattle.sheet.proofs.entries.entries.Given as goal

-- what is listed so far: the entries over the resources before, those of the lower tasks before, and those of the higher tasks before

abbrev pub invariant-loop-resource : goal.invariant-loop-resource
invariant-loop-resource l = vec_items l.out ≡ in_turn (entries_over l.plan) l.resource

abbrev pub invariant-loop-low : goal.invariant-loop-low
invariant-loop-low l = vec_items l.out ≡ in_turn (entries_over l.plan) l.resource ++ in_turn (entries_between l.plan l.resource) l.low

abbrev pub invariant-loop-high : goal.invariant-loop-high
invariant-loop-high l =
    vec_items l.out ≡ (in_turn (entries_over l.plan) l.resource ++ in_turn (entries_between l.plan l.resource) l.low) ++ in_turn (entry_if l.plan l.resource l.low) l.high
