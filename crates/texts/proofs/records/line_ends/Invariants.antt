use Rattle.std.proofs.Common.{◌≡◌, ◌+◌}
use Rattle.std.specs.Slice.Iter.{chunks_rest, chunks_size}
use Rattle.texts.specs.Records.{feeds}
use Rattle.texts.proofs.records.line_ends.Given as goal

-- The count, and that of the rows to come, are the whole count.
abbrev pub invariant-loop-row : goal.invariant-loop-row
invariant-loop-row l =
    (goal.iterator-loop-row).can_next l.row-iterator × (goal.iterator-loop-row).is_finite l.row-iterator × (chunks_size l.row-iterator ≡ 128)
    × (l.count + feeds (chunks_rest l.row-iterator) ≡ feeds l.bytes)
