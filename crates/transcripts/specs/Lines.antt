-- The lines of a run.
use Rattle.std.specs.Prelude.{◌≡◌, ℕ, ◌+◌, ◌<◌, ◌≤◌, List, [], ◌∷◌, ◌++◌, length, take, Ok, Err, vec_items, vec_len, vec_capacity, Result, Vec}
use Rattle.machine.specs.Machine.{Machine}
use Rattle.texts.specs.Lines.{line}
use Rattle.texts.specs.Records.{records}
use Rattle.texts.specs.Requests.{asked}
use Rattle.transcripts.specs.Reports.{after_record, report_after}

-- The lines of the records rs, after n records that have led to the machine m.
unfoldable pub lines_from : ℕ → Machine → List (List ℕ) → List ℕ
lines_from n m [] = []
lines_from n m (r ∷ rs) = line (n + 1) (report_after (asked r) m) ++ lines_from (n + 1) (after_record (asked r) m) rs

-- The lines of an input on the machine m. The first 1,000,000 records count.
abbrev pub lines_of : Machine → List ℕ → List ℕ
lines_of m input = lines_from 0 m (take 1000000 (records input))

-- The vector was given back with the bytes bs added to it, and with no less room; or there was no room for them.
abbrev pub Grown : {Z E : Type 0} → Vec ℕ Z → List ℕ → Result (Vec ℕ Z) E → Type 0
Grown v bs (Ok w) = (vec_items w ≡ vec_items v ++ bs) × (vec_capacity v ≤ vec_capacity w)
Grown v bs (Err e) = vec_capacity v < vec_len v + length bs
