-- What makes the fault that is told the first one from the left.
use Rattle.std.specs.Prelude.{◌≡◌, ℕ, ◌+◌, ◌≤◌, ◌⊎◌, List, length, take, IfErr, Err, Result, ◌≢◌}
use Rattle.letters.specs.Extents.{end_from}
use Rattle.oil.specs.declared.fault.PlanFault.{PlanFault}
use Rattle.oil.specs.Faults.{number_of}
use Rattle.oil.specs.Outcome.{outcome}

-- A fault of the text, and not of its length or of the table, which come before the text is looked at.
abbrev pub OfText : PlanFault → Type 0
OfText f = (number_of f.cause ≢ 1) × (number_of f.cause ≢ 9)

-- A text that is refused only for having ended: fault 3 or 8 at its end, which is the place q.
abbrev pub OnlyEnds : ℕ → Result (Unit {0}) PlanFault → Type 0
OnlyEnds q r = IfErr r (λ g. (g.place ≡ q) × ((number_of g.cause ≡ 3) ⊎ (number_of g.cause ≡ 8)))

-- Nothing is wrong on the left: the place lies in the text, and the text cut just before it is accepted or refused only for having ended.
abbrev pub LeftFree : List ℕ → ℕ → Result (Unit {0}) PlanFault → Type 0
LeftFree text records r =
    IfErr r (λ f. OfText f → (f.place ≤ length text) × OnlyEnds f.place (outcome (take f.place text) records))

-- Nothing matters on the right: every text that agrees through the byte after the faulty token has the same fault.
abbrev pub RightFree : List ℕ → ℕ → Result (Unit {0}) PlanFault → Type 0
RightFree text records r =
    IfErr r (λ f. OfText f → (other : List ℕ) → length other ≤ 32768 → take (end_from text f.place + 1) other ≡ take (end_from text f.place + 1) text → outcome other records ≡ Err f)
