-- The bytes of a line.
use Rattle.std.specs.Prelude.{ℕ, Bool, true, false, List, [], ◌∷◌, ◌++◌, Some, None, codes, decimal, Option}
use Rattle.texts.specs.declared.outcomes.Report.{Report}
use Rattle.texts.specs.Fronts.{hex}
use Rattle.texts.specs.Outcomes.{outcome_number}

-- A field, its comma, and what follows.
abbrev pub field : List ℕ → List ℕ → List ℕ
field bs rest = bs ++ 44 ∷ rest

-- A number, or nothing.
abbrev pub optional : Option ℕ → List ℕ
optional None = []
optional (Some n) = decimal n

-- A mark as 1 or 0, or nothing.
abbrev pub flag : Option Bool → List ℕ
flag None = []
flag (Some true) = 49 ∷ []
flag (Some false) = 48 ∷ []

-- CR LF.
abbrev pub line_end : List ℕ
line_end = 13 ∷ 10 ∷ []

-- The names of the fields of a line.
abbrev pub header : List ℕ
header = codes "call,result,running,waiting,ceiling,mark" ++ line_end

-- The line of a refused plan: the number of the fault, its place in the text, and three empty fields.
abbrev pub fault_line : ℕ → ℕ → List ℕ
fault_line number place = field (codes "plan") (field (decimal number) (field (decimal place) (field [] (field [] line_end))))

-- The line of the call with this number: call, result, running task, waiting tasks, ceiling and mark.
abbrev pub line : ℕ → Report → List ℕ
line n r = field (decimal n) (field (decimal (outcome_number r.outcome)) (field (optional r.running) (field (hex 16 r.waiting) (field (optional r.ceiling) (flag r.mark ++ line_end)))))
