-- What it is to read an input as records.
use Rattle.std.specs.Prelude.{◌≡◌, ℕ, ◌<◌, ◌⊎◌, List, [], ◌∷◌, ◌++◌, length, ◌≢◌}
use Rattle.texts.specs.Pieces.{Lacks}
use Rattle.texts.specs.Records.{records}

-- The list does not end in a CR.
abbrev pub NoReturn : List ℕ → Type 0
NoReturn l = (front : List ℕ) → l ≢ front ++ 13 ∷ []

-- The bytes bs are r, ended by CR LF or by LF, and then rest. A CR right before the LF belongs to the line end.
abbrev pub Ended : List ℕ → List ℕ → List ℕ → Type 0
Ended r rest bs = (bs ≡ r ++ 13 ∷ 10 ∷ rest) ⊎ ((bs ≡ r ++ 10 ∷ rest) × NoReturn r)

-- The bytes bs are r, ended by the end of the input. Nothing after the last line end is no record.
abbrev pub Last : List ℕ → List ℕ → List ℕ → Type 0
Last r rest bs = (bs ≡ r) × (rest ≡ []) × (0 < length r)

-- The bytes bs begin with the record r, and rest follows it and its end.
abbrev pub Begins : List ℕ → List ℕ → List ℕ → Type 0
Begins r rest bs = Lacks 10 r × (Ended r rest bs ⊎ Last r rest bs)

-- The records rs, one after the other, are all of the bytes bs.
abbrev pub Reading : List (List ℕ) → List ℕ → Type 0
Reading [] bs = bs ≡ []
Reading (r ∷ rs) bs = (rest : List ℕ) × Begins r rest bs × Reading rs rest

-- The records of bs are a reading of it, and the only one.
pub record ReadByLineEnds (bs : List ℕ) : Type 0 where
  pub is : Reading (records bs) bs
  pub only : (rs : List (List ℕ)) → Reading rs bs → rs ≡ records bs
