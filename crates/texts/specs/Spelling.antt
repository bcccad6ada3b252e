-- The record that is written for a call.
use Rattle.std.specs.Prelude.{◌≡◌, ℕ, ◌+◌, ◌^◌, ◌<◌, Bool, true, false, List, [], ◌∷◌, ◌++◌, length, Some, None, Ok, Err, vec_items, vec_len, vec_capacity, decimal, Option, Result, Vec, nat_le}
use Rattle.machine.specs.declared.Call.{Call}
use Rattle.machine.specs.declared.Call.TheVariants.{Install, Release, Lock, Unlock, Exit, Signal, SignalRelease, Test}
use Rattle.texts.specs.declared.spellings.Unwritten.{Unwritten}
use Rattle.texts.specs.declared.spellings.Unwritten.TheVariants.{NoRecord, NoMemory}
use Rattle.texts.specs.declared.verbs.Verb.{Verb}
use Rattle.texts.specs.declared.verbs.Verb.TheVariants.{Releases, Locks, Unlocks, Exits, Signals, SignalReleases, Tests}
use Rattle.texts.specs.Fronts.{hex}
use Rattle.texts.specs.Lines.{field}
use Rattle.texts.specs.Requests.{asked}
use Rattle.texts.specs.Spells.{Spells}
use Rattle.texts.specs.Verbs.{word_of}

-- A comma and a vector in 16 digits, or nothing.
abbrev pub vector_after : Option ℕ → List ℕ
vector_after None = []
vector_after (Some v) = 44 ∷ hex 16 v

-- A verb and a number, with a vector where there is one.
abbrev pub numbered : Verb → ℕ → Option ℕ → List ℕ
numbered w n v = field (word_of w) (decimal n ++ vector_after v)

-- A number of at most 3 digits.
abbrev pub is_short : ℕ → Bool
is_short n = nat_le n 999

-- The call has a record. An install and a number of more than 3 digits have none.
abbrev pub has_record : Call → Bool
has_record (Install p) = false
has_record (Release v) = true
has_record (Lock n) = is_short n
has_record (Unlock n) = is_short n
has_record Exit = true
has_record (Signal n v) = is_short n
has_record (SignalRelease n v) = is_short n
has_record (Test n) = is_short n

-- The record that is written for a call that has one.
abbrev pub record_of : Call → List ℕ
record_of (Install p) = []
record_of (Release v) = field (word_of Releases) (hex 16 v)
record_of (Lock n) = numbered Locks n None
record_of (Unlock n) = numbered Unlocks n None
record_of Exit = word_of Exits
record_of (Signal n v) = numbered Signals n v
record_of (SignalRelease n v) = numbered SignalReleases n v
record_of (Test n) = numbered Tests n None

-- The vectors of a call have 64 bits.
abbrev pub FitsVector : Option ℕ → Type 0
FitsVector None = Unit {0}
FitsVector (Some v) = v < 2 ^ 64

abbrev pub Fits : Call → Type 0
Fits (Install p) = Unit {0}
Fits (Release v) = v < 2 ^ 64
Fits (Lock n) = Unit {0}
Fits (Unlock n) = Unit {0}
Fits Exit = Unit {0}
Fits (Signal n v) = FitsVector v
Fits (SignalRelease n v) = FitsVector v
Fits (Test n) = Unit {0}

-- The record of the call q was added to the vector; or nothing was, since q has none or for want of room.
abbrev pub Spelt : {Z : Type 0} → Call → Vec ℕ Z → Result (Unit {0}) Unwritten → Vec ℕ Z → Type 0
Spelt q v (Ok x) w = (has_record q ≡ true) × (vec_items w ≡ vec_items v ++ record_of q)
Spelt q v (Err NoRecord) w = (has_record q ≡ false) × (vec_items w ≡ vec_items v)
Spelt q v (Err NoMemory) w = (has_record q ≡ true) × (vec_items w ≡ vec_items v) × (vec_capacity v < vec_len v + length (record_of q))

-- The record of the call q spells it and reads back as it. Where q has none, nothing spells it.
pub record ReadsBack (q : Call) : Type 0 where
  pub spells : has_record q ≡ true → Spells q (record_of q)
  pub back : has_record q ≡ true → asked (record_of q) ≡ Some q
  pub none : has_record q ≡ false → (bs : List ℕ) → Spells q bs → ⊥
