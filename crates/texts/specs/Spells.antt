-- Which records spell a call.
use Rattle.std.specs.Prelude.{◌≡◌, ℕ, ◌<◌, ◌≤◌, List, ◌∷◌, ◌++◌, length, Some, None, codes}
use Rattle.std.specs.Str.Parse.{AllDigits, digits_value}
use Rattle.machine.specs.declared.Call.{Call}
use Rattle.machine.specs.declared.Call.TheVariants.{Install, Release, Lock, Unlock, Exit, Signal, SignalRelease, Test}
use Rattle.texts.specs.Requests.{asked}

-- The bytes ds are 1 to `most` digits, whose value is n.
pub record Writes (radix most : ℕ) (ds : List ℕ) (n : ℕ) : Type 0 where
  pub some : 0 < length ds
  pub short : length ds ≤ most
  pub digits : AllDigits radix ds
  pub is : digits_value radix ds ≡ n

-- A task vector in 1 to 16 hexadecimal digits of either case.
abbrev pub Vector : List ℕ → ℕ → Type 0
Vector ds v = Writes 16 16 ds v

-- The number of a resource or an event in 1 to 3 decimal digits.
abbrev pub Number : List ℕ → ℕ → Type 0
Number ds n = Writes 10 3 ds n

-- A word with its comma, and then one field.
abbrev pub OneField : List ℕ → (List ℕ → ℕ → Type 0) → ℕ → List ℕ → Type 0
OneField word Field n bs = (d : List ℕ) × Field d n × (bs ≡ word ++ d)

-- A word with its comma, then a number, a comma and a vector.
abbrev pub TwoFields : List ℕ → ℕ → ℕ → List ℕ → Type 0
TwoFields word n v bs = (d : List ℕ) × (e : List ℕ) × Number d n × Vector e v × (bs ≡ word ++ (d ++ 44 ∷ e))

-- The record bs spells the call. No record spells an install.
abbrev pub Spells : Call → List ℕ → Type 0
Spells (Install p) bs = ⊥
Spells (Release v) bs = OneField (codes "release,") Vector v bs
Spells (Lock n) bs = OneField (codes "lock,") Number n bs
Spells (Unlock n) bs = OneField (codes "unlock,") Number n bs
Spells Exit bs = bs ≡ codes "exit"
Spells (Signal n None) bs = OneField (codes "signal,") Number n bs
Spells (Signal n (Some v)) bs = TwoFields (codes "signal,") n v bs
Spells (SignalRelease n None) bs = OneField (codes "signalrelease,") Number n bs
Spells (SignalRelease n (Some v)) bs = TwoFields (codes "signalrelease,") n v bs
Spells (Test n) bs = OneField (codes "test,") Number n bs

-- The record bs asks for a call just where it spells it.
abbrev pub AsksWhatItSpells : List ℕ → Type 0
AsksWhatItSpells bs = (q : Call) → (asked bs ≡ Some q → Spells q bs) × (Spells q bs → asked bs ≡ Some q)
