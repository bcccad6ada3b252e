-- The call that a record asks for.
use Rattle.std.specs.Prelude.{◌≡◌, ℕ, List, [], ◌∷◌, Some, None, Option}
use Rattle.std.specs.Option.{option_map}
use Rattle.machine.specs.declared.Call.{Call}
use Rattle.machine.specs.declared.Call.TheVariants.{Release, Lock, Unlock, Exit, Signal, SignalRelease, Test}
use Rattle.texts.specs.declared.verbs.Verb.{Verb}
use Rattle.texts.specs.declared.verbs.Verb.TheVariants.{Releases, Locks, Unlocks, Exits, Signals, SignalReleases, Tests}
use Rattle.texts.specs.Pieces.{pieces}
use Rattle.texts.specs.Digits.{number_field, vector_field}
use Rattle.texts.specs.Verbs.{verb_of}

-- A verb alone.
abbrev pub asked_bare : Verb → Option Call
asked_bare Releases = None
asked_bare Locks = None
asked_bare Unlocks = None
asked_bare Exits = Some Exit
asked_bare Signals = None
asked_bare SignalReleases = None
asked_bare Tests = None

-- A verb with one field.
abbrev pub asked_one : Verb → List ℕ → Option Call
asked_one Releases a = option_map Release (vector_field a)
asked_one Locks a = option_map Lock (number_field a)
asked_one Unlocks a = option_map Unlock (number_field a)
asked_one Exits a = None
asked_one Signals a = option_map (λ n. Signal n None) (number_field a)
asked_one SignalReleases a = option_map (λ n. SignalRelease n None) (number_field a)
asked_one Tests a = option_map Test (number_field a)

-- A call of a number and a vector, where both are there.
abbrev pub both : (ℕ → Option ℕ → Call) → Option ℕ → Option ℕ → Option Call
both make None v = None
both make (Some n) None = None
both make (Some n) (Some v) = Some (make n (Some v))

-- A verb with two fields.
abbrev pub asked_two : Verb → List ℕ → List ℕ → Option Call
asked_two Releases a b = None
asked_two Locks a b = None
asked_two Unlocks a b = None
asked_two Exits a b = None
asked_two Signals a b = both Signal (number_field a) (vector_field b)
asked_two SignalReleases a b = both SignalRelease (number_field a) (vector_field b)
asked_two Tests a b = None

-- A verb with any fields.
abbrev pub asked_with : Verb → List (List ℕ) → Option Call
asked_with v [] = asked_bare v
asked_with v (a ∷ []) = asked_one v a
asked_with v (a ∷ b ∷ []) = asked_two v a b
asked_with v (a ∷ b ∷ c ∷ fs) = None

abbrev pub asked_as : Option Verb → List (List ℕ) → Option Call
asked_as None fs = None
asked_as (Some v) fs = asked_with v fs

abbrev pub asked_by : List (List ℕ) → Option Call
asked_by [] = None
asked_by (w ∷ fs) = asked_as (verb_of w) fs

-- The call that a record asks for, by the fields between its commas; none where it cannot be read.
unfoldable pub asked : List ℕ → Option Call
asked bs = asked_by (pieces 44 bs)

-- What the record bs asks for goes by its word w and its fields fs.
pub record Asks (bs w : List ℕ) (fs : List (List ℕ)) : Type 0 where
  pub known : (v : Verb) → verb_of w ≡ Some v → asked bs ≡ asked_with v fs
  pub unknown : verb_of w ≡ None → asked bs ≡ None
