-- The words that records begin with.
use Rattle.std.specs.Prelude.{ℕ, cond, List, [], ◌∷◌, Some, None, codes, Option}
use Rattle.std.specs.Str.{bytes_eq}
use Rattle.texts.specs.declared.verbs.Verb.{Verb}
use Rattle.texts.specs.declared.verbs.Verb.TheVariants.{Releases, Locks, Unlocks, Exits, Signals, SignalReleases, Tests}

-- The word of a verb.
abbrev pub word_of : Verb → List ℕ
word_of Releases = codes "release"
word_of Locks = codes "lock"
word_of Unlocks = codes "unlock"
word_of Exits = codes "exit"
word_of Signals = codes "signal"
word_of SignalReleases = codes "signalrelease"
word_of Tests = codes "test"

-- The first verb of a list whose word is w.
abbrev pub named : List ℕ → List Verb → Option Verb
named w [] = None
named w (v ∷ vs) = cond (bytes_eq w (word_of v)) (Some v) (named w vs)

abbrev pub verbs : List Verb
verbs = Releases ∷ Exits ∷ Locks ∷ Unlocks ∷ Signals ∷ SignalReleases ∷ Tests ∷ []

-- The verb whose word is w.
abbrev pub verb_of : List ℕ → Option Verb
verb_of w = named w verbs
