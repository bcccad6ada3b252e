-- Faults on their way up, and steps that may fail.
use Rattle.std.specs.Prelude.{ℕ, List, Ok, Err, codes, Result}
use Rattle.letters.specs.declared.fault.LettersFault.{LettersFault}
use Rattle.letters.specs.Faults as letters
use Rattle.grammar.specs.declared.fault.GrammarCause.{GrammarCause}
use Rattle.grammar.specs.declared.fault.GrammarCause.TheVariants as cause
use Rattle.grammar.specs.declared.fault.GrammarFault.{GrammarFault}

-- One step and then another: the first fault is kept.
abbrev pub and_then : {A B E : Type 0} → Result A E → (A → Result B E) → Result B E
and_then (Ok x) f = f x
and_then (Err e) f = Err e

-- A fault of the letters as one of the grammar: the same cause at the same place.
abbrev pub raised : LettersFault → GrammarFault
raised f = record { cause = cause.Letters f.cause; place = f.place }

-- A token that may not stand where it stands.
abbrev pub misplaced : ℕ → GrammarFault
misplaced place = record { cause = cause.Misplaced; place = place }

-- What a layer below gives, with its fault raised.
abbrev pub lifted : {A : Type 0} → Result A LettersFault → Result A GrammarFault
lifted (Ok x) = Ok x
lifted (Err f) = Err (raised f)

-- What was wrong, in a few words.
abbrev pub explanation : GrammarCause → List ℕ
explanation (cause.Letters c) = letters.explanation c
explanation cause.Misplaced = codes "this may not stand here, or the text ended"
