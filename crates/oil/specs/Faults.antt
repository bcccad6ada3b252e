-- The faults of a plan text: their numbers and layers.
use Rattle.std.specs.Prelude.{ℕ, List, codes}
use Rattle.letters.specs.declared.fault.LettersCause.TheVariants as letters
use Rattle.grammar.specs.declared.fault.GrammarCause.TheVariants as grammar
use Rattle.grammar.specs.declared.fault.GrammarFault.{GrammarFault}
use Rattle.grammar.specs.Faults as faults
use Rattle.oil.specs.declared.fault.Layer.{Layer}
use Rattle.oil.specs.declared.fault.Layer.TheVariants as layer
use Rattle.oil.specs.declared.fault.PlanCause.{PlanCause}
use Rattle.oil.specs.declared.fault.PlanCause.TheVariants as cause
use Rattle.oil.specs.declared.fault.PlanFault.{PlanFault}

-- The number of each cause.
abbrev pub number_of : PlanCause → ℕ
number_of (cause.Grammar (grammar.Letters letters.TooLong)) = 1
number_of (cause.Grammar (grammar.Letters letters.NoToken)) = 2
number_of (cause.Grammar grammar.Misplaced) = 3
number_of cause.NotKnown = 4
number_of cause.NameTaken = 5
number_of cause.WrongNumber = 6
number_of cause.TooMany = 7
number_of cause.NoTask = 8
number_of cause.SmallTable = 9

-- The layer that finds each cause.
abbrev pub layer_of : PlanCause → Layer
layer_of (cause.Grammar (grammar.Letters c)) = layer.Letters
layer_of (cause.Grammar grammar.Misplaced) = layer.Grammar
layer_of c = layer.Plan

-- What was wrong, in a few words.
abbrev pub explanation : PlanCause → List ℕ
explanation (cause.Grammar c) = faults.explanation c
explanation cause.NotKnown = codes "no resource or event of this name is declared before"
explanation cause.NameTaken = codes "this name is already declared"
explanation cause.WrongNumber = codes "PRIORITY is over 63 or taken, or ACTIVATION is not 1"
explanation cause.TooMany = codes "there are more than 64 tasks, 32 resources or 32 events"
explanation cause.NoTask = codes "the text declares no task"
explanation cause.SmallTable = codes "the name table has fewer than 128 records"

-- A fault of the grammar as one of the plan: the same cause at the same place.
abbrev pub raised_plan : GrammarFault → PlanFault
raised_plan f = record { cause = cause.Grammar f.cause; place = f.place }

-- A fault with this cause at this place.
abbrev pub refusal : PlanCause → ℕ → PlanFault
refusal c place = record { cause = c; place = place }
