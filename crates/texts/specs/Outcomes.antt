-- The numbers of outcomes.
use Rattle.std.specs.Prelude.{ℕ}
use Rattle.machine.specs.Numbers.{refusal_number}
use Rattle.texts.specs.declared.outcomes.Outcome.{Outcome}
use Rattle.texts.specs.declared.outcomes.Outcome.TheVariants.{Accepted, Refused, Unreadable}

-- An accepted call has 0, a refused one the number of its refusal, and a record that spells no call has 22.
abbrev pub outcome_number : Outcome → ℕ
outcome_number Accepted = 0
outcome_number (Refused f) = refusal_number f
outcome_number Unreadable = 22
