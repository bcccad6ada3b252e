-- Worked cases on new yard kernels: empty, of size 64, with the yard's plan installed. Vectors are in hexadecimal.
use Rattle.std.specs.Prelude.{◌≡◌, ℕ, zero, suc, min, Bool, true, false, cond, List, [], ◌∷◌, Some, None, Ok, Err, Option, nat_lt}
use Rattle.plan.specs.Plans.{may_hold_up}
use Rattle.machine.specs.declared.Call.{Call}
use Rattle.machine.specs.declared.Call.TheVariants.{Install, Release, Lock, Unlock}
use Rattle.machine.specs.declared.Word.{Word}
use Rattle.machine.specs.declared.Word.TheVariants.{Started, Same}
use Rattle.machine.specs.declared.Refusal.TheVariants.{ForeignTask, NotDeclared, NotEntitled, NotHolder}
use Rattle.machine.specs.Machine.{Machine, Answer, fresh, answer, run}
use Rattle.sets.specs.Lowest.{lowest_place}
use Rattle.sets.specs.Pairs.{pair_room}
use Rattle.worked.specs.Yard.{yard}

-- A new yard kernel after the calls, oldest first.
abbrev pub on_yard : List Call → Machine
on_yard cs = run (Install yard ∷ cs) (fresh 64 (λ t. false))

-- Accepted: this task runs, and this word.
abbrev pub says : Option ℕ → Word → Answer
says r w = Ok (record { running = r; word = w; mark = None })

-- The members below n, the highest first.
abbrev pub members : ℕ → (ℕ → Bool) → List ℕ
members zero m = []
members (suc n) m = cond (m n) (n ∷ members n m) (members n m)

-- The size of a pair of new word sets.
abbrev pub word_pair_size : ℕ → ℕ → ℕ
word_pair_size a b = pair_room (min a 64) (min b 64)

pub record WorkedCases : Type 0 where
  pub installs : answer (Install yard) (fresh 64 (λ t. false)) ≡ says None Same
  pub nobody : answer (Release 0x0) (on_yard []) ≡ says None Same
  pub starts : answer (Release 0x4) (on_yard []) ≡ says (Some 2) Started
  pub foreign : answer (Release 0x8) (on_yard []) ≡ Err ForeignTask
  pub highest_first : answer (Release 0xa4) (on_yard []) ≡ says (Some 7) Started
  pub others_wait : members 64 (on_yard (Release 0xa4 ∷ [])).schedule.waiting ≡ 5 ∷ 2 ∷ []
  pub held_up : answer (Release 0x20) (on_yard (Release 0x4 ∷ Lock 0 ∷ [])) ≡ says (Some 2) Same
  pub let_go : answer (Unlock 0) (on_yard (Release 0x4 ∷ Lock 0 ∷ Release 0x20 ∷ [])) ≡ says (Some 5) Started
  pub not_entitled : answer (Lock 0) (on_yard (Release 0x80 ∷ [])) ≡ Err NotEntitled
  pub not_declared : answer (Lock 1) (on_yard (Release 0x4 ∷ [])) ≡ Err NotDeclared
  pub not_holder : answer (Unlock 0) (on_yard (Release 0x4 ∷ Lock 0 ∷ Release 0x80 ∷ [])) ≡ Err NotHolder
  pub may : may_hold_up yard 2 5 0 ≡ true
  pub may_not : may_hold_up yard 2 7 0 ≡ false
  pub entry_0 : lowest_place 0 ≡ 0
  pub entry_1 : lowest_place 1 ≡ 0
  pub entry_80 : lowest_place 80 ≡ 4
  pub entry_128 : lowest_place 128 ≡ 7
  pub pair_takes_63 : nat_lt 63 (word_pair_size 40 24) ≡ true
  pub pair_not_64 : nat_lt 64 (word_pair_size 40 24) ≡ false
