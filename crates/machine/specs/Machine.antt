-- The machine: a schedule and marks, what an accepted call does to them and answers, and how a refused call leaves them.
use Rattle.std.specs.Prelude.{ℕ, Bool, false, not, ◌&&◌, ◌||◌, List, [], ◌∷◌, Some, None, Ok, Err, Option, Result, ◌==◌}
use Rattle.vectors.specs.Vectors.{is}
use Rattle.machine.specs.declared.Call.{Call}
use Rattle.machine.specs.declared.Word.{Word}
use Rattle.machine.specs.declared.Word.TheVariants.{Started, Resumed, Idle, Same}
use Rattle.machine.specs.declared.Reply.{Reply}
use Rattle.machine.specs.declared.Refusal.{Refusal}
use Rattle.machine.specs.Moves.{Move, stay, fit, release, lock, unlock, leave, move, Marking, keep, set, only, take, marking}
use Rattle.machine.specs.Schedules.{Schedule, running, moved, starts, after_move}
use Rattle.machine.specs.Refusals.{refusal}

-- The marks are by event and task.
pub record Machine : Type 0 where
  pub schedule : Schedule
  pub marks : ℕ → ℕ → Bool

-- A new machine over a waiting set of size c with the members w: no plan, nobody started, nothing held, no mark.
abbrev pub fresh : ℕ → (ℕ → Bool) → Machine
fresh c w = record { schedule = record { size = c; waiting = w; plan = None; chain = []; held = [] }; marks = λ e t. false }

-- The marks after a marking, when task u runs.
abbrev pub marked : Marking → Option ℕ → (ℕ → ℕ → Bool) → ℕ → ℕ → Bool
marked keep u m = m
marked (set f) u m = λ e t. f e t || m e t
marked (only f) u m = λ e t. m e t && f e t
marked (take s) u m = λ e t. not (e == s && is u t) && m e t

-- The move that a call makes where it is accepted.
abbrev pub does : Machine → Call → Move
does m c = move m.schedule.plan c

-- What an accepted call does.
abbrev pub effect : Call → Machine → Machine
effect c m = record { schedule = after_move (does m c) m.schedule; marks = marked (marking m.schedule.plan c) (running m.schedule) m.marks }

-- The word of an accepted call: started if dispatch moved a task; else, after an exit, resumed or idle; else same.
abbrev pub after_exit : Option ℕ → Word
after_exit None = Idle
after_exit (Some t) = Resumed

abbrev pub otherwise : Move → Schedule → Word
otherwise stay y = Same
otherwise (fit q) y = Same
otherwise (release v) y = Same
otherwise (lock r) y = Same
otherwise (unlock r) y = Same
otherwise leave y = after_exit (running y)

abbrev pub word_of : Option ℕ → Word → Word
word_of None w = w
word_of (Some t) w = Started

-- The mark that a test tells.
abbrev pub mark_of : Option ℕ → (ℕ → Bool) → Bool
mark_of None m = false
mark_of (Some t) m = m t

abbrev pub mark_told : Marking → Option ℕ → (ℕ → ℕ → Bool) → Option Bool
mark_told keep u m = None
mark_told (set f) u m = None
mark_told (only f) u m = None
mark_told (take e) u m = Some (mark_of u (m e))

-- What an accepted call answers: the running task after it, the word, and after a test the mark.
abbrev pub reply : Call → Machine → Reply
reply c m =
    let a = does m c in
    record { running = running (after_move a m.schedule); word = word_of (starts a m.schedule) (otherwise a (moved a m.schedule)); mark = mark_told (marking m.schedule.plan c) (running m.schedule) m.marks }

abbrev pub Answer : Type 0
Answer = Result Reply Refusal

abbrev pub answered : Option Refusal → Call → Machine → Answer
answered None c m = Ok (reply c m)
answered (Some f) c m = Err f

abbrev pub stepped : Option Refusal → Call → Machine → Machine
stepped None c m = effect c m
stepped (Some f) c m = m

-- The answer to a call: its reply, or the first cause of its refusal.
abbrev pub answer : Call → Machine → Answer
answer c m = answered (refusal c m.schedule) c m

-- The machine after a call: a refused one leaves it as it was.
abbrev pub step : Call → Machine → Machine
step c m = stepped (refusal c m.schedule) c m

-- The machine after the calls, oldest first.
abbrev pub run : List Call → Machine → Machine
run [] m = m
run (c ∷ cs) m = run cs (step c m)

-- The answers to the calls, oldest first.
abbrev pub answers : List Call → Machine → List Answer
answers [] m = []
answers (c ∷ cs) m = answer c m ∷ answers cs (step c m)
