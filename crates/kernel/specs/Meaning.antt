-- The machine that a kernel stands for.
use Rattle.std.specs.Prelude.{◌≡◌, ℕ, Bool, List, None, Option}
use Rattle.machine.specs.declared.Word.{Word}
use Rattle.machine.specs.declared.Word.TheVariants.{Same}
use Rattle.machine.specs.declared.Reply.{Reply}
use Rattle.machine.specs.Schedules.{Schedule, head, running, started}
use Rattle.machine.specs.declared.Call.{Call}
use Rattle.machine.specs.Machine.{Machine, Answer, word_of, step, answer}
use Rattle.kernel.specs.declared.state.Core.{Core}
use Rattle.kernel.specs.declared.kernel.Kernel.{Kernel}
use Rattle.kernel.specs.Parts.{marks_in}
use Rattle.kernel.specs.Lists.{entries}

-- The schedule of a core beside a waiting set of size c that holds w.
abbrev pub schedule_of : Core → ℕ → (ℕ → Bool) → Schedule
schedule_of k c w = record { size = c; waiting = w; plan = k.plan; chain = k.chain; held = entries k.held }

-- The machine of a kernel over a set of which room and holds say size and members.
abbrev pub meaning : {R : Type 0} → (R → ℕ) → (R → ℕ → Bool) → Kernel R → Machine
meaning room holds k = record { schedule = schedule_of k.core (room k.set) (holds k.set); marks = marks_in k.core }

-- At the call c the kernel goes from a to b and answers x, as its machine does.
pub record Follows {R : Type 0} (room : R → ℕ) (holds : R → ℕ → Bool) (c : Call) (a b : Kernel R) (x : Answer) : Type 0 where
  pub after : meaning room holds b ≡ step c (meaning room holds a)
  pub value : x ≡ answer c (meaning room holds a)

-- The answer after a dispatch that started d, or else gave the word w.
abbrev pub told : Option ℕ → Word → Schedule → Reply
told d w y = record { running = running (started d y); word = word_of d w; mark = None }

-- The answer of a call that starts nothing.
abbrev pub steady : List ℕ → Option Bool → Reply
steady chain m = record { running = head chain; word = Same; mark = m }
