-- One call more of a run and of its history.
use Rattle.std.proofs.Common.{◌≡◌, ℕ, ◌+◌, ◌<◌, List, [], ◌∷◌, ◌++◌, length, get_or, take, sym, refl, ap, ◌∙◌, subst}
use Rattle.std.proofs.lemmas.List.{take_more}
use Rattle.machine.specs.declared.Call.{Call}
use Rattle.machine.specs.Machine.{Machine, Answer, fresh, step, answer, run}
use Rattle.machine.specs.History.{History}
use Rattle.machine.specs.Laws.{Lawful, record_run, history, StaysLawful}
use Rattle.laws.proofs.AllLawful.{all_lawful}

pub run_more : (cs : List Call) (c : Call) (m : Machine) → run (cs ++ (c ∷ [])) m ≡ step c (run cs m)
run_more [] c m = refl
run_more (x ∷ cs) c m = run_more cs c (step x m)

record_more : (cs : List Call) (c : Call) (m : Machine) (h : History) → record_run (cs ++ (c ∷ [])) m h ≡ record { call = c; answer = answer c (run cs m) } ∷ record_run cs m h
record_more [] c m h = refl
record_more (x ∷ cs) c m h = record_more cs c (step x m) (record { call = x; answer = answer x m } ∷ h)

pub stays_lawful : (m : Machine) (c : Call) (a : Answer) → a ≡ answer c m → StaysLawful m c a
stays_lawful m c a e n w cs s r =
    subst Lawful
    (record_more cs c (fresh n w) [] ∙ ap (λ (x : Answer). record { call = c; answer = x } ∷ history n w cs) (ap (answer c) r ∙ sym e))
    (all_lawful n w s (cs ++ (c ∷ [])))

pub run_next : (cs : List Call) (i : ℕ) (c : Call) (m : Machine) → i < length cs → c ≡ get_or cs i c → run (take (i + 1) cs) m ≡ step c (run (take i cs) m)
run_next cs i c m l e = ap (λ xs. run xs m) (take_more cs i c l ∙ ap (λ x. take i cs ++ (x ∷ [])) (sym e)) ∙ run_more (take i cs) c m
