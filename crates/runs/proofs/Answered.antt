-- The answers of calls, one more, and beside their calls.
use Rattle.std.proofs.Common.{◌≡◌, ℕ, zero, suc, ◌+◌, ◌<◌, List, [], ◌∷◌, ◌++◌, length, get_or, take, sym, refl, ap, ◌∙◌}
use Rattle.std.proofs.lemmas.List.{take_more}
use Rattle.machine.specs.declared.Call.{Call}
use Rattle.machine.specs.Machine.{Machine, step, answer, run, answers}
use Rattle.machine.specs.History.{History}
use Rattle.machine.specs.Laws.{record_run, paired}

answers_more : (cs : List Call) (c : Call) (m : Machine) → answers (cs ++ (c ∷ [])) m ≡ answers cs m ++ (answer c (run cs m) ∷ [])
answers_more [] c m = refl
answers_more (x ∷ cs) c m = ap (λ xs. answer x m ∷ xs) (answers_more cs c (step x m))

pub answers_next : (cs : List Call) (i : ℕ) (c : Call) (m : Machine) → i < length cs → c ≡ get_or cs i c
    → answers (take i cs) m ++ (answer c (run (take i cs) m) ∷ []) ≡ answers (take (i + 1) cs) m
answers_next cs i c m l e =
    sym (answers_more (take i cs) c m) ∙ ap (λ ys. answers ys m) (sym (take_more cs i c l ∙ ap (λ x. take i cs ++ (x ∷ [])) (sym e)))

-- calls beside their answers are a history

pub paired_all : (n : ℕ) (cs : List Call) (m : Machine) (h : History) → paired (take n cs) (take n (answers cs m)) h ≡ record_run (take n cs) m h
paired_all zero cs m h = refl
paired_all (suc n) [] m h = refl
paired_all (suc n) (c ∷ cs) m h = paired_all n cs (step c m) (record { call = c; answer = answer c m } ∷ h)
