use Rattle.std.proofs.Common.{◌≡◌, ℕ, List, [], ◌∷◌, ◌++◌, take, vec_items, sym, ap, ◌∙◌, subst, ap₂, arith, take_all}
use Rattle.machine.specs.declared.Call.{Call}
use Rattle.machine.specs.Machine.{Machine, Answer, step, answer, fresh, run, answers}
use Rattle.machine.specs.Laws.{history, paired, Lawful}
use Rattle.laws.proofs.AllLawful.{all_lawful}
use Rattle.kernel.specs.Meaning.{meaning}
use Rattle.laws.proofs.Histories.{run_next}
use Rattle.runs.proofs.Answered.{answers_next, paired_all}
use Rattle.runs.proofs.lists.run.Goals as goal

pub loop-call-preserved : goal.loop-call-preserved
loop-call-preserved g c =
    let m = meaning g.R.WaitingSet.room g.R.WaitingSet.holds c.new-kernel.result in
    let cs = c.args.calls.now in
    let i = c.loop-call.call-index in
    let x = c.call-item.result in
    let inv = c.loop-call.invariant in (
      omega arith,
      c.call.ensures.after ∙ ap (step x) inv.1 ∙ sym (run_next cs i x m c.loop-call-test.true c.call-item.is),
      c.in_ok-push.ensures.items
          ∙ ap₂ (λ (xs : List Answer) (a : Answer). xs ++ (a ∷ [])) inv.2 (c.call.ensures.value ∙ ap (answer x) inv.1)
          ∙ answers_next cs i x m c.loop-call-test.true c.call-item.is,
    )

pub returns : goal.returns
returns g c =
    let s = g.R.WaitingSet in
    let cs = c.args.calls.now in
    let inv = c.loop-call.invariant in
    let all : take c.loop-call.call-index cs ≡ cs = take_all c.loop-call.call-index cs c.loop-call-test.false in
    let m = fresh (s.room c.args.set) (s.holds c.args.set) in
    let told : vec_items c.loop-call.answers ≡ answers cs m = inv.2 ∙ ap₂ (λ (xs : List Call) (m : Machine). answers xs m) all c.new-kernel.ensures.made in
    let lawful : (n : ℕ) → Lawful (history (s.room c.args.set) (s.holds c.args.set) (take n cs)) = λ n. all_lawful (s.room c.args.set) (s.holds c.args.set) c.new-kernel.ensures.set (take n cs) in
    record {
      after = inv.1 ∙ ap₂ (λ (xs : List Call) (m : Machine). run xs m) all c.new-kernel.ensures.made;
      told = told;
      lawful = lawful;
      noted = λ n. subst Lawful (sym (ap (λ (said : List Answer). paired (take n cs) (take n said) []) told ∙ paired_all n cs m [])) (lawful n);
    }
