use Rattle.std.proofs.Common.{sym, ap, ◌∙◌}
use Rattle.machine.specs.declared.Call.TheVariants.{Install, Release, Lock}
use Rattle.machine.specs.Machine.{Machine, Answer, step, answer}
use Rattle.machine.specs.History.{accepted}
use Rattle.vectors.proofs.Bits.{shifted}
use Rattle.runs.proofs.Shown.{accepted_if, shows}
use Rattle.runs.proofs.entries.show_entry.Goals as goal

pub returns : goal.returns
returns g c =
    let s = g.R.WaitingSet in
    let p = c.args.plan.now in
    let l = c.args.e.low in
    let t = c.args.e.high in
    let r = c.args.e.resource in
    shows p l t r (s.room c.args.set) (s.holds c.args.set)
    c.new-kernel.ensures.set
    (sym c.may_hold_up.ensures ∙ c.if-not-may_hold_up.false)
    (ap (λ (x : Answer). accepted x) (ap (λ (x : Machine). answer (Install p) x) (sym c.new-kernel.ensures.made) ∙ sym c.install.ensures.value) ∙ accepted_if c.install.result (sym c.if-is_err.ensures.value))
    _
    (c.release-2.ensures.after
    ∙ ap (λ (x : Machine). step (Release (shifted 64 t)) x) c.lock.ensures.after
    ∙ ap (λ (x : Machine). step (Release (shifted 64 t)) (step (Lock r) x)) c.release.ensures.after
    ∙ ap (λ (x : Machine). step (Release (shifted 64 t)) (step (Lock r) (step (Release (shifted 64 l)) x))) (c.install.ensures.after ∙ ap (λ (x : Machine). step (Install p) x) c.new-kernel.ensures.made))
