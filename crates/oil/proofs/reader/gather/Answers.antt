use Rattle.std.proofs.Common.{◌≡◌, Err, sym, ◌∙◌, subst, arith, rules}
use Rattle.oil.specs.Faults.{raised_plan}
use Rattle.oil.specs.Reading.{read_all}
use Rattle.oil.specs.Records.{left_after}
use Rattle.oil.proofs.Runs.{Going, start, going_in, going_unread, going_refused, going_end, going_on}
use Rattle.oil.proofs.reader.gather.Goals as goal

pub loop-step-init : goal.loop-step-init
loop-step-init c =
    let text = c.args.text.now in
    let names = c.args.names.now in
    let s = c.in_ok-state.state in
    subst (λ d. Going text (read_all text) (left_after text names) names d s 0) (sym c.empty-draft.ensures)
    (start text names s (sym c.in_ok-state.ensures) c.requires.blank c.requires.room)

pub returns-in_err-step-clause-value : goal.returns-in_err-step-clause-value
returns-in_err-step-clause-value c =
    let is : c.from_residual-in_err-step.result ≡ Err (raised_plan c.in_err-step.field-0.0) = search rules in
    is ∙ (going_unread c.loop-step.invariant c.in_err-step.ensures).0

pub returns-in_err-step-clause-after : goal.returns-in_err-step-clause-after
returns-in_err-step-clause-after c = (going_unread c.loop-step.invariant c.in_err-step.ensures).1

pub judge-requires-clause-within : goal.judge-requires-clause-within
judge-requires-clause-within c = going_in c.loop-step.invariant c.in_ok-step.ensures

pub returns-in_err-draft-clause-value : goal.returns-in_err-draft-clause-value
returns-in_err-draft-clause-value c =
    let is : c.from_residual-in_err-draft.result ≡ Err c.in_err-draft.field-0.0 = search rules in
    is ∙ (going_refused c.loop-step.invariant c.in_ok-step.ensures c.in_err-draft.ensures.after c.in_err-draft.ensures.value).0

pub returns-in_err-draft-clause-after : goal.returns-in_err-draft-clause-after
returns-in_err-draft-clause-after c = (going_refused c.loop-step.invariant c.in_ok-step.ensures c.in_err-draft.ensures.after c.in_err-draft.ensures.value).1

pub returns-then-eq-clause-value : goal.returns-then-eq-clause-value
returns-then-eq-clause-value c = (going_end c.loop-step.invariant c.in_ok-step.ensures c.in_ok-draft.ensures.after c.in_ok-draft.ensures.value (search rules)).0

pub returns-then-eq-clause-after : goal.returns-then-eq-clause-after
returns-then-eq-clause-after c = (going_end c.loop-step.invariant c.in_ok-step.ensures c.in_ok-draft.ensures.after c.in_ok-draft.ensures.value (search rules)).1

pub loop-step-smaller : goal.loop-step-smaller
loop-step-smaller c =
    let on = going_on c.loop-step.invariant c.in_ok-step.ensures c.in_ok-draft.ensures.after c.in_ok-draft.ensures.value (search rules) in
    let further = on.1 in
    let within = on.2 in
    omega arith

pub loop-step-preserved : goal.loop-step-preserved
loop-step-preserved c = (going_on c.loop-step.invariant c.in_ok-step.ensures c.in_ok-draft.ensures.after c.in_ok-draft.ensures.value (search rules)).0
