use Rattle.std.proofs.Common.{◌≡◌, ℕ, ◌<◌, ◌^◌, min, Bool, false, ◌++◌, IfOk, vec_items, ap, ◌∙◌, subst, ap₂, arith}
use mathlib.Core.Path.{fun_ext}
use Rattle.vectors.specs.Vectors.{in_vector}
use Rattle.vectors.proofs.Vectors.{in_none}
use Rattle.machine.specs.declared.Call.TheVariants.{Install, Release, Lock}
use Rattle.machine.specs.Machine.{Machine, fresh, step}
use Rattle.texts.specs.declared.outcomes.Report.{Report}
use Rattle.texts.specs.declared.sheets.ShownCall.TheVariants as shown
use Rattle.texts.specs.Sheets.{sheet_line}
use Rattle.sheet.specs.Lines.{told_of, entry_lines}
use Rattle.sheet.proofs.Exactness.{bounds}
use Rattle.sheet.proofs.Adding.{three}
use Rattle.sheet.proofs.lines.push_entry.Goals as goal

pub returns : goal.returns
unfolding entry_lines
returns c =
    let p = c.args.plan.now in
    let e = c.args.e in
    let l = e.low in
    let t = e.high in
    let r = e.resource in
    let b = bounds p l t r c.requires in
    let small : l < 64 = omega (arith, b.below, b.task) in
    let a : 2 ^ min l 63 ≡ 2 ^ l = ap (λ n. 2 ^ n) (omega (arith, small)) in
    let d : 2 ^ min t 63 ≡ 2 ^ t = ap (λ n. 2 ^ n) (omega (arith, b.task)) in
    let s = c.new.result in
    let empty : ◌≡◌ {A = ℕ → Bool} (in_vector s.word) (λ t. false) = ap in_vector c.new.ensures.empty ∙ fun_ext in_none in
    let start : fresh s.size (in_vector s.word) ≡ fresh 64 (λ t. false) = ap₂ (λ (n : ℕ) (w : ℕ → Bool). fresh n w) c.new.ensures.size empty in
    let begun = c.in_ok-begun.ensures.after ∙ ap (step (Install p)) start in
    let released = c.push_call.ensures.after ∙ ap₂ (λ (n : ℕ) (m : Machine). step (Release n) m) a begun in
    let locked = c.push_call-2.ensures.after ∙ ap (step (Lock r)) released in
    let one = ap₂ (λ (n : ℕ) (m : Machine). told_of (Release n) m) a begun in
    let two = ap (told_of (Lock r)) released in
    let last = ap₂ (λ (n : ℕ) (m : Machine). told_of (Release n) m) d locked in
    three c.push_call-3.result (vec_items c.args.out.now) (vec_items c.push_call.new.out) (vec_items c.push_call-2.new.out) (vec_items c.push_call-3.new.out) _ _ _
    (c.in_ok-push_call.ensures.line ∙ ap (λ (x : Report). vec_items c.args.out.now ++ sheet_line l t r (shown.Release l) x) one)
    (c.in_ok-push_call-2.ensures.line ∙ ap (λ (x : Report). vec_items c.push_call.new.out ++ sheet_line l t r (shown.Lock r) x) two)
    (subst (λ (x : Report). IfOk c.push_call-3.result (λ _. vec_items c.push_call-3.new.out ≡ vec_items c.push_call-2.new.out ++ sheet_line l t r (shown.Release t) x)) last c.push_call-3.ensures.line)
