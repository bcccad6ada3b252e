use Rattle.std.proofs.Common.{◌≡◌, Bool, cond, List, [], ◌∷◌, ◌++◌, vec_items, sym, refl, ap, ◌∙◌, subst, append-nil, arith}
use Rattle.plan.specs.declared.entry.Entry.{Entry}
use Rattle.sheet.specs.Entries.{in_turn, entry_if, entries_between, entries_over, entries_of}
use Rattle.sheet.specs.Tables.{ListsTable}
use Rattle.sheet.proofs.Turns.{turn_more}
use Rattle.sheet.proofs.Exactness.{lists_table, made_of}
use Rattle.sheet.proofs.entries.entries.Goals as goal
use Rattle.sheet.proofs.entries.entries.Goals.{then-may_hold_up+in_ok-push, else-may_hold_up}

pub loop-high-preserved : goal.loop-high-preserved
loop-high-preserved c =
    let p = c.args.plan.now in
    let r = c.loop-resource.resource in
    let l = c.loop-low.low in
    let t = c.loop-high.high in
    let now = vec_items c.loop-high.out in
    let listed : Bool → List Entry = λ b. now ++ cond b (made_of l t r ∷ []) [] in
    let one : vec_items c.if-may_hold_up.out ≡ now ++ entry_if p r l t
    = elim c.if-may_hold_up.branch [
      | then-may_hold_up+in_ok-push w ↦ ap vec_items w.out-is ∙ w.in_ok-push.ensures.items ∙ ap listed (sym w.if-may_hold_up.true ∙ c.may_hold_up.ensures)
      | else-may_hold_up w ↦ ap vec_items w.out-is ∙ sym (append-nil now) ∙ ap listed (sym w.if-may_hold_up.false ∙ c.may_hold_up.ensures)
    ] in
    turn_more (entry_if p r l) t (in_turn (entries_over p) r ++ in_turn (entries_between p r) l) now (vec_items c.if-may_hold_up.out) c.loop-high.invariant one

pub loop-low-preserved : goal.loop-low-preserved
unfolding entries_between
loop-low-preserved c =
    let p = c.args.plan.now in
    let r = c.loop-resource.resource in
    let l = c.loop-low.low in
    let start = in_turn (entries_over p) r in
    let now = start ++ in_turn (entries_between p r) l in
    let end : c.loop-high.high ≡ 64 = omega arith in
    turn_more (entries_between p r) l start now (vec_items c.loop-high.out) refl (c.loop-high.invariant ∙ ap (λ n. now ++ in_turn (entry_if p r l) n) end)

pub loop-resource-preserved : goal.loop-resource-preserved
unfolding entries_over
loop-resource-preserved c =
    let p = c.args.plan.now in
    let r = c.loop-resource.resource in
    let now = in_turn (entries_over p) r in
    let end : c.loop-low.low ≡ 64 = omega arith in
    turn_more (entries_over p) r [] now (vec_items c.loop-low.out) refl (c.loop-low.invariant ∙ ap (λ n. now ++ in_turn (entries_between p r) n) end)

pub returns : goal.returns
unfolding entries_of
returns c =
    let p = c.args.plan.now in
    let end : c.loop-resource.resource ≡ p.resources = omega arith in
    let all : vec_items c.loop-resource.out ≡ entries_of p = c.loop-resource.invariant ∙ ap (in_turn (entries_over p)) end in
    record { value = all; table = subst (ListsTable p) (sym all) (lists_table p) }
