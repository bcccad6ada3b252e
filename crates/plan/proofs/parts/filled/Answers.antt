use Rattle.std.proofs.Common.{◌++◌, drop, get_or, replicate, length, sym, ap, ◌∙◌, arith}
use Rattle.vectors.specs.Vectors.{in_vector}
use Rattle.plan.specs.Rows.{SameRows}
use Rattle.plan.proofs.Strangers.{inside, not_inside, padded}
use Rattle.plan.proofs.parts.filled.Goals as goal
use Rattle.plan.proofs.parts.filled.Goals.{then-rows-gt32-via-then-rows-gt32, then-rows-gt32-via-else-rows-gt32+then-any_strays}

pub returns-then-rows-gt32 : goal.returns-then-rows-gt32
returns-then-rows-gt32 c h =
    elim c.then-rows-gt32.branch [
      | then-rows-gt32-via-then-rows-gt32 w ↦ omega (arith, h.0, w.if-rows-gt32.true)
      | then-rows-gt32-via-else-rows-gt32+then-any_strays w ↦ not_inside c.args.rows.now c.args.w (sym w.if-any_strays.ensures) h.1
    ]

pub returns : goal.returns
returns c =
    let rows = c.args.rows.now in
    let table = c.copy_from_slice.new.self ++ drop (length rows) (replicate 32 0) in
    let same : SameRows table rows = λ i. ap (λ xs. get_or (xs ++ drop (length rows) (replicate 32 0)) i 0) c.copy_from_slice.ensures.after ∙ padded rows (length rows) 32 i in
    (omega arith, same, λ i t e. inside rows c.args.w (sym c.if-any_strays.ensures) i t (ap (λ v. in_vector v t) (sym (same i)) ∙ e))
