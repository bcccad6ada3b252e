use Rattle.std.proofs.Common.{vec_items}
use Rattle.sheet.proofs.Adding.{lines_next, in_table}
use Rattle.sheet.proofs.lines.push_entries.Goals as goal

pub push_entry-requires : goal.push_entry-requires
push_entry-requires c = in_table c.args.plan.now c.args.entries.now c.loop-e.e-index _ c.requires c.loop-e-test.true

pub loop-e-preserved : goal.loop-e-preserved
loop-e-preserved c =
    lines_next c.args.plan.now c.args.entries.now c.loop-e.e-index _ (vec_items c.args.out.now) (vec_items c.loop-e.out) (vec_items c.push_entry.new.out)
    c.loop-e-test.true c.loop-e.invariant c.in_ok-push_entry.ensures
