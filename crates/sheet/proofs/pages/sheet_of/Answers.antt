use Rattle.std.proofs.Common.{vec_items, sym, subst}
use Rattle.sheet.specs.Lines.{AllInTable}
use Rattle.sheet.proofs.Adding.{all_in_table}
use Rattle.sheet.proofs.pages.sheet_of.Goals as goal

pub push_entries-requires : goal.push_entries-requires
push_entries-requires c = subst (AllInTable c.in-Ok.plan) (sym c.as_slice.ensures.value) (all_in_table c.in-Ok.plan (vec_items c.in_ok-all-in-Ok.all) c.in_ok-all-in-Ok.ensures.table.sound)
