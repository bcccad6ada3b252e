use borrow.Author.Tests.{tests}
use Rattle.std.proofs.Common.{rules}
use Rattle.std.proofs.lemmas.Iterator.{YieldsList-from_slice}
use Rattle.std.proofs.lemmas.Iterator.Consumers.{YieldsList-from_copied}
use Rattle.std.proofs.lemmas.Iterator.Search.{find_from_yields_List}
use Rattle.std.specs.Str.{bytes_eq}
use Rattle.oil.specs.declared.table.NameRecord.{NameRecord}
use Rattle.oil.proofs.table.look_up.Goals as goal

pub returns : goal.returns
returns c =
    let found = find_from_yields_List (λ (r : NameRecord). bytes_eq r.name c.args.key) _ _ c.find.result c.find.ensures.ran (YieldsList-from_copied (YieldsList-from_slice c.args.names.now cc)) (λ x b q k. search (rules, tests)) in
    search rules
