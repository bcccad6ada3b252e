use borrow.Author.Tests.{tests}
use Rattle.std.proofs.Common.{◌+◌, rules, ap, ◌∙◌, reverse}
use Rattle.std.proofs.lemmas.Iterator.Adapters.{YieldsList-from_rev_slice}
use Rattle.std.proofs.lemmas.Iterator.Consumers.{count_from_yields_List}
use Rattle.std.proofs.lemmas.Iterator.Search.{YieldsList-from_take_while}
use Rattle.std.proofs.lemmas.List.Folds.{length-prefix_len}
use Rattle.oil.specs.Positions.{in_line}
use Rattle.oil.proofs.position.column.Goals as goal

pub returns : goal.returns
returns c =
    let back = reverse c.args.front.now in
    ap (λ n. 1 + n)
    (count_from_yields_List c.take_while.result c.count.result c.count.ensures.ran
    (YieldsList-from_take_while _ in_line (YieldsList-from_rev_slice c.args.front.now cc) c.take_while.ensures.closure c.take_while.ensures.done (λ x b q k. search (rules, tests)))
    ∙ length-prefix_len in_line back)
