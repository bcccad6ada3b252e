use Rattle.std.proofs.Common.{sym, arith, rules}
use Rattle.sets.proofs.TwoLevels.{highest_rows, no_rows}
use Rattle.sets.proofs.two_level.TwoLevelSetWaitingSet.highest.Goals as goal

pub returns-then-self-eq0 : goal.returns-then-self-eq0
returns-then-self-eq0 c = let s = c.args.self.now in sym (no_rows s.group s.rows s.tied c.if-self-eq0.true)

pub returns : goal.returns
returns c =
    let s = c.args.self.now in
    sym (highest_rows s.group c.lowest_one-row.result c.lowest_one-bit.result s.rows s.tied (omega arith) (omega arith) (search rules) c.lowest_one-row.ensures.value c.lowest_one-bit.ensures.value).2
