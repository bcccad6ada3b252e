use Rattle.std.proofs.Common.{◌<◌, sym, subst, arith}
use Rattle.sets.proofs.LowestOnes.{places, entry_is, lowest_small}
use Rattle.sets.proofs.lowest.lowest_one.Goals as goal

pub returns : goal.returns
unfolding places
returns c =
    let h : c.args.n < 256 = omega arith in
    record { value = entry_is c.args.n h; bound = subst (λ k. k < 8) (sym (entry_is c.args.n h)) (lowest_small c.args.n h) }
