use Rattle.std.proofs.Common.{sym, ◌∙◌}
use Rattle.vectors.proofs.Vectors.{highest_fits}
use Rattle.sets.proofs.word.WordSetWaitingSet.highest.Goals as goal

pub returns : goal.returns
returns c = let s = c.args.self.now in c.highest.ensures ∙ sym (highest_fits s.word s.size s.few s.within)
