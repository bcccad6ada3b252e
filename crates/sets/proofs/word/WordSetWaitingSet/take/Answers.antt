use Rattle.vectors.specs.Vectors.{in_vector}
use Rattle.vectors.proofs.Vectors.{without_none, in_past}
use Rattle.sets.proofs.word.WordSetWaitingSet.take.Goals as goal

pub returns-then-t-self-clause-after : goal.returns-then-t-self-clause-after
returns-then-t-self-clause-after c = let s = c.args.self.now in without_none c.args.t (in_vector s.word) (in_past s.word s.size c.args.t s.within c.if-t-self.true)
