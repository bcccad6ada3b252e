use Rattle.std.proofs.Common.{sym, ◌∙◌}
use Rattle.std.proofs.lemmas.Bool.{lt-ltb, cond-true}
use Rattle.vectors.proofs.Vectors.{code_with, with_below}
use Rattle.vectors.proofs.with.Goals as goal

pub returns-then-t-lt64-clause-after : goal.returns-then-t-lt64-clause-after
returns-then-t-lt64-clause-after c = code_with c.args.v c.args.t c.if-t-lt64.true ∙ sym (cond-true _ _ _ (lt-ltb c.args.t 64 c.if-t-lt64.true))

pub returns-then-t-lt64-clause-room : goal.returns-then-t-lt64-clause-room
returns-then-t-lt64-clause-room c n = with_below c.args.v c.args.t n
