use Rattle.std.proofs.Common.{length, Ok, rules}
use Rattle.oil.proofs.Understands.{understood_by}
use Rattle.oil.proofs.Laws.{left_free, right_free}
use Rattle.oil.proofs.reader.read.Goals as goal

pub returns-in_err-draft-clause-meaning : goal.returns-in_err-draft-clause-meaning
returns-in_err-draft-clause-meaning c =
    understood_by c.args.text.now (length c.args.names.now) c.args.plan.now c.args.plan.now c.from_residual.result (search rules) (search rules)

pub returns-in_err-draft-clause-nothing_left : goal.returns-in_err-draft-clause-nothing_left
returns-in_err-draft-clause-nothing_left c = left_free c.args.text.now (length c.args.names.now) c.from_residual.result (search rules)

pub returns-in_err-draft-clause-nothing_right : goal.returns-in_err-draft-clause-nothing_right
returns-in_err-draft-clause-nothing_right c = right_free c.args.text.now (length c.args.names.now) c.from_residual.result (search rules)

pub returns-clause-meaning : goal.returns-clause-meaning
returns-clause-meaning c =
    understood_by c.args.text.now (length c.args.names.now) c.args.plan.now c.from.result (Ok tt) (search rules) (search rules)
